-- A sheet and a row that is a sheet of its own, combined: the sheet with that row more.
-- Assumes nothing.
use Prim.Native.Nat.{ℕ, ◌+◌, ◌^◌, ◌<◌, ◌≤◌}
use mathlib.Core.Path.{◌≡◌, refl, sym, ap, ap₂, subst, ◌∙◌}
use mathlib.Core.Bool.{true≢false}
use mathlib.Core.List.{List}
use native.Mathlib.Omega.{arith}
use lib.Bits.{bit_or, or_comm, or_zero_l}
use Rattle.tables.specs.Count.{how_many}
use Rattle.tables.specs.Key.{Key}
use Rattle.tables.specs.Table.{Row, marks_at}
use Rattle.tables.proofs.Counts.{many-most, many-none, has-row}
use Rattle.tables.proofs.Keys.{one-row}
use Rattle.tables.proofs.Marks.{or-within}
use Rattle.sheet.specs.declared.Cells.{Cells}
use Rattle.sheet.specs.declared.Half.{Half}
use Rattle.sheet.specs.declared.Half.TheVariants.{Nodes, Edges}
use Rattle.sheet.specs.declared.Header.{Header}
use Rattle.sheet.specs.Accepted.{Accepted, WellFormed}
use Rattle.sheet.specs.Limits.{max_nodes, max_edges}
use Rattle.sheet.specs.Named.{node_row, edge_row, row_at}
use Rattle.sheet.specs.Rows.{header_of, edge_of, edge_table, node_key_at, count_in, as_edge, row_key, row_key_at}
use Rattle.sheet.specs.Verdict.{edge_fault}
use Rattle.sheet.proofs.Accepting.{shape-good}
use Rattle.sheet.proofs.Forming.{formed-of}
use Rattle.sheet.proofs.Refusing.{else-good}
use Rattle.combine.specs.declared.Rule.TheVariants.{Either}
use Rattle.combine.specs.Combined.{Making, first_stays, second_stays, rows_kept}
use Rattle.combine.specs.Halves.{kept_rows}
use Rattle.combine.specs.Rules.{makes}
use Rattle.combine.specs.Sheets.{IsCombined, Pair, Measured}
use Rattle.combine.proofs.Reading.{half-low}
use Rattle.combine.proofs.Ruling.{either-pair}
use Rattle.meaning.specs.Added.{table_in, other_half, key_named, IsAdded}
use Rattle.add.specs.Adding.{most_in}
use Rattle.add.specs.Lone.{IsLone}
use Rattle.add.proofs.Alone.{table_is, table_none}
use Rattle.add.proofs.Showing.{Good}
use Rattle.combine.specs.declared.Measure.{Measure}

-- ---- a row that is not there by its words is not there by what it names

-- both its ends are rows of the sheet
abbrev pub EndsIn : Half → List ℕ → Cells → Type 0
EndsIn Nodes s c = Unit {0}
EndsIn Edges s c = (c.second < (header_of s).nodes) × (c.third < (header_of s).nodes)

pub ends-in : (half : Half) (s : List ℕ) (c : Cells) → Good half s c → EndsIn half s c
unfolding edge_fault
ends-in Nodes s c g = tt {0}
ends-in Edges s c g = let p = shape-good (header_of s) (as_edge c) (else-good _ _ g.row).0 in (p.from, p.to)

pub named-words : (half : Half) (s : List ℕ) → Accepted s → (c : Cells) → EndsIn half s c → (i : ℕ) → i < count_in half (header_of s) → (row_at half s i).key ≡ key_named half s c → row_key_at half s i ≡ row_key c
unfolding node_row edge_row
named-words Nodes s v c n i l e = e
named-words Edges s v c n i l e =
    let p = v.edges.shaped i l in
    let kind : (edge_of s i).kind ≡ c.first = cc e in
    let from : node_key_at s (edge_of s i).from ≡ node_key_at s c.second = cc e in
    let to : node_key_at s (edge_of s i).to ≡ node_key_at s c.third = cc e in
    let a = one-row (node_key_at s) (header_of s).nodes v.nodes.rise _ _ p.from n.0 from in
    let b = one-row (node_key_at s) (header_of s).nodes v.nodes.rise _ _ p.to n.1 to in
    cc (kind, a, b)

-- ---- marks

or-none : (x : ℕ) → bit_or x 0 ≡ x
or-none x = or_comm x 0 ∙ or_zero_l x

table-low : (half : Half) (s : List ℕ) → Accepted s → (k : Key) → marks_at (table_in half s) k < 2 ^ (header_of s).offices
table-low half s v k = rw (table_is half s) (half-low s (header_of s) v half k)

pub no-marks : (half : Half) (s : List ℕ) → Accepted s → (c : Cells) → Good half s c → marks_at (table_in half s) (key_named half s c) ≡ 0
no-marks half s v c g = table_none half s v (key_named half s c) (λ i l e. true≢false (sym (has-row _ _ _ i l (named-words half s v c (ends-in half s c g) i l e)) ∙ g.free))

module _ (half : Half) (s : List ℕ) (v : Accepted s) (c : Cells) (g : Good half s c) (u : List ℕ) (A : IsLone half s c u) where
  module _ (t : List ℕ) (C : IsCombined bit_or bit_or (header_of s).offices s u t) where
    marks-either : (x : Half) (k : Key) → marks_at (table_in x t) k ≡ bit_or (marks_at (table_in x s) k) (marks_at (table_in x u) k)
    marks-either Nodes k = C.nodes k
    marks-either Edges k = C.edges k

    pub either-added : IsAdded half s c t
    either-added =
        record {
          accepted = C.accepted;
          offices = C.offices-are;
          row = marks-either half (key_named half s c) ∙ ap₂ bit_or (no-marks half s v c g) A.row;
          others = λ k apart. marks-either half k ∙ (ap (λ (y : ℕ). bit_or (marks_at (table_in half s) k) y) (A.others k apart) ∙ or-none (marks_at (table_in half s) k));
          rest = λ k.
              marks-either (other_half half) k
              ∙ or-within (header_of s).offices (marks_at (table_in (other_half half) s) k) (marks_at (table_in (other_half half) u) k) (table-low (other_half half) s v k)
              (subst (λ (x : ℕ). marks_at (table_in (other_half half) u) k < 2 ^ x) A.offices (table-low (other_half half) u A.accepted k)) (A.rest k);
        }

  -- ---- how many rows there are then

  kept-most : (F : Making) (n : ℕ) (f : ℕ → Row) (m : ℕ) (f' : ℕ → Row) → rows_kept F n f m f' ≤ n + how_many (second_stays F n f f') m
  unfolding rows_kept
  kept-most F n f m f' = omega (arith, many-most (first_stays F f m f') n)

  abbrev H : Header
  H = header_of s

  abbrev G : Header
  G = header_of u

  one_kept : kept_rows Either half s H u G ≤ count_in half H + 1
  one_kept = omega (arith, kept-most (makes Either) (count_in half H) (row_at half s) (count_in half G) (row_at half u), many-most (second_stays (makes Either) (count_in half H) (row_at half s) (row_at half u)) (count_in half G), A.one)

  none_kept : kept_rows Either (other_half half) s H u G ≤ count_in (other_half half) H
  unfolding second_stays
  none_kept =
      omega (arith, kept-most (makes Either) (count_in (other_half half) H) (row_at (other_half half) s) (count_in (other_half half) G) (row_at (other_half half) u), many-none (second_stays (makes Either) (count_in (other_half half) H) (row_at (other_half half) s) (row_at (other_half half) u)) (count_in (other_half half) G) (λ j l. rw (A.ends j l) refl))

  both-few : (x : Half) → kept_rows Either x s H u G ≤ count_in x H + 1 → kept_rows Either (other_half x) s H u G ≤ count_in (other_half x) H → count_in x H < most_in x H
      → (kept_rows Either Nodes s H u G ≤ max_nodes) × (kept_rows Either Edges s H u G ≤ max_edges H.form)
  both-few Nodes a b r = (omega (arith, a, r), omega (arith, b, v.nodes.header.edges))
  both-few Edges a b r = (omega (arith, b, v.nodes.header.nodes), omega (arith, a, r))

  pub added-few : (h i : Header) → h ≡ header_of s → i ≡ header_of u → (ma mb : List ℕ) (m : Measure) → Measured Either Either s h u i ma mb m → (m.nodes ≤ max_nodes) × (m.edges ≤ max_edges h.form)
  added-few h i p q ma mb m M =
      let a = subst (λ (x : Header). Measured Either Either s x u i ma mb m) p M in
      let b = subst (λ (x : Header). Measured Either Either s (header_of s) u x ma mb m) q a in
      let f = both-few half one_kept none_kept g.room in
      subst (λ (x : Header). (m.nodes ≤ max_nodes) × (m.edges ≤ max_edges x.form)) (sym p) (omega (arith, b.node-rows.count, f.0), omega (arith, b.edge-rows, f.1))

  pub added-kept : (h i : Header) → h ≡ header_of s → i ≡ header_of u → (kept_rows Either Nodes s h u i ≤ max_nodes) × (kept_rows Either Edges s h u i ≤ max_edges h.form)
  added-kept h i p q = rw (p, q) (both-few half one_kept none_kept g.room)

  -- the two as the combination asks for them
  pub added-pair : (h i : Header) → WellFormed s (edge_table s) h → i ≡ header_of u → Pair Either Either h.offices s h u i
  added-pair h i w q =
      either-pair s h u i w (formed-of u A.accepted i q) (ap (λ (x : Header). x.offices) q ∙ (A.offices ∙ sym (ap (λ (x : Header). x.offices) w.head)))

  pub combined-added : (h : Header) → h ≡ header_of s → (t : List ℕ) → IsCombined (makes Either) (makes Either) h.offices s u t → IsAdded half s c t
  combined-added h p t C = either-added t (subst (λ (x : Header). IsCombined bit_or bit_or x.offices s u t) p C)
