-- The seam: an accepted sheet's tables rise, and what an office holds and sees of them is its marked rows. Below it there are row numbers, above it none.
-- Assumes nothing.
use Prim.Native.Nat.{ℕ, ◌+◌, ◌^◌, ◌<◌}
use mathlib.Core.Path.{◌≡◌, refl, sym, ◌∙◌, ap}
use mathlib.Core.Bool.{Bool, true, false, true≢false}
use mathlib.Core.List.{List, [], ◌∷◌, ◌++◌}
use native.Mathlib.Omega.{arith}
use Rattle.tables.specs.Key.{Key, identity, relation, below_key}
use Rattle.tables.specs.Marks.{marked, within}
use Rattle.tables.specs.Table.{marks_at, Rise}
use Rattle.tables.specs.Office.{held_by, Same}
use Rattle.tables.proofs.Alike.{held-marks}
use Rattle.tables.proofs.Keys.{Lies, lower, equal, higher, lies, below_apart, below-asym, Ahead, first, rest, ahead, behind, below-first, below-second, rises, one-row}
use Rattle.tables.proofs.Marks.{within-marked}
use Rattle.tables.proofs.Tables.{rows-rise, MarkedRow, held-row, row-held}
use Rattle.sheet.specs.declared.Edge.{Edge}
use Rattle.sheet.specs.Rows.{header_of, node_at, edge_at, edge_of, edge_table, edge_key, node_key_at, edge_key_at, ends_fit}
use Rattle.sheet.specs.Accepted.{RowsRise, Accepted}
use Rattle.sheet.specs.Named.{node_row, edge_row, tables_of, held_at, seen_at}

-- the key of a relation, from its row
abbrev relation_of : List ℕ → Edge → Key
relation_of s e = relation e.kind (node_key_at s e.from) (node_key_at s e.to)

-- edge rows that rise by row numbers rise by what they name, since node rows rise
pub lower-named : (s : List ℕ) (n : ℕ) → RowsRise (node_key_at s) n → (e d : Edge) → e.from < n → d.from < n → e.to < n → d.to < n
    → below_key (edge_key e) (edge_key d) ≡ true → below_key (relation_of s e) (relation_of s d) ≡ true
lower-named s n up e d ef df et dt l = behind _ _ _ _ (kinds (ahead _ _ _ _ l))
  where
    tos : Ahead e.to d.to [] [] → below_key (node_key_at s e.to) (node_key_at s d.to) ≡ true
    tos (first m) = rises (node_key_at s) n up e.to d.to m dt
    tos (rest q m) = absurd (true≢false (sym m))

    froms : Ahead e.from d.from (e.to ∷ []) (d.to ∷ []) → below_key (node_key_at s e.from ++ node_key_at s e.to) (node_key_at s d.from ++ node_key_at s d.to) ≡ true
    froms (first m) = below-first (node_key_at s e.from) (node_key_at s d.from) (node_key_at s e.to) (node_key_at s d.to) refl (rises (node_key_at s) n up e.from d.from m df)
    froms (rest q m) = rw q (below-second (node_key_at s d.from) (node_key_at s e.to) (node_key_at s d.to) (tos (ahead _ _ _ _ m)))

    kinds : Ahead e.kind d.kind (e.from ∷ e.to ∷ []) (d.from ∷ d.to ∷ [])
        → Ahead e.kind d.kind (node_key_at s e.from ++ node_key_at s e.to) (node_key_at s d.from ++ node_key_at s d.to)
    kinds (first m) = first m
    kinds (rest q m) = rest q (froms (ahead _ _ _ _ m))

-- and edge rows that rise by what they name rise by row numbers
pub rise-named : (s t : List ℕ) (n e : ℕ) → RowsRise (node_key_at s) n → ((v : ℕ) → v < e → ((edge_at (header_of s) t v).from < n) × ((edge_at (header_of s) t v).to < n))
    → RowsRise (λ v. (edge_row s t v).key) e → RowsRise (edge_key_at (header_of s) t) e
unfolding edge_row
rise-named s t n e up ends named v l = go (lies (edge_key_at (header_of s) t v) (edge_key_at (header_of s) t (v + 1)))
  where
    one : Edge
    one = edge_at (header_of s) t v

    two : Edge
    two = edge_at (header_of s) t (v + 1)

    go : Lies (edge_key one) (edge_key two) → below_key (edge_key one) (edge_key two) ≡ true
    go (lower u w x) = u
    go (equal q) =
        let kind : one.kind ≡ two.kind = cc in
        let from : one.from ≡ two.from = cc in
        let to : one.to ≡ two.to = cc in
        absurd (below_apart (relation_of s one) (relation_of s two) (named v l) (λ i. relation (kind i) (node_key_at s (from i)) (node_key_at s (to i))))
    go (higher u w x) =
        let a = ends v (omega arith) in
        let b = ends (v + 1) l in
        absurd (true≢false (sym (lower-named s n up two one b.0 a.0 b.1 a.1 u) ∙ below-asym (relation_of s one) (relation_of s two) (named v l)))

module _ (s : List ℕ) (w : Accepted s) where
  pub nodes-up : RowsRise (λ i. (node_row s i).key) (header_of s).nodes
  unfolding node_row
  nodes-up = w.nodes.rise

  pub edges-up : RowsRise (λ j. (edge_row s (edge_table s) j).key) (header_of s).edges
  unfolding edge_row
  edges-up j h =
      let a = w.edges.shaped j (omega arith) in
      let b = w.edges.shaped (j + 1) h in
      lower-named s (header_of s).nodes w.nodes.rise (edge_of s j) (edge_of s (j + 1)) a.from b.from a.to b.to (w.edges.rise j h)

  -- both tables rise, with marks of offices within the count
  pub nodes-rise : Rise (2 ^ (tables_of s).offices) [] (tables_of s).nodes
  unfolding tables_of node_row
  nodes-rise = rows-rise _ [] _ (node_row s) (λ h. refl) (nodes-up) (λ i h. ((w.nodes.fit i h).marks.some, (w.nodes.fit i h).marks.high))

  pub edges-rise : Rise (2 ^ (tables_of s).offices) [] (tables_of s).edges
  unfolding tables_of edge_row
  edges-rise = rows-rise _ [] _ (edge_row s (edge_table s)) (λ h. refl) (edges-up) (λ j h. ((w.edges.fit j h).marks.some, (w.edges.fit j h).marks.high))

  -- an office holds an identity exactly if one of the node rows bears its mark ..
  pub node-held : (office : ℕ) (k : Key) → (held_at s office).node k ≡ true → MarkedRow (header_of s).nodes (node_row s) office k
  unfolding held_by tables_of
  node-held office k e = held-row _ _ office k e

  pub held-node : (office : ℕ) (k : Key) → MarkedRow (header_of s).nodes (node_row s) office k → (held_at s office).node k ≡ true
  unfolding held_by tables_of
  held-node office k r = row-held _ _ office k r

  -- .. and a whole edge row likewise
  pub edge-held : (office : ℕ) (k : Key) → (held_at s office).edge k ≡ true → MarkedRow (header_of s).edges (edge_row s (edge_table s)) office k
  unfolding held_by tables_of
  edge-held office k e = held-row _ _ office k e

  pub held-edge : (office : ℕ) (k : Key) → MarkedRow (header_of s).edges (edge_row s (edge_table s)) office k → (held_at s office).edge k ≡ true
  unfolding held_by tables_of
  held-edge office k r = row-held _ _ office k r

  -- an identity stands at an office exactly if one of its node rows bears the mark ..
  pub node_seen : (office : ℕ) (k : Key) → (seen_at s office).node k ≡ true → MarkedRow (header_of s).nodes (node_row s) office k
  node_seen = node-held

  pub seen-node : (office : ℕ) (k : Key) → MarkedRow (header_of s).nodes (node_row s) office k → (seen_at s office).node k ≡ true
  seen-node = held-node

  -- .. and a relation exactly if one of its edge rows does
  pub edge-seen : (office : ℕ) (k : Key) → (seen_at s office).edge k ≡ true → MarkedRow (header_of s).edges (edge_row s (edge_table s)) office k
  edge-seen = edge-held

  pub seen-edge : (office : ℕ) (k : Key) → MarkedRow (header_of s).edges (edge_row s (edge_table s)) office k → (seen_at s office).edge k ≡ true
  seen-edge = held-edge

  -- the end of a marked edge row stands at the office too
  end_seen : (office j i : ℕ) → i < (header_of s).nodes → within (edge_of s j).offices (node_at s i).offices ≡ true
      → marked (edge_of s j).offices office ≡ true → (seen_at s office).node (node_key_at s i) ≡ true
  unfolding node_row
  end_seen office j i h inside bears = seen-node office (node_key_at s i) (record { row = i; inside = h; names = refl; bears = within-marked _ _ office inside bears })

  -- so a relation that stands has ends that stand, of the types that its kind has
  pub ends-seen : (office kind t n v t' n' v' : ℕ) → (seen_at s office).edge (relation kind (identity t n v) (identity t' n' v')) ≡ true
      → ((seen_at s office).node (identity t n v) ≡ true) × ((seen_at s office).node (identity t' n' v') ≡ true) × (ends_fit kind t t' ≡ true)
  unfolding edge_row
  ends-seen office kind t n v t' n' v' e =
      let r = edge-seen office (relation kind (identity t n v) (identity t' n' v')) e in
      let p = w.edges.shaped r.row r.inside in
      let f = w.edges.fit r.row r.inside in
      let from : node_key_at s (edge_of s r.row).from ≡ identity t n v = cc r.names in
      let to : node_key_at s (edge_of s r.row).to ≡ identity t' n' v' = cc r.names in (
        ap (λ (k : Key). (seen_at s office).node k) (sym from) ∙ end_seen office r.row _ p.from f.in-from r.bears,
        ap (λ (k : Key). (seen_at s office).node k) (sym to) ∙ end_seen office r.row _ p.to f.in-to r.bears,
        cc (r.names, f.ends),
      )

-- what an office holds is what the marks at the key say
module _ (s : List ℕ) (w : Accepted s) (office : ℕ) (k : Key) where
  pub node-marked : (held_at s office).node k ≡ marked (marks_at (tables_of s).nodes k) office
  unfolding held_by
  node-marked = held-marks office _ [] k _ (nodes-rise s w)

  pub edge-marked : (held_at s office).edge k ≡ marked (marks_at (tables_of s).edges k) office
  unfolding held_by
  edge-marked = held-marks office _ [] k _ (edges-rise s w)

-- two offices hold the same where the marks at every key are theirs alike
pub marks-held : (s t : List ℕ) → Accepted s → Accepted t → (o p : ℕ) → ((k : Key) → marked (marks_at (tables_of s).nodes k) o ≡ marked (marks_at (tables_of t).nodes k) p)
    → ((k : Key) → marked (marks_at (tables_of s).edges k) o ≡ marked (marks_at (tables_of t).edges k) p) → Same (held_at s o) (held_at t p)
marks-held s t v w o p nodes edges =
    record {
      nodes = λ k. node-marked s v o k ∙ nodes k ∙ sym (node-marked t w p k);
      edges = λ k. edge-marked s v o k ∙ edges k ∙ sym (edge-marked t w p k);
    }

-- ---- one edge row, by row numbers and by what it names

-- the row between two node rows is the row of the relation between their identities ..
pub rows_named : (s : List ℕ) (j kind from to : ℕ) → edge_key (edge_of s j) ≡ identity kind from to → (edge_row s (edge_table s) j).key ≡ relation kind (node_key_at s from) (node_key_at s to)
unfolding edge_row
rows_named s j kind from to e =
    let a : (edge_of s j).kind ≡ kind = cc e in
    let b : (edge_of s j).from ≡ from = cc e in
    let c : (edge_of s j).to ≡ to = cc e in
    λ i. relation (a i) (node_key_at s (b i)) (node_key_at s (c i))

module _ (s : List ℕ) (w : Accepted s) where
  -- .. and back, since an identity has one row
  pub named-rows : (j kind from to : ℕ) → j < (header_of s).edges → from < (header_of s).nodes → to < (header_of s).nodes
      → (edge_row s (edge_table s) j).key ≡ relation kind (node_key_at s from) (node_key_at s to) → edge_key (edge_of s j) ≡ identity kind from to
  unfolding edge_row
  named-rows j kind from to l f t e =
      let p = w.edges.shaped j l in
      let a : (edge_of s j).kind ≡ kind = cc e in
      let x : node_key_at s (edge_of s j).from ≡ node_key_at s from = cc e in
      let y : node_key_at s (edge_of s j).to ≡ node_key_at s to = cc e in
      let b = one-row (node_key_at s) (header_of s).nodes w.nodes.rise (edge_of s j).from from p.from f x in
      let c = one-row (node_key_at s) (header_of s).nodes w.nodes.rise (edge_of s j).to to p.to t y in
      λ i. identity (a i) (b i) (c i)

  -- what an office sees of an edge row's relation is the row's mark
  pub row_seen : (office j : ℕ) → j < (header_of s).edges → (seen_at s office).edge (edge_row s (edge_table s) j).key ≡ marked (edge_of s j).offices office
  unfolding edge_row
  row_seen office j l = go (marked (edge_of s j).offices office) refl ((seen_at s office).edge (edge_row s (edge_table s) j).key) refl
    where
      go : (b : Bool) → marked (edge_of s j).offices office ≡ b → (x : Bool) → (seen_at s office).edge (edge_row s (edge_table s) j).key ≡ x → x ≡ b
      go true m x e = sym e ∙ seen-edge s w office (edge_row s (edge_table s) j).key (record { row = j; inside = l; names = refl; bears = m })
      go false m false e = refl
      go false m true e =
          let r = edge-seen s w office (edge_row s (edge_table s) j).key e in
          let q = one-row (λ i. (edge_row s (edge_table s) i).key) (header_of s).edges (edges-up s w) r.row j r.inside l r.names in
          absurd (true≢false (sym r.bears ∙ (ap (λ (i : ℕ). marked (edge_of s i).offices office) q ∙ m)))
