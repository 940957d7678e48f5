-- Some of the edge rows of an accepted sheet, in their order and under marks within their own, are the edge rows of an accepted sheet with the same nodes.
-- Assumes nothing.
use Prim.Native.Nat.{ℕ, zero, suc, ◌+◌, ◌*◌, ◌<◌, ◌≤◌}
use mathlib.Core.Path.{◌≡◌, refl, sym, ap, ap₂, subst, ◌∙◌}
use mathlib.Core.Bool.{true}
use mathlib.Core.List.{List, [], ◌++◌}
use native.Mathlib.Omega.{arith}
use native.Mathlib.Decide.{dec_lt}
use native.Mathlib.Numerals.{add-one}
use lib.ListN.{length, length-append}
use Rattle.tables.specs.Key.{below_key}
use Rattle.tables.specs.Marks.{within}
use Rattle.tables.proofs.Keys.{rises}
use Rattle.tables.proofs.Marks.{within-trans, within-most}
use Rattle.sheet.specs.declared.Cells.{Cells}
use Rattle.sheet.specs.declared.Half.{Half}
use Rattle.sheet.specs.declared.Half.TheVariants.{Nodes, Edges}
use Rattle.sheet.specs.declared.Header.{Header}
use Rattle.sheet.specs.Rows.{header_of, edge_of, edge_table, edge_key_at, cells_in, cells_at, row_place, row_key}
use Rattle.sheet.specs.Accepted.{Accepted}
use Rattle.sheet.specs.Named.{node_row, edge_row}
use Rattle.sheet.specs.Stored.{stored}
use Rattle.sheet.proofs.Built.{built, built-header, RowsFit, built-accepted, built-node-row, built-edge-row}
use Rattle.sheet.proofs.Storing.{stored-long, cells-kept, cells-new}
use Rattle.sheet.proofs.Widths.{place-start, place-next, place-before}

-- ---- any rows can be spelled, one behind the other

record RowsSpelled (half : Half) (form k : ℕ) (cells : ℕ → Cells) : Type 0 where
  words : List ℕ
  long : length words ≡ row_place half form k
  each : (u : ℕ) → u < k → cells_in half form words u ≡ cells u

rows-spelled : (half : Half) (form k : ℕ) (cells : ℕ → Cells) → RowsSpelled half form k cells
rows-spelled half form zero cells = record { words = []; long = sym (place-start half form); each = λ u l. absurd (omega arith) }
rows-spelled half form (suc k) cells = on (rows-spelled half form k cells)
  where
    on : RowsSpelled half form k cells → RowsSpelled half form (suc k) cells
    on S =
        record {
          words = S.words ++ stored half form (cells k);
          long = length-append S.words (stored half form (cells k)) ∙ omega (arith, S.long, stored-long half form (cells k), place-next half form k, ap (row_place half form) (add-one k));
          each = λ u l. go u (dec_lt u k) l;
        }
      where
        go : (u : ℕ) → Dec (u < k) → u < suc k → cells_in half form (S.words ++ stored half form (cells k)) u ≡ cells u
        go u (yes h) l = cells-kept half form S.words (stored half form (cells k)) u (omega (arith, S.long, place-before half form u k h)) ∙ S.each u h
        go u (no h) l =
            let e : k ≡ u = omega arith in
            subst (λ (x : ℕ). cells_in half form (S.words ++ stored half form (cells k)) x ≡ cells x) e (cells-new half form S.words (cells k) k S.long)

-- ---- the sheet

-- the sheet t has e edge rows: row u is row `from u` of s, under other marks; all else is as in s
pub record EdgesFrom (s : List ℕ) (e : ℕ) (from marks : ℕ → ℕ) (t : List ℕ) : Type 0 where
  pub accepted : Accepted t
  pub offices : (header_of t).offices ≡ (header_of s).offices
  pub nodes : ((header_of t).nodes ≡ (header_of s).nodes) × ((i : ℕ) → i < (header_of s).nodes → node_row t i ≡ node_row s i)
  pub edges : ((header_of t).edges ≡ e) × ((u : ℕ) → u < e → edge_row t (edge_table t) u ≡ record { key = (edge_row s (edge_table s) (from u)).key; marks = marks u })

module _ (s : List ℕ) (v : Accepted s) (e : ℕ) (from marks : ℕ → ℕ) (few : e ≤ (header_of s).edges) (inside : (u : ℕ) → u < e → from u < (header_of s).edges) (up : (u : ℕ) → u + 1 < e → from u < from (u + 1))
    (some : (u : ℕ) → u < e → 0 < marks u) (less : (u : ℕ) → u < e → within (marks u) (edge_of s (from u)).offices ≡ true) where
  abbrev form : ℕ
  form = (header_of s).form

  abbrev n : ℕ
  n = (header_of s).nodes

  abbrev cells_of : ℕ → Cells
  cells_of u = record { first = (edge_of s (from u)).kind; second = (edge_of s (from u)).from; third = (edge_of s (from u)).to; offices = marks u }

  N : RowsSpelled Nodes form n (cells_at Nodes s)
  N = rows-spelled Nodes form n (cells_at Nodes s)

  E : RowsSpelled Edges form e cells_of
  E = rows-spelled Edges form e cells_of

  abbrev t : List ℕ
  t = built form (header_of s).offices n e N.words E.words N.long E.long

  -- what is asked of a row is asked of row `from u`, but for its marks
  fits : RowsFit form (header_of s).offices n e N.words E.words N.long E.long
  fits =
      let h = v.nodes.header in
      record {
        form-is = h.form;
        low = h.offices-low;
        high = h.offices-high;
        few-nodes = h.nodes;
        few-edges = omega (arith, few, h.edges);
        nodes-fit = λ i l. let f = v.nodes.fit i l in
            rw (N.each i l) (record { class_low = f.class_low; class-high = f.class-high; number = f.number; variant = f.variant; marks = record { some = f.marks.some; high = f.marks.high } });
        nodes-rise = λ i l. ap₂ (λ (x y : Cells). below_key (row_key x) (row_key y)) (N.each i (omega arith)) (N.each (i + 1) l) ∙ v.nodes.rise i l;
        edges-shaped = λ u l. let p = v.edges.shaped (from u) (inside u l) in
            rw (E.each u l) (record { kind-low = p.kind-low; kind-high = p.kind-high; from = p.from; to = p.to });
        edges_fit = λ u l. let p = v.edges.shaped (from u) (inside u l) in
            let f = v.edges.fit (from u) (inside u l) in
            let m = less u l in
            rw (E.each u l, N.each (edge_of s (from u)).from p.from, N.each (edge_of s (from u)).to p.to)
            (record {
              ends = f.ends;
              apart = f.apart;
              marks = record { some = some u l; high = omega (arith, within-most (marks u) _ m, f.marks.high) };
              in-from = within-trans (marks u) _ _ m f.in-from;
              in-to = within-trans (marks u) _ _ m f.in-to;
            });
        edges-rise = λ u l.
            ap₂ (λ (x y : Cells). below_key (row_key x) (row_key y)) (E.each u (omega arith)) (E.each (u + 1) l)
            ∙ rises (edge_key_at (header_of s) (edge_table s)) (header_of s).edges v.edges.rise (from u) (from (u + 1)) (up u l) (inside (u + 1) l);
      }

  head : header_of t ≡ record { form = form; offices = (header_of s).offices; nodes = n; edges = e; nodeoffset = 6; edgeoffset = 6 + 4 * n }
  head = built-header form (header_of s).offices n e N.words E.words N.long E.long

  node_row_lem : (i : ℕ) → i < n → node_row t i ≡ node_row s i
  unfolding node_row
  node_row_lem i l = built-node-row form (header_of s).offices n e N.words E.words N.long E.long fits i l ∙ ap (λ (x : Cells). record { key = row_key x; marks = x.offices }) (N.each i l)

  edge_row_lem : (u : ℕ) → u < e → edge_row t (edge_table t) u ≡ record { key = (edge_row s (edge_table s) (from u)).key; marks = marks u }
  unfolding edge_row
  edge_row_lem u l =
      let p = v.edges.shaped (from u) (inside u l) in
      built-edge-row form (header_of s).offices n e N.words E.words N.long E.long fits u l ∙ rw (E.each u l, N.each (edge_of s (from u)).from p.from, N.each (edge_of s (from u)).to p.to) refl

  pub fewer-rows : (t : List ℕ) × EdgesFrom s e from marks t
  fewer-rows = (
    t,
    record {
      accepted = built-accepted form (header_of s).offices n e N.words E.words N.long E.long fits;
      offices = ap (λ (h : Header). h.offices) head;
      nodes = (ap (λ (h : Header). h.nodes) head, node_row_lem);
      edges = (ap (λ (h : Header). h.edges) head, edge_row_lem);
    },
  )
