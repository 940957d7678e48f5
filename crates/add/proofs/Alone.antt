-- The row that is added, as a sheet of its own, is accepted, and has nothing else that the sheet lacks.
-- Assumes nothing.
use Prim.Native.Nat.{ℕ, zero, suc, ◌<◌}
use mathlib.Core.Path.{◌≡◌, refl, sym, ap, ◌∙◌}
use mathlib.Core.Bool.{true}
use mathlib.Core.List.{List, [], ◌++◌}
use native.Mathlib.Omega.{arith}
use native.Mathlib.Decide.{dec_lt}
use lib.ListN.{length, length-append}
use Rattle.tables.specs.Key.{Key}
use Rattle.tables.specs.Marks.{within}
use Rattle.tables.specs.Table.{Row, rows_of, marks_at}
use Rattle.tables.proofs.Counts.{has-row}
use Rattle.tables.proofs.Keys.{rises}
use Rattle.tables.proofs.Marks.{within_none, within-own}
use Rattle.tables.proofs.Tables.{marks-none, marks-named, row_of}
use Rattle.sheet.specs.declared.Cells.{Cells}
use Rattle.sheet.specs.declared.Half.{Half}
use Rattle.sheet.specs.declared.Half.TheVariants.{Nodes, Edges}
use Rattle.sheet.specs.declared.Header.{Header}
use Rattle.sheet.specs.Accepted.{NodeFits, EdgeShaped, EdgeFits, Accepted}
use Rattle.sheet.specs.Limits.{max_edges}
use Rattle.sheet.specs.Named.{node_row, row_at, tables_of}
use Rattle.sheet.specs.Rows.{header_of, node_at, node_key, node_key_at, row_place, count_in, cells_in, as_node, as_edge}
use Rattle.sheet.specs.Stored.{stored}
use Rattle.sheet.proofs.Built.{built-header, RowsFit, built-accepted, built-node-row, built-edge-row}
use Rattle.sheet.proofs.Storing.{stored-long, cells-kept, cells-new}
use Rattle.sheet.proofs.Widths.{place-start, place-next}
use Rattle.combine.proofs.Reading.{half-own}
use Rattle.meaning.specs.Added.{table_in, other_half, key_named}
use Rattle.add.specs.Lone.{lone_node, under_marks, lone_edge, ended_at, IsLone}

-- ---- a half's table

pub table_is : (half : Half) (s : List ℕ) → table_in half s ≡ rows_of (count_in half (header_of s)) (row_at half s)
unfolding tables_of
table_is Nodes s = refl
table_is Edges s = refl

module _ (half : Half) (s : List ℕ) (w : Accepted s) where
  pub table-marks : (k : Key) (i : ℕ) → i < count_in half (header_of s) → (row_at half s i).key ≡ k → marks_at (table_in half s) k ≡ (row_at half s i).marks
  table-marks k i l e = rw (table_is half s) (marks-named _ (row_at half s) (half-own s (header_of s) w half) k i l e)

  pub table_none : (k : Key) → ((i : ℕ) → i < count_in half (header_of s) → (row_at half s i).key ≡ k → ⊥) → marks_at (table_in half s) k ≡ 0
  table_none k no_row = rw (table_is half s) (marks-none _ (row_at half s) k no_row)

-- ---- one row of a half, and of the other half only rows that s has, under marks within theirs

record InSheet (half : Half) (s u : List ℕ) (j : ℕ) : Type 0 where
  row : ℕ
  inside : row < count_in half (header_of s)
  names : (row_at half s row).key ≡ (row_at half u j).key
  marks : within (row_at half u j).marks (row_at half s row).marks ≡ true

module _ (half : Half) (s : List ℕ) (v : Accepted s) (c : Cells) (u : List ℕ) (w : Accepted u) (offices : (header_of u).offices ≡ (header_of s).offices) (one : count_in half (header_of u) ≡ 1)
    (is : row_at half u 0 ≡ record { key = key_named half s c; marks = c.offices }) (there : (j : ℕ) → j < count_in (other_half half) (header_of u) → InSheet (other_half half) s u j) where
  rest : (k : Key) → within (marks_at (table_in (other_half half) u) k) (marks_at (table_in (other_half half) s) k) ≡ true
  rest k = go (dec_lt 0 (marks_at (table_in (other_half half) u) k))
    where
      go : Dec (0 < marks_at (table_in (other_half half) u) k) → within (marks_at (table_in (other_half half) u) k) (marks_at (table_in (other_half half) s) k) ≡ true
      go (no l) = within_none _ _ l
      go (yes l) =
          let r = row_of _ (row_at (other_half half) u) k (rw (table_is (other_half half) u) at l) in
          let t = there r.row r.inside in
          rw (table-marks (other_half half) u w k r.row r.inside r.names, table-marks (other_half half) s v k t.row t.inside (t.names ∙ r.names)) t.marks

  alone : IsLone half s c u
  alone =
      record {
        accepted = w;
        offices = offices;
        one = one;
        row = table-marks half u w (key_named half s c) 0 (omega (arith, one)) (ap (λ (r : Row). r.key) is) ∙ ap (λ (r : Row). r.marks) is;
        others = λ k apart. table_none half u w k (λ i l e. let z : i ≡ 0 = omega (arith, one) in apart (sym e ∙ (ap (λ (x : ℕ). (row_at half u x).key) z ∙ ap (λ (r : Row). r.key) is)));
        rest = rest;
        ends = λ j l. let t = there j l in has-row _ _ _ t.row t.inside t.names;
      }

-- ---- a node row

module _ (s : List ℕ) (v : Accepted s) (c : Cells) (f : NodeFits (header_of s) (as_node c)) where
  abbrev form : ℕ
  form = (header_of s).form

  long : length (stored Nodes form c) ≡ row_place Nodes form 1
  long = stored-long Nodes form c

  no_words : length {A = ℕ} [] ≡ row_place Edges form 0
  no_words = sym (place-start Edges form)

  cells : cells_in Nodes form (stored Nodes form c) 0 ≡ c
  cells = cells-new Nodes form [] c 0 refl

  fits : RowsFit form (header_of s).offices 1 0 (stored Nodes form c) [] long no_words
  fits =
      record {
        form-is = v.nodes.header.form;
        low = v.nodes.header.offices-low;
        high = v.nodes.header.offices-high;
        few-nodes = omega arith;
        few-edges = omega (arith, v.nodes.header.edges);
        nodes-fit = λ u l. let z : u ≡ 0 = omega arith in rw (z, cells) (record { class_low = f.class_low; class-high = f.class-high; number = f.number; variant = f.variant; marks = record { some = f.marks.some; high = f.marks.high } });
        nodes-rise = λ u l. absurd (omega arith);
        edges-shaped = λ u l. absurd (omega arith);
        edges_fit = λ u l. absurd (omega arith);
        edges-rise = λ u l. absurd (omega arith);
      }

  head : header_of (lone_node (header_of s) c) ≡ record { form = form; offices = (header_of s).offices; nodes = 1; edges = 0; nodeoffset = 6; edgeoffset = 10 }
  head = built-header form (header_of s).offices 1 0 (stored Nodes form c) [] long no_words

  pub node-alone : IsLone Nodes s c (lone_node (header_of s) c)
  node-alone =
      alone Nodes s v c (lone_node (header_of s) c) (built-accepted form (header_of s).offices 1 0 (stored Nodes form c) [] long no_words fits)
      (ap (λ (h : Header). h.offices) head) (ap (λ (h : Header). h.nodes) head)
      (built-node-row form (header_of s).offices 1 0 (stored Nodes form c) [] long no_words fits 0 (omega arith) ∙ ap (λ (x : Cells). record { key = node_key (as_node x); marks = x.offices }) cells)
      (λ j l. absurd (omega (arith, ap (λ (h : Header). h.edges) head)))

-- ---- an edge row with its ends

-- which of two rows stands first
abbrev end_at : ℕ → ℕ → ℕ → ℕ
end_at low high zero = low
end_at low high (suc j) = high

module _ (s : List ℕ) (v : Accepted s) (c : Cells) (p : EdgeShaped (header_of s) (as_edge c)) (f : EdgeFits (header_of s) (as_edge c) (node_at s c.second) (node_at s c.third))
    (low high from to : ℕ) (apart : low < high) (from_in : from < 2) (to_in : to < 2) (two : from ≡ to → ⊥) (from_is : end_at low high from ≡ c.second) (to_is : end_at low high to ≡ c.third) (room : (header_of s).edges < max_edges (header_of s).form) where
  abbrev form' : ℕ
  form' = (header_of s).form

  abbrev marks : ℕ
  marks = c.offices

  abbrev nodes : List ℕ
  nodes = stored Nodes form' (under_marks s low marks) ++ stored Nodes form' (under_marks s high marks)

  abbrev edge : Cells
  edge = ended_at c from to

  nodes-long : length nodes ≡ row_place Nodes form' 2
  nodes-long = length-append (stored Nodes form' (under_marks s low marks)) (stored Nodes form' (under_marks s high marks)) ∙ omega (arith, stored-long Nodes form' (under_marks s low marks), stored-long Nodes form' (under_marks s high marks))

  edges-long : length (stored Edges form' edge) ≡ row_place Edges form' 1
  edges-long = stored-long Edges form' edge ∙ omega (arith, place-next Edges form' 0, place-start Edges form')

  -- each of the two is an end
  an-end : (j : ℕ) → j < 2 → (end_at low high j < (header_of s).nodes) × (within marks (node_at s (end_at low high j)).offices ≡ true)
  an-end j l = go j from to l from_in to_in two from_is to_is
    where
      go : (j from to : ℕ) → j < 2 → from < 2 → to < 2 → (from ≡ to → ⊥) → end_at low high from ≡ c.second → end_at low high to ≡ c.third
          → (end_at low high j < (header_of s).nodes) × (within marks (node_at s (end_at low high j)).offices ≡ true)
      go zero zero to l a b t x y = rw x (p.from, f.in-from)
      go zero (suc from) zero l a b t x y = rw y (p.to, f.in-to)
      go zero (suc zero) (suc zero) l a b t x y = absurd (t refl)
      go zero (suc zero) (suc (suc to)) l a b t x y = absurd (omega (arith, b))
      go zero (suc (suc from)) (suc to) l a b t x y = absurd (omega (arith, a))
      go (suc j) (suc from) to l a b t x y = rw x (p.from, f.in-from)
      go (suc j) zero (suc to) l a b t x y = rw y (p.to, f.in-to)
      go (suc j) zero zero l a b t x y = absurd (t refl)

  lone-node-cells : (j : ℕ) → j < 2 → cells_in Nodes form' nodes j ≡ under_marks s (end_at low high j) marks
  lone-node-cells zero l =
      cells-kept Nodes form' (stored Nodes form' (under_marks s low marks)) (stored Nodes form' (under_marks s high marks)) 0 (omega (arith, stored-long Nodes form' (under_marks s low marks)))
      ∙ cells-new Nodes form' [] (under_marks s low marks) 0 refl
  lone-node-cells (suc zero) l = cells-new Nodes form' (stored Nodes form' (under_marks s low marks)) (under_marks s high marks) 1 (stored-long Nodes form' (under_marks s low marks))
  lone-node-cells (suc (suc j)) l = absurd (omega (arith, l))

  lone-edge-cells : cells_in Edges form' (stored Edges form' edge) 0 ≡ edge
  lone-edge-cells = cells-new Edges form' [] edge 0 (sym (place-start Edges form'))

  edge-fits : RowsFit form' (header_of s).offices 2 1 nodes (stored Edges form' edge) nodes-long edges-long
  edge-fits =
      record {
        form-is = v.nodes.header.form;
        low = v.nodes.header.offices-low;
        high = v.nodes.header.offices-high;
        few-nodes = omega arith;
        few-edges = omega (arith, room);
        nodes-fit = λ u l.
            let n = v.nodes.fit (end_at low high u) (an-end u l).0 in
            rw (lone-node-cells u l) (record { class_low = n.class_low; class-high = n.class-high; number = n.number; variant = n.variant; marks = record { some = f.marks.some; high = f.marks.high } });
        nodes-rise = λ u l.
            let z : u ≡ 0 = omega arith in
            rw (z, lone-node-cells 0 (omega arith), lone-node-cells 1 (omega arith)) (rises (node_key_at s) (header_of s).nodes v.nodes.rise low high apart (an-end 1 (omega arith)).0);
        edges-shaped = λ u l. let z : u ≡ 0 = omega arith in rw (z, lone-edge-cells) (record { kind-low = p.kind-low; kind-high = p.kind-high; from = from_in; to = to_in });
        edges_fit = λ u l.
            let z : u ≡ 0 = omega arith in
            rw (z, lone-edge-cells, lone-node-cells from from_in, lone-node-cells to to_in, from_is, to_is)
            (record { ends = f.ends; apart = λ q e. two e; marks = record { some = f.marks.some; high = f.marks.high }; in-from = within-own marks; in-to = within-own marks });
        edges-rise = λ u l. absurd (omega arith);
      }

  abbrev lone : List ℕ
  lone = lone_edge s (header_of s) low high edge

  edge-head : header_of lone ≡ record { form = form'; offices = (header_of s).offices; nodes = 2; edges = 1; nodeoffset = 6; edgeoffset = 14 }
  edge-head = built-header form' (header_of s).offices 2 1 nodes (stored Edges form' edge) nodes-long edges-long

  edge_row_lem : row_at Edges lone 0 ≡ record { key = key_named Edges s c; marks = c.offices }
  edge_row_lem =
      built-edge-row form' (header_of s).offices 2 1 nodes (stored Edges form' edge) nodes-long edges-long edge-fits 0 (omega arith)
      ∙ rw (lone-edge-cells, lone-node-cells from from_in, lone-node-cells to to_in, from_is, to_is) refl

  node_in_lem : (j : ℕ) → j < count_in Nodes (header_of lone) → InSheet Nodes s lone j
  unfolding node_row
  node_in_lem j l =
      let d : j < 2 = omega (arith, ap (λ (h : Header). h.nodes) edge-head) in
      let is = built-node-row form' (header_of s).offices 2 1 nodes (stored Edges form' edge) nodes-long edges-long edge-fits j d ∙ ap (λ (x : Cells). record { key = node_key (as_node x); marks = x.offices }) (lone-node-cells j d) in
      record {
        row = end_at low high j;
        inside = (an-end j d).0;
        names = sym (ap (λ (r : Row). r.key) is);
        marks = rw (ap (λ (r : Row). r.marks) is) (an-end j d).1;
      }

  pub edge-alone : IsLone Edges s c lone
  edge-alone =
      alone Edges s v c lone (built-accepted form' (header_of s).offices 2 1 nodes (stored Edges form' edge) nodes-long edges-long edge-fits)
      (ap (λ (h : Header). h.offices) edge-head) (ap (λ (h : Header). h.edges) edge-head) edge_row_lem node_in_lem
