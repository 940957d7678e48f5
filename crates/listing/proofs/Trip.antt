-- The round trip: what is printed of an accepted one-office sheet is read without a fault, and means that sheet.
-- Assumes nothing.
use Prim.Native.Nat.{ℕ, ◌+◌, ◌-◌, ◌^◌, ◌<◌, ◌≤◌}
use mathlib.Core.Path.{◌≡◌, refl, sym, ap, subst, ◌∙◌}
use mathlib.Core.Bool.{Bool, true, false, not, ◌&&◌, true≢false}
use mathlib.Core.List.{List, [], ◌∷◌}
use native.Mathlib.Omega.{arith}
use lib.ListN.{length}
use borrow.Author.Tests.{lt-ltb, le-ltb, ne_eqb, eqb-true}
use Rattle.tables.specs.Count.{how_many}
use Rattle.tables.specs.Key.{Key, same_key, relation}
use Rattle.tables.specs.Marks.{marked}
use Rattle.tables.proofs.Counts.{many-not, some-none, some_at, some-row}
use Rattle.tables.proofs.Keys.{same-eq, eq-same, ne_same, one-row}
use Rattle.tables.proofs.Marks.{either-run}
use Rattle.tables.proofs.Tables.{and-true}
use Rattle.sheet.specs.Accepted.{MarksFit, Accepted}
use Rattle.sheet.specs.Kinds.{contained_kind}
use Rattle.sheet.specs.Limits.{max_nodes, max_edges}
use Rattle.sheet.specs.Named.{node_row, edge_row, held_at}
use Rattle.sheet.specs.Refusals.{◌is◌, ◌below◌, none}
use Rattle.sheet.specs.Rows.{word, header_of, node_at, edge_of, edge_table, node_key_at, edge_key_at}
use Rattle.sheet.proofs.Naming.{node-held, held-node, edge-held, held-edge}
use Rattle.sheet.proofs.Refusing.{line-none, else-none, refuse-none, then-none, rows_none}
use Rattle.lines.specs.declared.Line.{Line}
use Rattle.lines.specs.Naming.{is_node_line, identity_named, kind_named, from_line, to_line, within_itself, line_key}
use Rattle.lines.specs.Nine.{faulty}
use Rattle.lines.specs.Numerals.{too_high}
use Rattle.listing.specs.Cut.{lines_said, line_at}
use Rattle.listing.specs.Faults.{says_this, line_fault, end_fault, node_lines, edge_lines, count_fault, lines_fault}
use Rattle.listing.specs.Meant.{names_node, names_edge, some_line, Means}
use Rattle.listing.specs.Printed.{node_line_at, edge_line_at, printed}
use Rattle.listing.proofs.Once.{both_ways, many-first}
use Rattle.listing.proofs.Printing.{edge-form}
use Rattle.listing.proofs.PrintedBack.{both_lines, both_long, both_first, both-second, both-back}
use Rattle.listing.proofs.RowLines.{GoodNode, node-line-good, EdgeLine, edge-line-of, one_line, same-identity, one_end}

-- each word of a sheet is a word: a sheet that code is lent is one
abbrev pub InWords : List ℕ → Type 0
InWords s = (i : ℕ) → word s i < too_high

-- the lines of a sheet's rows, in sheet order
abbrev pub row_lines : List ℕ → List Line
row_lines s = both_lines (node_line_at s) (edge_line_at s) (header_of s).nodes (header_of s).edges

module _ (s : List ℕ) (words : InWords s) (w : Accepted s) where
  good-node : (i : ℕ) → i < (header_of s).nodes → GoodNode (node_at s i)
  unfolding node_at
  good-node i h =
      let f = w.nodes.fit i h in
      record { class_low = f.class_low; class-high = f.class-high; number = f.number; word = words _; variant = f.variant; variant-word = words _ }

  its-edge : (j : ℕ) → j < (header_of s).edges → EdgeLine (edge_of s j).kind (node_at s (edge_of s j).from) (node_at s (edge_of s j).to)
  its-edge j h =
      let x = w.edges.shaped j h in
      edge-line-of (node_at s (edge_of s j).from) (node_at s (edge_of s j).to) (good-node _ x.from) (good-node _ x.to) (edge_of s j).kind x.kind-low x.kind-high (w.edges.fit j h).ends

  -- what each line of the printed text says: the rows' own lines, and nothing is left behind the last
  pub printed-lines : lines_said (printed s) ≡ row_lines s
  unfolding printed
  printed-lines = both-back (node_line_at s) (edge_line_at s) (header_of s).nodes (header_of s).edges (λ i h. node-line-good (node_at s i) (good-node i h)) (λ j h. (its-edge j h).good)

  -- ---- its lines, by number

  node-said : (i : ℕ) → i < (header_of s).nodes → line_at (row_lines s) i ≡ node_line_at s i
  node-said i h = both_first (node_line_at s) (edge_line_at s) (header_of s).nodes (header_of s).edges i (faulty 40) h

  edge-said : (j : ℕ) → j < (header_of s).edges → line_at (row_lines s) ((header_of s).nodes + j) ≡ edge_line_at s j
  edge-said j h = both-second (node_line_at s) (edge_line_at s) (header_of s).nodes (header_of s).edges j (faulty 40) h

  long : length (row_lines s) ≡ (header_of s).nodes + (header_of s).edges
  long = both_long (node_line_at s) (edge_line_at s) (header_of s).nodes (header_of s).edges

  -- a fact of each node line and each edge line is one of each line
  each_line : (P : ℕ → Type 0) → ((i : ℕ) → i < (header_of s).nodes → P i) → ((j : ℕ) → j < (header_of s).edges → P ((header_of s).nodes + j)) → (i : ℕ) → i < length (row_lines s) → P i
  each_line P f g i h = either-run P (header_of s).nodes (header_of s).edges f g i (omega (arith, h, long))

  is-node : (i : ℕ) → i < (header_of s).nodes → is_node_line (line_at (row_lines s) i) ≡ true
  is-node i h = ap is_node_line (node-said i h) ∙ lt-ltb (node_at s i).class 5 (omega (arith, (w.nodes.fit i h).class-high))

  its-form : (j : ℕ) → j < (header_of s).edges → (line_at (row_lines s) ((header_of s).nodes + j)).form ≡ 4 + (edge_of s j).kind
  its-form j h = ap (λ (l : Line). l.form) (edge-said j h) ∙ edge-form (edge_of s j).kind (node_at s (edge_of s j).from) (node_at s (edge_of s j).to)

  is-edge : (j : ℕ) → j < (header_of s).edges → is_node_line (line_at (row_lines s) ((header_of s).nodes + j)) ≡ false
  is-edge j h = ap (λ (k : ℕ). k below 5) (its-form j h) ∙ le-ltb (4 + (edge_of s j).kind) 5 (omega (arith, (w.edges.shaped j h).kind-low))

  its-kind : (j : ℕ) → j < (header_of s).edges → kind_named (line_at (row_lines s) ((header_of s).nodes + j)) ≡ (edge_of s j).kind
  its-kind j h = omega (arith, its-form j h)

  its-from : (j : ℕ) → j < (header_of s).edges → from_line (line_at (row_lines s) ((header_of s).nodes + j)) ≡ node_line_at s (edge_of s j).from
  its-from j h = ap from_line (edge-said j h) ∙ (its-edge j h).from

  its-to : (j : ℕ) → j < (header_of s).edges → to_line (line_at (row_lines s) ((header_of s).nodes + j)) ≡ node_line_at s (edge_of s j).to
  its-to j h = ap to_line (edge-said j h) ∙ (its-edge j h).to

  -- ---- 40 and 41

  no-fault : (i : ℕ) → i < length (row_lines s) → (line_at (row_lines s) i).fault ≡ 0
  no-fault = each_line (λ i. (line_at (row_lines s) i).fault ≡ 0) (λ i h. ap (λ (l : Line). l.fault) (node-said i h)) (λ j h. ap (λ (l : Line). l.fault) (edge-said j h) ∙ (its-edge j h).good.fault)

  -- ---- 42: no two rows have the same line

  node-row-one : (i k : ℕ) → i < (header_of s).nodes → k < (header_of s).nodes → line_key (node_line_at s i) ≡ line_key (node_line_at s k) → i ≡ k
  node-row-one i k h l e = one-row (node_key_at s) (header_of s).nodes w.nodes.rise i k h l (same-identity (node_at s i) (node_at s k) e)

  edge-row-one : (i k : ℕ) → i < (header_of s).edges → k < (header_of s).edges → line_key (edge_line_at s i) ≡ line_key (edge_line_at s k) → i ≡ k
  edge-row-one i k h l e =
      let x = its-edge i h in
      let y = its-edge k l in
      let a = w.edges.shaped i h in
      let b = w.edges.shaped k l in
      let same : edge_line_at s i ≡ edge_line_at s k = one_line (edge_line_at s i) (edge_line_at s k) (x.good.fault ∙ sym y.good.fault) e in
      let p = edge-form (edge_of s i).kind (node_at s (edge_of s i).from) (node_at s (edge_of s i).to) in
      let q = edge-form (edge_of s k).kind (node_at s (edge_of s k).from) (node_at s (edge_of s k).to) in
      let r = ap (λ (m : Line). m.form) same in
      let kind : (edge_of s i).kind ≡ (edge_of s k).kind = omega (arith, p, q, r) in
      let from = node-row-one (edge_of s i).from (edge_of s k).from a.from b.from (ap line_key (sym x.from ∙ ap from_line same ∙ y.from)) in
      let to = node-row-one (edge_of s i).to (edge_of s k).to a.to b.to (ap line_key (sym x.to ∙ ap to_line same ∙ y.to)) in
      one-row (edge_key_at (header_of s) (edge_table s)) (header_of s).edges w.edges.rise i k h l (λ j. kind j ∷ from j ∷ to j ∷ [])

  -- a node line and an edge line have different forms
  node-and-edge : (i j : ℕ) → i < (header_of s).nodes → j < (header_of s).edges → line_key (line_at (row_lines s) i) ≡ line_key (line_at (row_lines s) ((header_of s).nodes + j)) → ⊥
  node-and-edge i j h l e =
      let f : (line_at (row_lines s) i).form ≡ (line_at (row_lines s) ((header_of s).nodes + j)).form = cc in
      omega (arith, f, its-form j l, ap (λ (m : Line). m.form) (node-said i h), (w.nodes.fit i h).class-high, (w.edges.shaped j l).kind-low)

  row_one : (k : ℕ) → k < length (row_lines s) → (i : ℕ) → i < length (row_lines s) → line_key (line_at (row_lines s) i) ≡ line_key (line_at (row_lines s) k) → i ≡ k
  row_one =
      each_line (λ k. (i : ℕ) → i < length (row_lines s) → line_key (line_at (row_lines s) i) ≡ line_key (line_at (row_lines s) k) → i ≡ k)
      (λ k l. each_line (λ i. line_key (line_at (row_lines s) i) ≡ line_key (line_at (row_lines s) k) → i ≡ k)
      (λ i h e. node-row-one i k h l (ap line_key (sym (node-said i h)) ∙ e ∙ ap line_key (node-said k l)))
      (λ j h e. absurd (node-and-edge k j l h (sym e))))
      (λ k l. each_line (λ i. line_key (line_at (row_lines s) i) ≡ line_key (line_at (row_lines s) ((header_of s).nodes + k)) → i ≡ (header_of s).nodes + k)
      (λ i h e. absurd (node-and-edge i k h l e))
      (λ j h e. ap (λ (m : ℕ). (header_of s).nodes + m) (edge-row-one j k h l (ap line_key (sym (edge-said j h)) ∙ e ∙ ap line_key (edge-said k l)))))

  no-repeat : (i : ℕ) → i < length (row_lines s) → says_this (row_lines s) i (line_at (row_lines s) i) ≡ false
  unfolding says_this
  no-repeat i h = some-none _ i (λ j l. ne_same (line_key (line_at (row_lines s) j)) (line_key (line_at (row_lines s) i)) (λ e. omega (arith, l, row_one i h j (omega (arith, h, l)) e)))

  -- ---- 14

  not_within : (i : ℕ) → i < length (row_lines s) → within_itself (line_at (row_lines s) i) ≡ false
  not_within =
      each_line (λ i. within_itself (line_at (row_lines s) i) ≡ false)
      (λ i h. ap within_itself (node-said i h) ∙ rw (ne_eqb ((node_at s i).class - 4) contained_kind (λ e. omega (arith, e, (w.nodes.fit i h).class-high))))
      (λ j h. edge j h (kind_named (line_at (row_lines s) ((header_of s).nodes + j)) is contained_kind) refl ((line_at (row_lines s) ((header_of s).nodes + j)).first is (line_at (row_lines s) ((header_of s).nodes + j)).second) refl)
    where
      edge : (j : ℕ) → j < (header_of s).edges → (a : Bool) → (kind_named (line_at (row_lines s) ((header_of s).nodes + j)) is contained_kind) ≡ a → (b : Bool) → ((line_at (row_lines s) ((header_of s).nodes + j)).first is (line_at (row_lines s) ((header_of s).nodes + j)).second) ≡ b → (a && b) ≡ false
      edge j h false p b q = refl
      edge j h true p false q = refl
      edge j h true p true q =
          let l = line_at (row_lines s) ((header_of s).nodes + j) in
          let x = w.edges.shaped j h in
          let k = eqb-true (kind_named l) contained_kind p in
          let ends : from_line l ≡ to_line l = one_end l k (eqb-true l.first l.second q) in
          absurd ((w.edges.fit j h).apart (sym (its-kind j h) ∙ k) (node-row-one (edge_of s j).from (edge_of s j).to x.from x.to (ap line_key (sym (its-from j h) ∙ ends ∙ its-to j h))))

  -- ---- 43

  -- a node row's line is one of the lines
  node-says : (i : ℕ) → i < (header_of s).nodes → (l : Line) → l ≡ node_line_at s i → says_this (row_lines s) (length (row_lines s)) l ≡ true
  unfolding says_this
  node-says i h l e = some_at _ (length (row_lines s)) i (omega (arith, h, long)) (eq-same (line_key (line_at (row_lines s) i)) (line_key l) (ap line_key (node-said i h ∙ sym e)))

  ends-stand : (i : ℕ) → i < length (row_lines s) → end_fault (row_lines s) i ≡ 0
  unfolding end_fault
  ends-stand =
      each_line (λ i. end_fault (row_lines s) i ≡ 0)
      (λ i h. line-none 43 _ 0 (rw (is-node i h)) refl)
      (λ j h. let x = w.edges.shaped j h in line-none 43 _ 0 (rw (is-edge j h, node-says (edge_of s j).from x.from _ (its-from j h), node-says (edge_of s j).to x.to _ (its-to j h))) refl)

  -- ---- 4

  node-count : node_lines (row_lines s) ≡ (header_of s).nodes
  unfolding node_lines
  node-count = ap (how_many (λ i. is_node_line (line_at (row_lines s) i))) long ∙ many-first _ (header_of s).nodes (header_of s).edges is-node is-edge

  edge_count : edge_lines (row_lines s) ≡ (header_of s).edges
  unfolding node_lines edge_lines
  edge_count = omega (arith, many-not (λ i. is_node_line (line_at (row_lines s) i)) (length (row_lines s)), node-count, long)

  few-rows : count_fault (row_lines s) ≡ 0
  unfolding count_fault
  few-rows =
      let h = w.nodes.header in
      let f : (header_of s).edges ≤ max_edges 1 = subst (λ (k : ℕ). (header_of s).edges ≤ max_edges k) h.form h.edges in
      line-none 4 _ 0 (rw (le-ltb max_nodes (node_lines (row_lines s)) (omega (arith, node-count, h.nodes)), le-ltb (max_edges 1) (edge_lines (row_lines s)) (omega (arith, edge_count, f)))) refl

  -- ---- no line refuses

  line-passes : (i : ℕ) → i < length (row_lines s) → line_fault (row_lines s) i ≡ 0
  unfolding line_fault
  line-passes i h = else-none _ _ (no-fault i h) ∙ line-none 42 _ _ (no-repeat i h) (line-none 14 _ 0 (not_within i h) refl)

  lines-pass : lines_fault (row_lines s) ≡ none
  unfolding lines_fault
  lines-pass = then-none _ _ (rows_none 0 (line_fault (row_lines s)) (length (row_lines s)) line-passes) ∙ then-none _ _ (rows_none 0 (end_fault (row_lines s)) (length (row_lines s)) ends-stand) ∙ refuse-none _ 0 0 none few-rows

  -- ---- what the lines name is what the office holds

  node-named : (k : Key) (i : ℕ) → i < (header_of s).nodes → names_node k (line_at (row_lines s) i) ≡ same_key (node_key_at s i) k
  node-named k i h = rw (is-node i h) (ap (λ (l : Line). same_key (identity_named l) k) (node-said i h))

  edge-named : (k : Key) (j : ℕ) → j < (header_of s).edges → names_edge k (line_at (row_lines s) ((header_of s).nodes + j)) ≡ same_key (edge_row s (edge_table s) j).key k
  unfolding edge_row
  edge-named k j h = rw (is-edge j h) (λ i. same_key (relation (its-kind j h i) (identity_named (its-from j h i)) (identity_named (its-to j h i))) k)

  module _ (one : (header_of s).offices ≡ 1) where
    -- of one office, each mark is that office's
    its-mark : (m : ℕ) → MarksFit (header_of s).offices m → marked m 1 ≡ true
    its-mark m f =
        let h : m < 2 ^ 1 = subst (λ (o : ℕ). m < 2 ^ o) one f.high in
        let e : m ≡ 1 = omega (arith, h, f.some) in
        rw e

    nodes-named : (k : Key) → (held_at s 1).node k ≡ some_line (names_node k) (row_lines s)
    unfolding node_row
    nodes-named k = both_ways _ _ there back
      where
        there : (held_at s 1).node k ≡ true → some_line (names_node k) (row_lines s) ≡ true
        there e = let r = node-held s w 1 k e in some_at _ (length (row_lines s)) r.row (omega (arith, r.inside, long)) (node-named k r.row r.inside ∙ eq-same _ k r.names)

        row : (i : ℕ) → i < length (row_lines s) → names_node k (line_at (row_lines s) i) ≡ true → (held_at s 1).node k ≡ true
        row = each_line (λ i. names_node k (line_at (row_lines s) i) ≡ true → (held_at s 1).node k ≡ true)
            (λ i h e. held-node s w 1 k (record { row = i; inside = h; names = same-eq _ k (sym (node-named k i h) ∙ e); bears = its-mark _ (w.nodes.fit i h).marks }))
            (λ j h e. absurd (true≢false (sym (and-true _ _ e).0 ∙ is-edge j h)))

        back : some_line (names_node k) (row_lines s) ≡ true → (held_at s 1).node k ≡ true
        back e = let r = some-row _ (length (row_lines s)) e in row r.0 r.1 r.2

    edges-named : (k : Key) → (held_at s 1).edge k ≡ some_line (names_edge k) (row_lines s)
    unfolding edge_row
    edges-named k = both_ways _ _ there back
      where
        there : (held_at s 1).edge k ≡ true → some_line (names_edge k) (row_lines s) ≡ true
        there e = let r = edge-held s w 1 k e in some_at _ (length (row_lines s)) ((header_of s).nodes + r.row) (omega (arith, r.inside, long)) (edge-named k r.row r.inside ∙ eq-same _ k r.names)

        row : (i : ℕ) → i < length (row_lines s) → names_edge k (line_at (row_lines s) i) ≡ true → (held_at s 1).edge k ≡ true
        row = each_line (λ i. names_edge k (line_at (row_lines s) i) ≡ true → (held_at s 1).edge k ≡ true)
            (λ i h e. absurd (true≢false (sym (and-true _ _ e).0 ∙ ap not (is-node i h))))
            (λ j h e. held-edge s w 1 k (record { row = j; inside = h; names = same-eq _ k (sym (edge-named k j h) ∙ e); bears = its-mark _ (w.edges.fit j h).marks }))

        back : some_line (names_edge k) (row_lines s) ≡ true → (held_at s 1).edge k ≡ true
        back e = let r = some-row _ (length (row_lines s)) e in row r.0 r.1 r.2

    -- reading what was written: no line refuses, and the lines mean the sheet
    pub round_trip : (lines_fault (lines_said (printed s)) ≡ none) × Means (lines_said (printed s)) s
    round_trip =
        subst (λ (ls : List Line). (lines_fault ls ≡ none) × Means ls s) (sym printed-lines)
        (lines-pass, record { accepted = w; one-office = one; nodes = nodes-named; edges = edges-named })
