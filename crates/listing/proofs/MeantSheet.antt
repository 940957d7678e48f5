-- The sheet that is laid of sorted lines is the one that they mean: it is accepted, and it holds what they name.
-- Assumes nothing.
use Prim.Native.Nat.{ℕ, ◌+◌, ◌-◌, ◌*◌, ◌<◌, ◌≤◌}
use mathlib.Core.Path.{◌≡◌, refl, sym, ap, ap₂, subst, ◌∙◌}
use mathlib.Core.Bool.{Bool, true, false, not, ◌&&◌, true≢false}
use mathlib.Core.List.{List}
use native.Mathlib.Omega.{arith}
use native.Mathlib.Decide.{dec_lt}
use lib.Dec.{ltb}
use lib.ListN.{length, get_or}
use borrow.Author.Tests.{ltb-true, not-true}
use Rattle.tables.specs.Count.{how_many}
use Rattle.tables.specs.Key.{Key, identity, relation, below_key, same_key}
use Rattle.tables.specs.Marks.{marked}
use Rattle.tables.specs.Table.{Row}
use Rattle.tables.proofs.Counts.{some_at, some-row}
use Rattle.tables.proofs.Keys.{same-eq, eq-same, rises, below-asym, below_irrefl}
use Rattle.tables.proofs.Tables.{and-true, MarkedRow}
use Rattle.sheet.specs.declared.Cells.{Cells}
use Rattle.sheet.specs.declared.Edge.{Edge}
use Rattle.sheet.specs.declared.Half.TheVariants.{Nodes, Edges}
use Rattle.sheet.specs.declared.Header.{Header}
use Rattle.sheet.specs.declared.Node.{Node}
use Rattle.sheet.specs.Accepted.{NodeFits, EdgeShaped, EdgeFits, RowsRise, Accepted}
use Rattle.sheet.specs.Found.{PlaceIs}
use Rattle.sheet.specs.Limits.{max_nodes, max_edges, edge_place}
use Rattle.sheet.specs.Named.{node_row, edge_row, held_at}
use Rattle.sheet.specs.Rows.{header_of, node_at, edge_at, edge_table, node_key, node_key_at, edge_key_at, cells_in}
use Rattle.sheet.proofs.Built.{built, built-header, built-fits, built-table, built-node, built-edge}
use Rattle.sheet.proofs.Naming.{rise-named, node-held, held-node, edge-held, held-edge}
use Rattle.sheet.proofs.Places.{stands-there}
use Rattle.lines.specs.declared.Line.{Line}
use Rattle.lines.specs.Naming.{is_node_line, identity_named, kind_named, from_line, to_line, relation_named, within_itself, line_key}
use Rattle.lines.proofs.Back.{GoodLine}
use Rattle.sorting.specs.Sorted.{most_sorted, four_at}
use Rattle.sorting.proofs.Orders.{row-in-order, order-rises}
use Rattle.listing.specs.Cut.{line_at}
use Rattle.listing.specs.Faults.{says_this, node_lines, edge_lines}
use Rattle.listing.specs.Laying.{line_in, key_in, PlaceOfLine, line_cells, EdgeCells, RowWords, first_edge}
use Rattle.listing.specs.LineByLine.{Tabled}
use Rattle.listing.specs.Meant.{some_line, Means}
use Rattle.listing.proofs.Once.{both_ways, many-front}
use Rattle.listing.proofs.Laying.{row-words-there}
use Rattle.listing.proofs.Refused.{both_halves}
use Rattle.listing.proofs.LineFacts.{node-line-numbers, nodes-rising, edges-rising, kind-range, ends-fit, from-node, to-node, one-end-itself, before-edges}
use Rattle.listing.proofs.RowLines.{one_line}

-- lines that nothing refuses, but for their number
pub record Faultless (ls : List Line) : Type 0 where
  pub good : (i : ℕ) → i < length ls → GoodLine (line_at ls i)
  pub once : (i j : ℕ) → i < length ls → j < length ls → line_key (line_at ls i) ≡ line_key (line_at ls j) → i ≡ j
  pub apart : (i : ℕ) → i < length ls → within_itself (line_at ls i) ≡ false
  pub from : (i : ℕ) → i < length ls → is_node_line (line_at ls i) ≡ false → says_this ls (length ls) (from_line (line_at ls i)) ≡ true
  pub to : (i : ℕ) → i < length ls → is_node_line (line_at ls i) ≡ false → says_this ls (length ls) (to_line (line_at ls i)) ≡ true

-- what office 1 holds is what lines name: the rows of a half are the lines of its kind, place by place
pub held-named : (ls : List Line) (order : List ℕ) (held : Key → Bool) (ours : Line → Bool) (name : Line → Key) (from many : ℕ) (row : ℕ → Row)
    → ((k : Key) → held k ≡ true → MarkedRow many row 1 k) → ((k : Key) → MarkedRow many row 1 k → held k ≡ true) → ((u : ℕ) → u < many → row u ≡ record { key = name (line_at ls (get_or order (from + u) 0)); marks = 1 })
    → ((u : ℕ) → u < many → (get_or order (from + u) 0 < length ls) × (ours (line_at ls (get_or order (from + u) 0)) ≡ true))
    → ((i : ℕ) → i < length ls → ours (line_at ls i) ≡ true → (u : ℕ) × (u < many) × (get_or order (from + u) 0 ≡ i))
    → (k : Key) → held k ≡ some_line (λ l. ours l && same_key (name l) k) ls
held-named ls order held ours name from many row found shows is its place k = both_ways (held k) _ there back
  where
    there : held k ≡ true → some_line (λ l. ours l && same_key (name l) k) ls ≡ true
    there e =
        let r = found k e in
        let x = its r.row r.inside in
        let names : name (line_at ls (get_or order (from + r.row) 0)) ≡ k = ap (λ (y : Row). y.key) (sym (is r.row r.inside)) ∙ r.names in
        some_at _ (length ls) (get_or order (from + r.row) 0) x.0 (rw (x.1, eq-same (name (line_at ls (get_or order (from + r.row) 0))) k names) refl)

    back : some_line (λ l. ours l && same_key (name l) k) ls ≡ true → held k ≡ true
    back e =
        let i = some-row _ (length ls) e in
        let x = and-true _ _ i.2 in
        let u = place i.0 i.1 x.0 in
        let line = ap (λ (j : ℕ). name (line_at ls j)) u.2 in
        let r = is u.0 u.1 in
        shows k (record { row = u.0; inside = u.1; names = ap (λ (y : Row). y.key) r ∙ line ∙ same-eq _ _ x.1; bears = ap (λ (y : Row). marked y.marks 1) r })

-- a row that rises stands at its own place
own-place : (f : ℕ → Key) (n : ℕ) → RowsRise f n → (p : ℕ) → p < n → PlaceIs f n (f p) p
own-place f n up p h = record { inside = omega arith; before = λ j g. rises f n up j p g h; after = after }
  where
    after : (j : ℕ) → p ≤ j → j < n → below_key (f j) (f p) ≡ false
    after j g l = go (dec_lt p j)
      where
        go : Dec (p < j) → below_key (f j) (f p) ≡ false
        go (yes d) = below-asym (f p) (f j) (rises f n up p j d l)
        go (no d) = let z : j ≡ p = omega arith in rw z (below_irrefl (f p))

module _ (ls : List Line) (F : Faultless ls) (rows order : List ℕ) (few : length ls ≤ most_sorted) (T : Tabled ls (length ls) rows order) where
  abbrev count : ℕ
  count = length ls

  long : length order ≡ count
  long = T.long few

  -- the line at a place of the order
  abbrev placed : ℕ → Line
  placed p = line_at ls (get_or order p 0)

  row_inside : (p : ℕ) → p < count → get_or order p 0 < count
  row_inside p h = let a = T.in_order.sorted.inside p (omega (arith, long)) in omega (arith, long)

  placed-good : (p : ℕ) → p < count → GoodLine (placed p)
  placed-good p h = F.good (get_or order p 0) (row_inside p h)

  key-placed : (p : ℕ) → p < count → key_in rows order p ≡ line_key (placed p)
  key-placed p h = T.filled few (get_or order p 0) (row_inside p h)

  line-placed : (p : ℕ) → p < count → line_in rows order p ≡ placed p
  unfolding four_at
  line-placed p h = one_line (line_in rows order p) (placed p) (sym (placed-good p h).fault) (key-placed p h)

  keys-rise : RowsRise (key_in rows order) (length order)
  keys-rise = order-rises rows (length order) order T.in_order.sorted
      (λ i j h g e. F.once i j (omega (arith, long)) (omega (arith, long)) (sym (T.filled few i (omega (arith, long))) ∙ e ∙ T.filled few j (omega (arith, long))))

  placed-rise : (p q : ℕ) → p < q → q < count → below_key (line_key (placed p)) (line_key (placed q)) ≡ true
  placed-rise p q h g = ap₂ below_key (sym (key-placed p (omega arith))) (sym (key-placed q g)) ∙ rises (key_in rows order) (length order) keys-rise p q h (omega (arith, long))

  -- each line has a place
  place-of-line : (i : ℕ) → i < count → (p : ℕ) × (p < count) × (get_or order p 0 ≡ i)
  place-of-line i h = let r = row-in-order rows (length order) order T.in_order.sorted i (omega (arith, long)) in (r.0, omega (arith, r.1, long), r.2)

  module _ (n : ℕ) (N : PlaceIs (key_in rows order) (length order) first_edge n) where
    nodes-few : n ≤ count
    nodes-few = let a = N.inside in omega (arith, long)

    -- node lines stand in front
    node-front : (p : ℕ) → p < n → is_node_line (placed p) ≡ true
    node-front p h = sym (before-edges (placed p)) ∙ ap (λ (k : Key). below_key k first_edge) (sym (key-placed p (omega (arith, nodes-few)))) ∙ N.before p h

    edge-back : (p : ℕ) → n ≤ p → p < count → is_node_line (placed p) ≡ false
    edge-back p h g = sym (before-edges (placed p)) ∙ ap (λ (k : Key). below_key k first_edge) (sym (key-placed p g)) ∙ N.after p h (omega (arith, long))

    node-place : (p : ℕ) → p < count → is_node_line (placed p) ≡ true → p < n
    node-place p h e = go (dec_lt p n)
      where
        go : Dec (p < n) → p < n
        go (yes l) = l
        go (no l) = absurd (true≢false (sym e ∙ edge-back p (omega arith) h))

    -- ---- such a sheet is there

    -- the place of a line that is there
    line-place : (l : Line) → says_this ls count l ≡ true → (x : ℕ) × PlaceOfLine rows order l x
    unfolding says_this
    line-place l there =
        let i = some-row _ count there in
        let p = place-of-line i.0 i.1 in
        let k : key_in rows order p.0 ≡ line_key l = key-placed p.0 p.1 ∙ ap (λ (j : ℕ). line_key (line_at ls j)) p.2 ∙ same-eq _ _ i.2 in
        (p.0, subst (λ (y : Key). PlaceIs (key_in rows order) (length order) y p.0) k (own-place (key_in rows order) (length order) keys-rise p.0 (omega (arith, p.1, long))))

    pub node-words-there : (words : List ℕ) × RowWords Nodes rows order 0 n words
    node-words-there = row-words-there Nodes rows order 0 n (λ k h. (line_cells (line_in rows order (0 + k)), refl))

    pub edge-words-there : (words : List ℕ) × RowWords Edges rows order n (count - n) words
    edge-words-there = row-words-there Edges rows order n (count - n) cells
      where
        cells : (k : ℕ) → k < count - n → (c : Cells) × EdgeCells rows order (line_in rows order (n + k)) c
        cells k h =
            let inside : n + k < count = omega arith in
            let l = placed (n + k) in
            let edge = edge-back (n + k) (omega arith) inside in
            let from = line-place (from_line l) (F.from (get_or order (n + k) 0) (row_inside (n + k) inside) edge) in
            let to = line-place (to_line l) (F.to (get_or order (n + k) 0) (row_inside (n + k) inside) edge) in (
              record { first = kind_named l; second = from.0; third = to.0; offices = 1 },
              rw (line-placed (n + k) inside) (record { kind = refl; from = from.1; to = to.1; office = refl }),
            )

    -- ---- how many lines

    pub node-count : node_lines ls ≡ n
    unfolding node_lines
    node-count =
        sym (subst (λ (m : ℕ). how_many (λ p. is_node_line (placed p)) m ≡ how_many (λ i. is_node_line (line_at ls i)) m) long (T.in_order.sorted.each (λ i. is_node_line (line_at ls i))))
        ∙ many-front (λ p. is_node_line (placed p)) n count nodes-few node-front edge-back

    pub edge_count : edge_lines ls ≡ count - n
    edge_count = omega (arith, both_halves ls, node-count)

    module _ (wn we : List ℕ) (few-nodes : n ≤ max_nodes) (few-edges : count - n ≤ max_edges 1) (WN : RowWords Nodes rows order 0 n wn) (WE : RowWords Edges rows order n (count - n) we) where
      abbrev e : ℕ
      e = count - n

      abbrev t : List ℕ
      t = built 1 1 n e wn we WN.long WE.long

      t-header : header_of t ≡ record { form = 1; offices = 1; nodes = n; edges = e; nodeoffset = 6; edgeoffset = 6 + 4 * n }
      t-header = built-header 1 1 n e wn we WN.long WE.long

      t-nodes : (header_of t).nodes ≡ n
      t-nodes = ap (λ (h : Header). h.nodes) t-header

      t-edges : (header_of t).edges ≡ e
      t-edges = ap (λ (h : Header). h.edges) t-header

      pub t-offices : (header_of t).offices ≡ 1
      t-offices = ap (λ (h : Header). h.offices) t-header

      t-table : edge_table t ≡ we
      t-table = built-table 1 1 n e wn we WN.long WE.long

      -- ---- node rows

      node-is : (u : ℕ) → u < n → node_at t u ≡ record { class = (placed u).form; number = (placed u).first; variant = (placed u).second; offices = 1 }
      node-is u h =
          let l = line-placed u (omega (arith, nodes-few)) in
          let z : 0 + u ≡ u = omega arith in
          let c : cells_in Nodes 1 wn u ≡ line_cells (placed u) = WN.each u h ∙ ap (λ (p : ℕ). line_cells (line_in rows order p)) z ∙ ap line_cells l in
          built-node 1 1 n e wn we WN.long WE.long u h ∙ ap (λ (x : Cells). record { class = x.first; number = x.second; variant = x.third; offices = x.offices }) c

      node-key : (u : ℕ) → u < n → node_key_at t u ≡ identity_named (placed u)
      node-key u h = ap node_key (node-is u h)

      node-fit : (u : ℕ) → u < n → NodeFits (header_of t) (node_at t u)
      node-fit u h =
          let g = placed-good u (omega (arith, nodes-few)) in
          let x = node-line-numbers (placed u) g (node-front u h) in
          let f = ltb-true (placed u).form 5 (node-front u h) in
          rw (node-is u h, t-offices)
          (record {
            class_low = g.form-low;
            class-high = omega arith;
            number = x.number-good;
            variant = x.variant-good;
            marks = record { some = omega arith; high = omega arith };
          })

      t-nodes-rise : RowsRise (node_key_at t) n
      t-nodes-rise u h =
          let a = node-line-numbers (placed u) (placed-good u (omega (arith, nodes-few))) (node-front u (omega arith)) in
          let b = node-line-numbers (placed (u + 1)) (placed-good (u + 1) (omega (arith, nodes-few))) (node-front (u + 1) h) in
          ap₂ below_key (node-key u (omega arith)) (node-key (u + 1) h) ∙ nodes-rising (placed u) (placed (u + 1)) a.nothing b.nothing (placed-rise u (u + 1) (omega arith) (omega (arith, nodes-few)))

      -- ---- ends

      -- a node line that is there stands at its place, among the node rows
      end-stands : (l : Line) (x : ℕ) → PlaceOfLine rows order l x → is_node_line l ≡ true → says_this ls count l ≡ true → (x < n) × (node_key_at t x ≡ identity_named l)
      unfolding says_this
      end-stands l x P node there =
          let i = some-row _ count there in
          let p = place-of-line i.0 i.1 in
          let same : line_key (line_at ls i.0) ≡ line_key l = same-eq _ _ i.2 in
          let k : key_in rows order p.0 ≡ line_key l = key-placed p.0 p.1 ∙ ap (λ (j : ℕ). line_key (line_at ls j)) p.2 ∙ same in
          let at = stands-there (key_in rows order) (length order) keys-rise (line_key l) x p.0 P (omega (arith, p.1, long)) k in
          let inside : x < count = omega (arith, at.0, long) in
          let key : line_key (placed x) ≡ line_key l = sym (key-placed x inside) ∙ at.1 in
          let form : (placed x).form ≡ l.form = cc key in
          let h : x < n = node-place x inside (ap (λ (f : ℕ). ltb f 5) form ∙ node) in
          let a : (placed x).first ≡ l.first = cc key in
          let b : (placed x).second ≡ l.second = cc key in
          (h, node-key x h ∙ (λ k. identity (form k) (a k) (b k)))

      -- ---- edge rows

      at_place : (v : ℕ) → v < e → n + v < count
      at_place v h = omega arith

      edge-cells : (v : ℕ) → v < e → EdgeCells rows order (placed (n + v)) (cells_in Edges 1 we v)
      edge-cells v h = subst (λ (l : Line). EdgeCells rows order l (cells_in Edges 1 we v)) (line-placed (n + v) (at_place v h)) (WE.each v h)

      edge-is : (v : ℕ) → edge_at (header_of t) we v ≡ record { kind = (cells_in Edges 1 we v).first; from = (cells_in Edges 1 we v).second; to = (cells_in Edges 1 we v).third; offices = (cells_in Edges 1 we v).offices }
      edge-is v = built-edge 1 1 n e wn we WN.long WE.long v

      module _ (v : ℕ) (h : v < e) where
        l : Line
        l = placed (n + v)

        l-edge : is_node_line (placed (n + v)) ≡ false
        l-edge = edge-back (n + v) (omega arith) (at_place v h)

        l-good : GoodLine (placed (n + v))
        l-good = placed-good (n + v) (at_place v h)

        edge-kind : (edge_at (header_of t) we v).kind ≡ kind_named (placed (n + v))
        edge-kind = ap (λ (x : Edge). x.kind) (edge-is v) ∙ (edge-cells v h).kind

        edge-office : (edge_at (header_of t) we v).offices ≡ 1
        edge-office = ap (λ (x : Edge). x.offices) (edge-is v) ∙ (edge-cells v h).office

        edge-from : ((edge_at (header_of t) we v).from < n) × (node_key_at t (edge_at (header_of t) we v).from ≡ identity_named (from_line (placed (n + v))))
        edge-from =
            end-stands (from_line (placed (n + v))) (edge_at (header_of t) we v).from (subst (PlaceOfLine rows order (from_line (placed (n + v)))) (sym (ap (λ (x : Edge). x.from) (edge-is v))) (edge-cells v h).from)
            (from-node (placed (n + v)) l-good l-edge) (F.from (get_or order (n + v) 0) (row_inside (n + v) (at_place v h)) l-edge)

        edge_to : ((edge_at (header_of t) we v).to < n) × (node_key_at t (edge_at (header_of t) we v).to ≡ identity_named (to_line (placed (n + v))))
        edge_to =
            end-stands (to_line (placed (n + v))) (edge_at (header_of t) we v).to (subst (PlaceOfLine rows order (to_line (placed (n + v)))) (sym (ap (λ (x : Edge). x.to) (edge-is v))) (edge-cells v h).to)
            (to-node (placed (n + v)) l-good l-edge) (F.to (get_or order (n + v) 0) (row_inside (n + v) (at_place v h)) l-edge)

        edge-key : (edge_row t we v).key ≡ relation_named (placed (n + v))
        unfolding edge_row
        edge-key = let k = edge-kind in let a = edge-from.1 in let b = edge_to.1 in λ i. relation (k i) (a i) (b i)

        edge-shaped : EdgeShaped (header_of t) (edge_at (header_of t) we v)
        edge-shaped =
            let r = kind-range (placed (n + v)) l-good l-edge in
            record { kind-low = omega (arith, edge-kind, r.0); kind-high = omega (arith, edge-kind, r.1); from = omega (arith, t-nodes, edge-from.0); to = omega (arith, t-nodes, edge_to.0) }

        edge-fit : EdgeFits (header_of t) (edge_at (header_of t) we v) (node_at t (edge_at (header_of t) we v).from) (node_at t (edge_at (header_of t) we v).to)
        edge-fit =
            let cx : (node_at t (edge_at (header_of t) we v).from).class ≡ (from_line (placed (n + v))).form = cc edge-from.1 in
            let cy : (node_at t (edge_at (header_of t) we v).to).class ≡ (to_line (placed (n + v))).form = cc edge_to.1 in
            let ox : (node_at t (edge_at (header_of t) we v).from).offices ≡ 1 = ap (λ (r : Node). r.offices) (node-is _ edge-from.0) in
            let oy : (node_at t (edge_at (header_of t) we v).to).offices ≡ 1 = ap (λ (r : Node). r.offices) (node-is _ edge_to.0) in
            record {
              ends = rw (edge-kind, cx, cy) (ends-fit (placed (n + v)) l-good l-edge);
              apart = λ k q. true≢false (sym (one-end-itself (placed (n + v)) (sym edge-kind ∙ k) (sym edge-from.1 ∙ ap (node_key_at t) q ∙ edge_to.1)) ∙ F.apart (get_or order (n + v) 0) (row_inside (n + v) (at_place v h)));
              marks = rw (edge-office, t-offices) (record { some = omega arith; high = omega arith });
              in-from = rw (edge-office, ox) refl;
              in-to = rw (edge-office, oy) refl;
            }

      t-edges-rise : RowsRise (edge_key_at (header_of t) we) e
      t-edges-rise =
          rise-named t we n e t-nodes-rise (λ v h. ((edge-from v h).0, (edge_to v h).0))
          (λ v h. ap₂ below_key (edge-key v (omega arith)) (edge-key (v + 1) h)
          ∙ edges-rising (placed (n + v)) (placed (n + (v + 1))) (l-good v (omega arith)) (l-good (v + 1) h) (l-edge v (omega arith)) (l-edge (v + 1) h) (placed-rise (n + v) (n + (v + 1)) (omega arith) (omega arith)))

      pub t-accepted : Accepted t
      t-accepted =
          record {
            head = refl;
            table = refl;
            nodes = record { header = built-fits 1 1 n e wn we WN.long WE.long refl (omega arith) (omega arith) few-nodes few-edges; fit = λ u h. node-fit u (omega (arith, t-nodes)); rise = λ u h. t-nodes-rise u (omega (arith, t-nodes)) };
            edges = rw (t-table) (record {
              room = omega (arith, WE.long, ap (λ (h : Header). edge_place h.form h.edges) t-header);
              shaped = λ v h. edge-shaped v (omega (arith, t-edges));
              fit = λ v h. edge-fit v (omega (arith, t-edges));
              rise = λ v h. t-edges-rise v (omega (arith, t-edges));
            });
          }

      -- ---- what it holds

      node_row_lem : (u : ℕ) → u < n → node_row t u ≡ record { key = identity_named (placed (0 + u)); marks = 1 }
      unfolding node_row
      node_row_lem u h =
          let z : 0 + u ≡ u = omega arith in
          let k = node-key u h ∙ ap (λ (p : ℕ). identity_named (placed p)) (sym z) in
          let m : (node_at t u).offices ≡ 1 = ap (λ (r : Node). r.offices) (node-is u h) in
          λ i. record { key = k i; marks = m i }

      edge_row_lem : (v : ℕ) → v < e → edge_row t we v ≡ record { key = relation_named (placed (n + v)); marks = 1 }
      unfolding edge_row
      edge_row_lem v h = let k = edge-key v h in let m = edge-office v h in λ i. record { key = k i; marks = m i }

      edge-place : (i : ℕ) → i < count → not (is_node_line (line_at ls i)) ≡ true → (v : ℕ) × (v < e) × (get_or order (n + v) 0 ≡ i)
      edge-place i h o = go (dec_lt p.0 n)
        where
          p : (q : ℕ) × (q < count) × (get_or order q 0 ≡ i)
          p = place-of-line i h

          go : Dec (p.0 < n) → (v : ℕ) × (v < e) × (get_or order (n + v) 0 ≡ i)
          go (yes l) = absurd (true≢false (sym (node-front p.0 l) ∙ ap (λ (j : ℕ). is_node_line (line_at ls j)) p.2 ∙ not-true _ o))
          go (no l) = let z : n + (p.0 - n) ≡ p.0 = omega arith in (p.0 - n, omega (arith, p.1), ap (λ (q : ℕ). get_or order q 0) z ∙ p.2)

      pub t-means : Means ls t
      t-means =
          record {
            accepted = t-accepted;
            one-office = t-offices;
            nodes = held-named ls order (held_at t 1).node is_node_line identity_named 0 n (node_row t)
                (λ k x. subst (λ (m : ℕ). MarkedRow m (node_row t) 1 k) t-nodes (node-held t t-accepted 1 k x))
                (λ k x. held-node t t-accepted 1 k (subst (λ (m : ℕ). MarkedRow m (node_row t) 1 k) (sym t-nodes) x))
                (λ u h. node_row_lem u h)
                (λ u h. let z : 0 + u ≡ u = omega arith in rw z (row_inside u (omega (arith, nodes-few)), node-front u h))
                (λ i h o. let p = place-of-line i h in let z : 0 + p.0 ≡ p.0 = omega arith in (p.0, node-place p.0 p.1 (ap (λ (j : ℕ). is_node_line (line_at ls j)) p.2 ∙ o), ap (λ (q : ℕ). get_or order q 0) z ∙ p.2));
            edges = held-named ls order (held_at t 1).edge (λ l. not (is_node_line l)) relation_named n e (edge_row t (edge_table t))
                (λ k x. subst (λ (m : ℕ). MarkedRow m (edge_row t (edge_table t)) 1 k) t-edges (edge-held t t-accepted 1 k x))
                (λ k x. held-edge t t-accepted 1 k (subst (λ (m : ℕ). MarkedRow m (edge_row t (edge_table t)) 1 k) (sym t-edges) x))
                (λ v h. ap (λ (w : List ℕ). edge_row t w v) t-table ∙ edge_row_lem v h)
                (λ v h. (row_inside (n + v) (at_place v h), ap not (l-edge v h)))
                (λ i h o. edge-place i h o);
          }
