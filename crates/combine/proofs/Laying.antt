-- Header, combined node rows and combined edge rows, one behind the other, are an accepted sheet, and its tables are the combined ones: what is asked of a row is what held where it comes from, and a row that stays has ends that stay.
-- Assumes nothing.
use Prim.Native.Nat.{ℕ, ◌+◌, ◌^◌, ◌<◌, ◌≤◌}
use mathlib.Core.Path.{◌≡◌, refl, sym, ap, ap₂, subst, ◌∙◌}
use mathlib.Core.Bool.{true}
use mathlib.Core.List.{List, []}
use native.Mathlib.Omega.{arith}
use native.Mathlib.Decide.{dec_lt}
use Rattle.tables.specs.Key.{Key, identity, relation, below_key}
use Rattle.tables.specs.Marks.{within}
use Rattle.tables.specs.Table.{Row, rows_of, marks_at}
use Rattle.tables.proofs.Keys.{one-row}
use Rattle.tables.proofs.Marks.{within_none, within-some}
use Rattle.tables.proofs.Tables.{marks-named, row_of, rows_alike}
use Rattle.sheet.specs.declared.Header.{Header}
use Rattle.sheet.specs.declared.Node.{Node}
use Rattle.sheet.specs.declared.Cells.{Cells}
use Rattle.sheet.specs.declared.Edge.{Edge}
use Rattle.sheet.specs.Limits.{max_offices, max_nodes, max_edges, edge_place}
use Rattle.sheet.specs.Rows.{header_of, node_at, edge_at, edge_of, edge_table, node_key, node_key_at, edge_key_at, cells_in, cells_at}
use Rattle.sheet.specs.Accepted.{NodeFits, EdgeShaped, EdgeFits, RowsRise, Accepted}
use Rattle.sheet.specs.Named.{node_row, edge_row, tables_of}
use Rattle.sheet.specs.Found.{PlaceIs}
use Rattle.sheet.proofs.Built.{built, built-header, built-fits, built-table, built-node, built-edge}
use Rattle.sheet.proofs.Naming.{rise-named}
use Rattle.sheet.proofs.Places.{stands-there}
use Rattle.sheet.specs.declared.Half.TheVariants.{Nodes, Edges}
use Rattle.combine.specs.Combined.{Making, keys, Combined, PlacesIn}
use Rattle.combine.specs.Rules.{Rules}
use Rattle.combine.specs.Halves.{through, spelled, Spelled, by_first, by-second, Words}
use Rattle.combine.specs.Sheets.{IsCombined}
use Rattle.combine.proofs.Reading.{half-own, half-low}

-- ---- the marks of an edge lie within those of its ends, at every key

module _ (s : List ℕ) (v : Accepted s) where
  node-marks : (i : ℕ) (k : Key) → i < (header_of s).nodes → node_key_at s i ≡ k → marks_at (rows_of (header_of s).nodes (node_row s)) k ≡ (node_at s i).offices
  unfolding node_row
  node-marks i k l e = marks-named _ (node_row s) (half-own s (header_of s) v Nodes) k i l e

  -- one law for both ends: `end` picks one, whose identity a row's key K shows as k
  end-within : (end : Edge → ℕ) (K k : Key) → ((x : ℕ) → x < (header_of s).edges → (edge_row s (edge_table s) x).key ≡ K
      → (end (edge_of s x) < (header_of s).nodes) × (node_key_at s (end (edge_of s x)) ≡ k) × (within (edge_of s x).offices (node_at s (end (edge_of s x))).offices ≡ true))
      → within (marks_at (rows_of (header_of s).edges (edge_row s (edge_table s))) K) (marks_at (rows_of (header_of s).nodes (node_row s)) k) ≡ true
  unfolding edge_row
  end-within end K k at = go (dec_lt 0 (marks_at (rows_of (header_of s).edges (edge_row s (edge_table s))) K))
    where
      go : Dec (0 < marks_at (rows_of (header_of s).edges (edge_row s (edge_table s))) K) → within (marks_at (rows_of (header_of s).edges (edge_row s (edge_table s))) K) (marks_at (rows_of (header_of s).nodes (node_row s)) k) ≡ true
      go (no l) = within_none _ _ l
      go (yes l) =
          let r = row_of _ (edge_row s (edge_table s)) K l in
          let e = at r.row r.inside r.names in
          ap₂ within (marks-named _ (edge_row s (edge_table s)) (half-own s (header_of s) v Edges) K r.row r.inside r.names) (node-marks _ _ e.0 e.1) ∙ e.2

  module _ (kind t n u t' n' u' : ℕ) where
    from-within : within (marks_at (rows_of (header_of s).edges (edge_row s (edge_table s))) (relation kind (identity t n u) (identity t' n' u'))) (marks_at (rows_of (header_of s).nodes (node_row s)) (identity t n u)) ≡ true
    unfolding edge_row
    from-within = end-within (λ e. e.from) _ _ (λ x l e. ((v.edges.shaped x l).from, cc e, (v.edges.fit x l).in-from))

    to-within : within (marks_at (rows_of (header_of s).edges (edge_row s (edge_table s))) (relation kind (identity t n u) (identity t' n' u'))) (marks_at (rows_of (header_of s).nodes (node_row s)) (identity t' n' u')) ≡ true
    unfolding edge_row
    to-within = end-within (λ e. e.to) _ _ (λ x l e. ((v.edges.shaped x l).to, cc e, (v.edges.fit x l).in-to))

-- the key of an edge row, its ends' words written out
edge-named : (s : List ℕ) (x : ℕ) (k : Key) → (edge_row s (edge_table s) x).key ≡ k
    → relation (edge_of s x).kind (node_key_at s (edge_of s x).from) (node_key_at s (edge_of s x).to) ≡ k
unfolding edge_row
edge-named s x k e = e

-- ---- the sheet

module _ (N E : Making) (c : ℕ) (a b : List ℕ) (va : Accepted a) (vb : Accepted b) (R : Rules N E (header_of a).offices (header_of b).offices c) (low : 1 ≤ c) (high : c ≤ max_offices)
    (n e : ℕ) (few-nodes : n ≤ max_nodes) (few-edges : e ≤ max_edges (header_of a).form) (wn we ma mb : List ℕ) (rowN rowE : ℕ → Row)
    (CN : Combined N (header_of a).nodes (node_row a) (header_of b).nodes (node_row b) n rowN)
    (CE : Combined E (header_of a).edges (edge_row a (edge_table a)) (header_of b).edges (edge_row b (edge_table b)) e rowE)
    (SN : Words Nodes a (header_of a) b (header_of b) [] [] n rowN wn) (SE : Words Edges a (header_of a) b (header_of b) ma mb e rowE we)
    (LA : PlacesIn (node_row a) (header_of a).nodes (through ma) n rowN) (LB : PlacesIn (node_row b) (header_of b).nodes (through mb) n rowN) where
  abbrev t : List ℕ
  t = built (header_of a).form c n e wn we SN.long SE.long

  t-nodes : (header_of t).nodes ≡ n
  t-nodes = ap (λ (h : Header). h.nodes) (built-header (header_of a).form c n e wn we SN.long SE.long)

  t-edges : (header_of t).edges ≡ e
  t-edges = ap (λ (h : Header). h.edges) (built-header (header_of a).form c n e wn we SN.long SE.long)

  t-offices : (header_of t).offices ≡ c
  t-offices = ap (λ (h : Header). h.offices) (built-header (header_of a).form c n e wn we SN.long SE.long)

  t-table : edge_table t ≡ we
  t-table = built-table (header_of a).form c n e wn we SN.long SE.long

  -- ---- node rows

  -- each is a node row of one of the sheets, under its own marks
  record NodeFrom (u : ℕ) : Type 0 where
    from-sheet : List ℕ
    checked : Accepted from-sheet
    place : ℕ
    inside : place < (header_of from-sheet).nodes
    is : node_at t u ≡ record { class = (node_at from-sheet place).class; number = (node_at from-sheet place).number; variant = (node_at from-sheet place).variant; offices = (rowN u).marks }
    key : node_key_at from-sheet place ≡ (rowN u).key

  node-from : (u : ℕ) → u < n → NodeFrom u
  unfolding spelled through node_row
  node-from u l = go (SN.each u l)
    where
      go : Spelled Nodes a (header_of a) b (header_of b) [] [] (rowN u) (cells_in Nodes (header_of a).form wn u) → NodeFrom u
      go (by_first x d k q) = record { from-sheet = a; checked = va; place = x; inside = d; is = built-node (header_of a).form c n e wn we SN.long SE.long u l ∙ rw q refl; key = k }
      go (by-second y d k q) = record { from-sheet = b; checked = vb; place = y; inside = d; is = built-node (header_of a).form c n e wn we SN.long SE.long u l ∙ rw q refl; key = k }

  node-key : (u : ℕ) → u < n → node_key_at t u ≡ (rowN u).key
  node-key u l = let f = node-from u l in ap node_key f.is ∙ f.key

  node_row_lem : (u : ℕ) → u < n → node_row t u ≡ rowN u
  unfolding node_row
  node_row_lem u l = let k = node-key u l in let m : (node_at t u).offices ≡ (rowN u).marks = ap (λ (r : Node). r.offices) (node-from u l).is in λ i. record { key = k i; marks = m i }

  nodes-made : (k : Key) → marks_at (rows_of n rowN) k < 2 ^ c
  nodes-made k = subst (λ (x : ℕ). x < 2 ^ c) (sym (CN.marks k)) (R.nodes.fits _ _ (half-low a (header_of a) va Nodes k) (half-low b (header_of b) vb Nodes k))

  edges-made : (k : Key) → marks_at (rows_of e rowE) k < 2 ^ c
  edges-made k = subst (λ (x : ℕ). x < 2 ^ c) (sym (CE.marks k)) (R.edges.fits _ _ (half-low a (header_of a) va Edges k) (half-low b (header_of b) vb Edges k))

  -- a row's marks are those at its key
  node-here : (u : ℕ) → u < n → marks_at (rows_of n rowN) (rowN u).key ≡ (rowN u).marks
  node-here u l = marks-named n rowN (one-row (keys rowN) n CN.table.up) (rowN u).key u l refl

  edge_here : (v : ℕ) → v < e → marks_at (rows_of e rowE) (rowE v).key ≡ (rowE v).marks
  edge_here v l = marks-named e rowE (one-row (keys rowE) e CE.table.up) (rowE v).key v l refl

  node-fit : (u : ℕ) → u < n → NodeFits (header_of t) (node_at t u)
  node-fit u l =
      let f = node-from u l in
      let g = f.checked.nodes.fit f.place f.inside in
      rw (f.is, t-offices)
      (record {
        class_low = g.class_low;
        class-high = g.class-high;
        number = g.number;
        variant = g.variant;
        marks = record { some = CN.table.some u l; high = omega (arith, node-here u l, nodes-made (rowN u).key) };
      })

  laid-nodes-rise : RowsRise (node_key_at t) n
  laid-nodes-rise u l = ap₂ below_key (node-key u (omega arith)) (node-key (u + 1) l) ∙ CN.table.up u l

  -- ---- edge rows

  -- an end: where it stands, with its identity, and its marks bear the row's
  record EndStands (v x : ℕ) (k : Key) : Type 0 where
    stands : x < n
    named : node_key_at t x ≡ k
    bears : within (rowE v).marks (node_at t x).offices ≡ true

  -- each is an edge row of one of the sheets, under its own marks, its ends where they stand now
  record EdgeFrom (v : ℕ) : Type 0 where
    from-sheet : List ℕ
    checked : Accepted from-sheet
    place : ℕ
    inside : place < (header_of from-sheet).edges
    kind : (edge_at (header_of t) we v).kind ≡ (edge_of from-sheet place).kind
    marks : (edge_at (header_of t) we v).offices ≡ (rowE v).marks
    key : (edge_row from-sheet (edge_table from-sheet) place).key ≡ (rowE v).key
    from : EndStands v (edge_at (header_of t) we v).from (node_key_at from-sheet (edge_of from-sheet place).from)
    to : EndStands v (edge_at (header_of t) we v).to (node_key_at from-sheet (edge_of from-sheet place).to)

  -- an end's marks bear the row's, so it stays
  end : (v x : ℕ) (k : Key) (spots : ℕ → ℕ) (s : List ℕ) (p : ℕ) → v < e → within (E (marks_at (rows_of (header_of a).edges (edge_row a (edge_table a))) (rowE v).key) (marks_at (rows_of (header_of b).edges (edge_row b (edge_table b))) (rowE v).key))
      (N (marks_at (rows_of (header_of a).nodes (node_row a)) k) (marks_at (rows_of (header_of b).nodes (node_row b)) k)) ≡ true
      → PlacesIn (node_row s) (header_of s).nodes spots n rowN → p < (header_of s).nodes → node_key_at s p ≡ k → x ≡ spots p → EndStands v x k
  unfolding node_row
  end v x k spots s p l inside L d e q =
      let m : within (rowE v).marks (marks_at (rows_of n rowN) k) ≡ true = ap₂ within (sym (edge_here v l) ∙ CE.marks (rowE v).key) (CN.marks k) ∙ inside in
      let some : 0 < marks_at (rows_of n rowN) k = within-some _ _ m (CE.table.some v l) in
      let at = row_of n rowN k some in
      let r = stands-there (keys rowN) n CN.table.up k (spots p) at.row (subst (λ (y : Key). PlaceIs (keys rowN) n y (spots p)) e (L p d)) at.inside at.names in
      let there : x < n = omega (arith, q, r.0) in
      let named : (rowN x).key ≡ k = ap (λ (y : ℕ). (rowN y).key) q ∙ r.1 in
      let o : (node_at t x).offices ≡ marks_at (rows_of n rowN) k = ap (λ (y : Node). y.offices) (node-from x there).is ∙ sym (node-here x there) ∙ ap (marks_at (rows_of n rowN)) named in
      record { stands = there; named = node-key x there ∙ named; bears = ap (within (rowE v).marks) o ∙ m }

  edge-from : (v : ℕ) → v < e → EdgeFrom v
  unfolding spelled
  edge-from v l = go (SE.each v l)
    where
      made-from : (kind t n u t' n' u' : ℕ) → relation kind (identity t n u) (identity t' n' u') ≡ (rowE v).key
          → within (E (marks_at (rows_of (header_of a).edges (edge_row a (edge_table a))) (rowE v).key) (marks_at (rows_of (header_of b).edges (edge_row b (edge_table b))) (rowE v).key))
          (N (marks_at (rows_of (header_of a).nodes (node_row a)) (identity t n u)) (marks_at (rows_of (header_of b).nodes (node_row b)) (identity t n u))) ≡ true
      made-from kind t n u t' n' u' q = rw (← q) (R.inside _ _ _ _ (half-low a (header_of a) va Edges _) (half-low a (header_of a) va Nodes _) (half-low b (header_of b) vb Edges _) (half-low b (header_of b) vb Nodes _) (from-within a va kind t n u t' n' u') (from-within b vb kind t n u t' n' u'))

      made-to : (kind t n u t' n' u' : ℕ) → relation kind (identity t n u) (identity t' n' u') ≡ (rowE v).key
          → within (E (marks_at (rows_of (header_of a).edges (edge_row a (edge_table a))) (rowE v).key) (marks_at (rows_of (header_of b).edges (edge_row b (edge_table b))) (rowE v).key))
          (N (marks_at (rows_of (header_of a).nodes (node_row a)) (identity t' n' u')) (marks_at (rows_of (header_of b).nodes (node_row b)) (identity t' n' u'))) ≡ true
      made-to kind t n u t' n' u' q = rw (← q) (R.inside _ _ _ _ (half-low a (header_of a) va Edges _) (half-low a (header_of a) va Nodes _) (half-low b (header_of b) vb Edges _) (half-low b (header_of b) vb Nodes _) (to-within a va kind t n u t' n' u') (to-within b vb kind t n u t' n' u'))

      via : (s : List ℕ) (vs : Accepted s) (spots : List ℕ) → PlacesIn (node_row s) (header_of s).nodes (through spots) n rowN → (x : ℕ) → x < (header_of s).edges → (edge_row s (edge_table s) x).key ≡ (rowE v).key
          → cells_in Edges (header_of a).form we v ≡ spelled spots (cells_at Edges s x) (rowE v).marks → EdgeFrom v
      via s vs spots L x d k at =
          let q : edge_at (header_of t) we v ≡ record { kind = (edge_of s x).kind; from = through spots (edge_of s x).from; to = through spots (edge_of s x).to; offices = (rowE v).marks } =
          built-edge (header_of a).form c n e wn we SN.long SE.long v ∙ ap (λ (z : Cells). record { kind = z.first; from = z.second; to = z.third; offices = z.offices }) at in
          let p = vs.edges.shaped x d in
          let y = edge-named s x (rowE v).key k in
          record {
            from-sheet = s;
            checked = vs;
            place = x;
            inside = d;
            kind = ap (λ (z : Edge). z.kind) q;
            marks = ap (λ (z : Edge). z.offices) q;
            key = k;
            from = end v _ _ (through spots) s _ l (made-from _ _ _ _ _ _ _ y) L p.from refl (ap (λ (z : Edge). z.from) q);
            to = end v _ _ (through spots) s _ l (made-to _ _ _ _ _ _ _ y) L p.to refl (ap (λ (z : Edge). z.to) q);
          }

      go : Spelled Edges a (header_of a) b (header_of b) ma mb (rowE v) (cells_in Edges (header_of a).form we v) → EdgeFrom v
      go (by_first x d k q) = via a va ma LA x d k q
      go (by-second y d k q) = via b vb mb LB y d k q

  edge_row_lem : (v : ℕ) → v < e → edge_row t we v ≡ rowE v
  unfolding edge_row
  edge_row_lem v l =
      let f = edge-from v l in
      let kind = f.kind in
      let from = f.from.named in
      let to = f.to.named in
      let k : relation (edge_at (header_of t) we v).kind (node_key_at t (edge_at (header_of t) we v).from) (node_key_at t (edge_at (header_of t) we v).to) ≡ (rowE v).key = (λ i. relation (kind i) (from i) (to i)) ∙ f.key in
      let m = f.marks in
      λ i. record { key = k i; marks = m i }

  edge-shaped : (v : ℕ) → v < e → EdgeShaped (header_of t) (edge_at (header_of t) we v)
  edge-shaped v l =
      let f = edge-from v l in
      let p = f.checked.edges.shaped f.place f.inside in
      record { kind-low = omega (arith, f.kind, p.kind-low); kind-high = omega (arith, f.kind, p.kind-high); from = omega (arith, t-nodes, f.from.stands); to = omega (arith, t-nodes, f.to.stands) }

  edge-fit : (v : ℕ) → v < e → EdgeFits (header_of t) (edge_at (header_of t) we v) (node_at t (edge_at (header_of t) we v).from) (node_at t (edge_at (header_of t) we v).to)
  edge-fit v l =
      let f = edge-from v l in
      let p = f.checked.edges.shaped f.place f.inside in
      let g = f.checked.edges.fit f.place f.inside in
      let x = f.from.named in
      let y = f.to.named in
      let cx : (node_at t (edge_at (header_of t) we v).from).class ≡ (node_at f.from-sheet (edge_of f.from-sheet f.place).from).class = cc in
      let cy : (node_at t (edge_at (header_of t) we v).to).class ≡ (node_at f.from-sheet (edge_of f.from-sheet f.place).to).class = cc in
      record {
        ends = rw (f.kind, cx, cy) g.ends;
        apart = λ q d. g.apart (sym f.kind ∙ q) (one-row (node_key_at f.from-sheet) (header_of f.from-sheet).nodes f.checked.nodes.rise _ _ p.from p.to (sym x ∙ ap (node_key_at t) d ∙ y));
        marks = rw (f.marks, t-offices) (record { some = CE.table.some v l; high = omega (arith, edge_here v l, edges-made (rowE v).key) });
        in-from = rw f.marks f.from.bears;
        in-to = rw f.marks f.to.bears;
      }

  laid-edges-rise : RowsRise (edge_key_at (header_of t) we) e
  laid-edges-rise =
      rise-named t we n e laid-nodes-rise (λ v l. ((edge-from v l).from.stands, (edge-from v l).to.stands))
      (λ v l. ap₂ (λ (x y : Row). below_key x.key y.key) (edge_row_lem v (omega arith)) (edge_row_lem (v + 1) l) ∙ CE.table.up v l)

  -- ---- all of it

  pub laid-accepted : Accepted t
  laid-accepted =
      record {
        head = refl;
        table = refl;
        nodes = record { header = built-fits (header_of a).form c n e wn we SN.long SE.long va.nodes.header.form low high few-nodes few-edges; fit = λ u l. node-fit u (omega (arith, t-nodes)); rise = λ u l. laid-nodes-rise u (omega (arith, t-nodes)) };
        edges = rw (t-table) (record {
          room = omega (arith, SE.long, ap (λ (h : Header). edge_place h.form h.edges) (built-header (header_of a).form c n e wn we SN.long SE.long));
          shaped = λ v l. edge-shaped v (omega (arith, t-edges));
          fit = λ v l. edge-fit v (omega (arith, t-edges));
          rise = λ v l. laid-edges-rise v (omega (arith, t-edges));
        });
      }

  pub combined : IsCombined N E c a b t
  unfolding tables_of
  combined =
      record {
        accepted = laid-accepted;
        offices-are = t-offices;
        nodes = λ k. rw (t-nodes, rows_alike n rowN (node_row t) node_row_lem) (CN.marks k);
        edges = λ k. rw (t-edges, t-table, rows_alike e rowE (edge_row t we) edge_row_lem) (CE.marks k);
      }
