-- Two sheets combined side by side are their join, and its counts are the union's.
-- Assumes nothing.
use Prim.Native.Nat.{ℕ, suc, ◌+◌, ◌-◌, ◌*◌, ◌^◌, ◌<◌, ◌≤◌}
use mathlib.Core.Path.{◌≡◌, sym, ap, subst, ◌∙◌}
use mathlib.Core.List.{List, ◌++◌}
use native.Mathlib.Omega.{arith}
use lib.ListN.{length, drop}
use Rattle.tables.specs.Count.{shared}
use Rattle.tables.specs.Marks.{marked}
use Rattle.tables.proofs.Marks.{marked-first, marked-second}
use Rattle.tables.proofs.Alike.{marks-bounded}
use Rattle.sheet.specs.declared.Header.{Header}
use Rattle.sheet.specs.Limits.{max_nodes, most_edges, sheet_words}
use Rattle.sheet.specs.Rows.{header_of, edge_table}
use Rattle.sheet.specs.Accepted.{WellFormed, Accepted}
use Rattle.sheet.specs.Named.{node_row, tables_of}
use Rattle.sheet.proofs.Naming.{nodes-rise, edges-rise, marks-held}
use Rattle.meaning.specs.Join.{offices_of, IsJoin}
use Rattle.sheet.specs.declared.Half.TheVariants.{Nodes, Edges}
use Rattle.sheet.proofs.Widths.{edges_few}
use Rattle.combine.specs.declared.Rule.TheVariants.{Beside}
use Rattle.combine.specs.declared.Measure.{Measure}
use Rattle.combine.specs.Combined.{Making, keys}
use Rattle.sheet.specs.Named.{row_at}
use Rattle.combine.specs.Sheets.{IsCombined, Pair, Measured, Laid}
use Rattle.combine.proofs.Counting.{kept-both}
use Rattle.combine.proofs.Reading.{half-table}
use Rattle.combine.proofs.Ruling.{beside-pair}
use Rattle.join.specs.declared.Joined.{Joined}
use Rattle.join.specs.Joins.{shared_nodes, shared_edges, union_nodes, union_edges, too_much, union_fault, made_join, Joins, joined}
use Rattle.join.specs.Joinable.{joint_offices, joint_shift, Joinable}
use Rattle.join.proofs.Refusing.{within-limits, union-passes}

abbrev beside : Making
beside x y = x + joint_shift * y

-- ---- such a sheet is the join

pub join_is : (a b j : List ℕ) → Accepted a → Accepted b → joint_shift ≡ 2 ^ offices_of a → joint_offices ≡ offices_of a + offices_of b → IsCombined beside beside joint_offices a b j → IsJoin a b j
unfolding tables_of
join_is a b j va vb shift offices C =
    record {
      accepted = C.accepted;
      offices = C.offices-are ∙ offices;
      first = λ i l. marks-held j a C.accepted va (suc i) (suc i)
          (λ k. joint (suc i) _ _ _ (C.nodes k) ∙ marked-first (offices_of a) _ _ i l)
          (λ k. joint (suc i) _ _ _ (C.edges k) ∙ marked-first (offices_of a) _ _ i l);
      second = λ i l. marks-held j b C.accepted vb (suc (offices_of a + i)) (suc i)
          (λ k. joint (suc (offices_of a + i)) _ _ _ (C.nodes k) ∙ marked-second (offices_of a) _ _ i (marks-bounded _ _ k _ some (nodes-rise a va)))
          (λ k. joint (suc (offices_of a + i)) _ _ _ (C.edges k) ∙ marked-second (offices_of a) _ _ i (marks-bounded _ _ k _ some (edges-rise a va)));
    }
  where
    some : 0 < 2 ^ offices_of a
    some = omega (arith, shift)

    joint : (o m x y : ℕ) → m ≡ x + joint_shift * y → marked m o ≡ marked (x + 2 ^ offices_of a * y) o
    joint o m x y e = ap (λ (z : ℕ). marked z o) (e ∙ ap (λ (z : ℕ). x + z * y) shift)

-- a sheet's rows are within the limits
pub limits : (s : List ℕ) (h : Header) → Joinable s h → (h.nodes ≤ max_nodes) × (h.edges ≤ most_edges)
limits s h J = let f = J.accepted.nodes.header in let l = edges_few _ _ f in let n = ap (λ (x : Header). x.nodes) J.head in let e = ap (λ (x : Header). x.edges) J.head in (omega arith, omega arith)

module _ (a : List ℕ) (h : Header) (A : Joinable a h) (b : List ℕ) (g : Header) (B : Joinable b g) where
  first-formed : WellFormed a (edge_table a) h
  first-formed = subst (λ (x : Header). WellFormed a (edge_table a) x) (sym A.head) A.accepted

  second-formed : WellFormed b (edge_table b) g
  second-formed = subst (λ (x : Header). WellFormed b (edge_table b) x) (sym B.head) B.accepted

  pub pair : Pair (Beside joint_shift) (Beside joint_shift) joint_offices a h b g
  pair = beside-pair a h b g joint_shift joint_offices first-formed second-formed (sym (ap (λ (o : ℕ). 2 ^ o) A.one)) (omega (arith, A.one, B.one)) (omega arith)

  module _ (ma mb : List ℕ) (m : Measure) (M : Measured (Beside joint_shift) (Beside joint_shift) a h b g ma mb m) where
    -- the union's rows and the shared ones are as many as both sheets have
    nodes-count : m.nodes + shared_nodes a b ≡ h.nodes + g.nodes
    unfolding shared_nodes node_row
    nodes-count =
        let z : shared_nodes a b ≡ shared h.nodes (keys (row_at Nodes a)) g.nodes (keys (row_at Nodes b)) = λ i. shared (sym A.head i).nodes (keys (row_at Nodes a)) (sym B.head i).nodes (keys (row_at Nodes b)) in
        omega (arith, M.node-rows.count, kept-both beside h.nodes (row_at Nodes a) (half-table a h first-formed Nodes) g.nodes (row_at Nodes b) (half-table b g second-formed Nodes) (λ x y l. omega arith) (λ y l. omega arith))

    edges-count : m.edges + shared_edges a b ≡ h.edges + g.edges
    unfolding shared_edges
    edges-count =
        let z : shared_edges a b ≡ shared h.edges (keys (row_at Edges a)) g.edges (keys (row_at Edges b)) = λ i. shared (sym A.head i).edges (keys (row_at Edges a)) (sym B.head i).edges (keys (row_at Edges b)) in
        omega (arith, M.edge-rows, kept-both beside h.edges (row_at Edges a) (half-table a h first-formed Edges) g.edges (row_at Edges b) (half-table b g second-formed Edges) (λ x y l. omega arith) (λ y l. omega arith))

    same : (h.nodes ≡ (header_of a).nodes) × (g.nodes ≡ (header_of b).nodes) × (h.edges ≡ (header_of a).edges) × (g.edges ≡ (header_of b).edges)
    same = (ap (λ (x : Header). x.nodes) A.head, ap (λ (x : Header). x.nodes) B.head, ap (λ (x : Header). x.edges) A.head, ap (λ (x : Header). x.edges) B.head)

    pub nodes-union : m.nodes ≡ union_nodes a b
    unfolding union_nodes
    nodes-union = let s = same in omega (arith, nodes-count)

    pub edges-union : m.edges ≡ union_edges a b
    unfolding union_edges
    edges-union = let s = same in omega (arith, edges-count)

    pub few : (m.nodes ≤ h.nodes + g.nodes) × (m.edges ≤ h.edges + g.edges)
    few = (omega (arith, nodes-count), omega (arith, edges-count))

    pub joined-laid : (out out' : List ℕ) → 0 ≡ too_much h.form m.nodes m.edges (length out) → Laid (Beside joint_shift) (Beside joint_shift) joint_offices a h b g m out out'
        → (x : Joined) → x ≡ record { number = 0; sheet = 0; row = 0; words = sheet_words h.form m.nodes m.edges; nodes = m.nodes; edges = m.edges; sharednodes = h.nodes + g.nodes - m.nodes; sharededges = h.edges + g.edges - m.edges }
        → Joins (union_fault a b (length out)) a b out x out'
    joined-laid out out' z L x q =
        let j = L.sheet in
        let long = L.long in
        let jn = L.rows.0 in
        let je = L.rows.1 in
        let s = same in
        let l = within-limits h.form m.nodes m.edges (length out) z in
        let sn : h.nodes + g.nodes - m.nodes ≡ shared_nodes a b = omega (arith, nodes-count) in
        let se : h.edges + g.edges - m.edges ≡ shared_edges a b = omega (arith, edges-count) in
        let told : x ≡ made_join a b j = q ∙ (λ i. record { number = 0; sheet = 0; row = 0; words = sym long i; nodes = sym jn i; edges = sym je i; sharednodes = sn i; sharededges = se i }) in
        let oa : offices_of a ≡ 1 = ap (λ (y : Header). y.offices) (sym A.head) ∙ A.one in
        let ob : offices_of b ≡ 1 = ap (λ (y : Header). y.offices) (sym B.head) ∙ B.one in
        subst (λ (w : List ℕ). Joins (union_fault a b (length out)) a b out x w) (sym L.holds)
        (subst (λ (y : Joined). Joins (union_fault a b (length out)) a b out y (j ++ drop (length j) out)) (sym told)
        (joined j (union-passes a b h.form m.nodes m.edges (length out) z (ap (λ (y : Header). y.form) A.head) nodes-union edges-union)
        (join_is a b j A.accepted B.accepted (sym (ap (λ (o : ℕ). 2 ^ o) oa)) (omega arith) L.is)
        (omega (arith, nodes-count)) (omega (arith, edges-count)) (omega (arith, l.2))))
