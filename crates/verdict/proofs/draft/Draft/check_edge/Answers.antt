-- `Draft::check_edge` meets its contract: the row by itself, then beside the row before it.
use Rattle.std.proofs.Common.{ℕ, refl, ap, ap₂, ◌∙◌}
use Rattle.std.proofs.lemmas.Result.{err_from_is_err_and}
use Rattle.sheet.specs.declared.Cells.{Cells}
use Rattle.sheet.specs.declared.Edge.{Edge}
use Rattle.sheet.specs.Rows.{edge_at, edge_cells, row_key}
use Rattle.sheet.specs.Verdict.{edge_fault, row_order, edge_rest, edge_fault_at}
use Rattle.sheet.proofs.Faulting.{fault-first, else-after}
use Rattle.sheet.proofs.Refusing.{none_is}
use Rattle.verdict.proofs.draft.Draft.check_edge.Goals as goal

pub returns-in_err-check_lone_edge : goal.returns-in_err-check_lone_edge
unfolding edge_fault_at edge_rest edge_fault
returns-in_err-check_lone_edge c =
    let s = c.args.self.now in
    let p = err_from_is_err_and c.from_residual.result c.from_residual.ensures.1 in
    rw (p.1, p.2) (fault-first _ _ _ (c.in_err-check_lone_edge.ensures ∙ ap (λ (e : Edge). edge_fault s.words.now s.header e) c.read_edge-e.ensures) ∙ else-after _ _ _)

pub returns : goal.returns
unfolding edge_fault_at edge_rest edge_fault
returns c =
    let s = c.args.self.now in
    none_is 0 _ _ _ (c.in_ok-check_lone_edge.ensures ∙ ap (λ (e : Edge). edge_fault s.words.now s.header e) c.read_edge-e.ensures) refl
    (c.check_order.ensures ∙ ap₂ (λ (x y : Cells). row_order 16 17 c.args.j (row_key x) (row_key y))
    (c.into.ensures ∙ ap (λ (e : Edge). edge_cells e) (c.read_edge-before.ensures ∙ ap (λ (j : ℕ). edge_at s.header s.edges.now j) c.saturating_sub.ensures))
    (c.into-2.ensures ∙ ap (λ (e : Edge). edge_cells e) c.read_edge-e.ensures))
    ∙ else-after _ _ _
