-- `Draft::check_node` meets its contract: the row by itself, then beside the row before it.
use Rattle.std.proofs.Common.{ℕ, refl, ap, ap₂, ◌∙◌}
use Rattle.std.proofs.lemmas.Result.{err_from_is_err_and}
use Rattle.sheet.specs.declared.Cells.{Cells}
use Rattle.sheet.specs.declared.Node.{Node}
use Rattle.sheet.specs.Rows.{node_at, node_cells, row_key}
use Rattle.sheet.specs.Verdict.{node_fault, row_order, node_fault_at}
use Rattle.sheet.proofs.Faulting.{fault-first}
use Rattle.sheet.proofs.Refusing.{none_is}
use Rattle.verdict.proofs.draft.Draft.check_node.Goals as goal

pub returns-in_err-check_lone_node : goal.returns-in_err-check_lone_node
unfolding node_fault_at
returns-in_err-check_lone_node c =
    let p = err_from_is_err_and c.from_residual.result c.from_residual.ensures.1 in
    rw (p.1, p.2) (fault-first _ _ _ (c.in_err-check_lone_node.ensures ∙ ap (λ (r : Node). node_fault c.args.self.now.header r) c.read_node-r.ensures))

pub returns : goal.returns
unfolding node_fault_at
returns c =
    let s = c.args.self.now in
    none_is 0 _ _ _ (c.in_ok-check_lone_node.ensures ∙ ap (λ (r : Node). node_fault s.header r) c.read_node-r.ensures) refl
    (c.check_order.ensures ∙ ap₂ (λ (x y : Cells). row_order 9 10 c.args.i (row_key x) (row_key y))
    (c.into.ensures ∙ ap (λ (r : Node). node_cells r) (c.read_node-before.ensures ∙ ap (λ (i : ℕ). node_at s.words.now i) c.saturating_sub.ensures))
    (c.into-2.ensures ∙ ap (λ (r : Node). node_cells r) c.read_node-r.ensures))
