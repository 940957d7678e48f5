-- `Draft::check_lone_edge` meets its contract: past 11 and 12 the ends are rows, so that they can be read.
use Rattle.std.proofs.Common.{refl, sym, ap₂, ◌∙◌}
use Rattle.std.proofs.lemmas.Result.{err_from_is_err_and}
use Rattle.sheet.specs.declared.Node.{Node}
use Rattle.sheet.specs.Verdict.{edge_fit, edge_fault}
use Rattle.sheet.proofs.Accepting.{shape-good}
use Rattle.sheet.proofs.Faulting.{fault-first}
use Rattle.sheet.proofs.Refusing.{none_is}
use Rattle.verdict.proofs.draft.Draft.check_lone_edge.Goals as goal

pub returns-in_err-check_shape : goal.returns-in_err-check_shape
unfolding edge_fault
returns-in_err-check_shape c =
    let p = err_from_is_err_and c.from_residual.result c.from_residual.ensures.1 in
    rw (p.1, p.2) (fault-first _ _ _ c.in_err-check_shape.ensures)

pub read_node-from-requires : goal.read_node-from-requires
read_node-from-requires c = (shape-good _ _ (sym c.in_ok-check_shape.ensures)).from

pub read_node-to-requires : goal.read_node-to-requires
read_node-to-requires c = (shape-good _ _ (sym c.in_ok-check_shape.ensures)).to

pub returns : goal.returns
unfolding edge_fault
returns c =
    none_is 0 _ _ _ c.in_ok-check_shape.ensures refl
    (c.check_ends.ensures ∙ ap₂ (λ (x y : Node). edge_fit c.args.self.now.header c.args.e x y) c.read_node-from.ensures c.read_node-to.ensures)
