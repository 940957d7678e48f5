use native.Mathlib.Omega.{arith}
use mathlib.Core.Path.{refl, sym, ◌∙◌}
use borrow.Author.Tests.{eq-eqb, ne_eqb, eqb-true, eqb-false}
use Rattle.std.proofs.lemmas.Result.{err_from_is_err_and}
use Rattle.watch.specs.Trace.{asks}
use Rattle.watch.proofs.Tracing.{behind-start, behind-end, behind-cut, behind-refused, behind-next}
use Rattle.watch.proofs.count_questions.Goals as goal

pub loop-row-init : goal.loop-row-init
loop-row-init c = behind-start _ _ _ c.empty_watch-watch.ensures

pub returns-in_err-advance : goal.returns-in_err-advance
returns-in_err-advance c =
    let p = err_from_is_err_and c.from_residual.result c.from_residual.ensures.1 in
    rw (p.1, p.2)
    (behind-refused _ _ _ _ _ c.loop-row.invariant _ c.in-Some.row.now (omega (arith, c.in-Some.ensures.cases.2)) c.in-Some.ensures.cases.0 (rw c.read_row.ensures at c.in_err-advance.ensures) (λ e. grind arith))

pub loop-row-preserved-then-branch-ne0 : goal.loop-row-preserved-then-branch-ne0
unfolding asks
loop-row-preserved-then-branch-ne0 c =
    behind-next _ _ _ _ _ c.loop-row.invariant _ c.in-Some.row.now (omega (arith, c.in-Some.ensures.cases.2)) c.in-Some.ensures.cases.0 (rw c.read_row.ensures at c.in_ok-advance.ensures) c.in-Some.later.now _ c.in-Some.ensures.cases.1 refl (rw (ne_eqb _ _ c.if-branch-ne0.true) refl)

pub loop-row-preserved : goal.loop-row-preserved
unfolding asks
loop-row-preserved c =
    behind-next _ _ _ _ _ c.loop-row.invariant _ c.in-Some.row.now (omega (arith, c.in-Some.ensures.cases.2)) c.in-Some.ensures.cases.0 (rw c.read_row.ensures at c.in_ok-advance.ensures) c.in-Some.later.now _ c.in-Some.ensures.cases.1 refl (rw (eq-eqb _ _ c.if-branch-ne0.false) (omega arith))

pub returns-then-is_empty : goal.returns-then-is_empty
returns-then-is_empty c = behind-end _ _ _ _ _ c.loop-row.invariant (eqb-true _ _ (sym c.is_empty.ensures ∙ c.if-is_empty.true))

pub returns-else-is_empty : goal.returns-else-is_empty
returns-else-is_empty c = behind-cut _ _ _ _ _ c.loop-row.invariant (omega (arith, eqb-false _ _ (sym c.is_empty.ensures ∙ c.if-is_empty.false))) (omega (arith, c.in_default.ensures.cases))
