use native.Mathlib.Omega.{arith}
use Rattle.ask.proofs.Jointly.{is-determined, is-undetermined}
use Rattle.duty.proofs.Answers.{desk-next, desk-stops, desk-down}
use Rattle.duty.proofs.row_answer.Goals as goal

pub returns-then-ne : goal.returns-then-ne
returns-then-ne c = rw c.into.ensures
    (c.loop-office.invariant _ (desk-stops _ _ _ _ c.loop-office.office (omega arith) (omega arith) _ (rw c.seat_at.ensures.0 at c.office_answer-answer.ensures) (is-determined _ _ c.ne.ensures c.if-ne.true)))

pub loop-office-preserved : goal.loop-office-preserved
loop-office-preserved c = λ r x. c.loop-office.invariant r (desk-next _ _ _ _ c.loop-office.office (omega arith) (omega arith) r _ (rw c.seat_at.ensures.0 at c.office_answer-answer.ensures) (is-undetermined _ _ c.ne.ensures c.if-ne.false) x)

pub returns : goal.returns
returns c = rw c.into-2.ensures (c.loop-office.invariant 0 (desk-down _ _ _ _ c.loop-office.office (omega arith)))
