-- `Halves::step` meets its contract: each case of the comparison is a case of the step.
use native.Mathlib.Omega.{arith}
use Rattle.sheet.proofs.Refusing.{via}
use Rattle.combine.proofs.Reading.{first-next, second-next, both-next}
use Rattle.combine.proofs.halves.Halves.step.Goals as goal

pub returns-then-count-i : goal.returns-then-count-i
returns-then-count-i c = second-next _ _ _ (omega arith) (λ h. absurd (omega (arith, h)))

pub returns-then-count-j-2 : goal.returns-then-count-j-2
returns-then-count-j-2 c = first-next _ _ _ (omega arith) (λ h. absurd (omega (arith, h)))

pub returns-then-is_below : goal.returns-then-is_below
returns-then-is_below c = first-next _ _ _ (omega arith) (λ h. via c.is_below.ensures c.if-is_below.true)

pub returns-then-is_below-2 : goal.returns-then-is_below-2
returns-then-is_below-2 c = second-next _ _ _ (omega arith) (λ h. via c.is_below-2.ensures c.if-is_below-2.true)

pub returns : goal.returns
returns c = both-next _ _ _ (omega arith) (omega arith) (via c.is_below.ensures c.if-is_below.false) (via c.is_below-2.ensures c.if-is_below-2.false)
