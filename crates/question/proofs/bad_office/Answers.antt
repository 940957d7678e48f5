-- `question::bad_office` meets its contract: the test is the table's line, 20.
use mathlib.Core.Path.{refl, sym}
use Rattle.question.specs.Asked.{bad_office}
use Rattle.sheet.proofs.Refusing.{taken, left}
use Rattle.question.proofs.bad_office.Goals as goal

pub returns-then-office-h : goal.returns-then-office-h
unfolding bad_office
returns-then-office-h c = taken _ _ _ c.if-office-h.true

pub returns : goal.returns
unfolding bad_office
returns c = left _ _ _ _ c.if-office-h.false refl
