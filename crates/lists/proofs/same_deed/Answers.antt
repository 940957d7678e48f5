-- `lists::same_deed` meets its contract: the test is the table's line, 31.
use mathlib.Core.Path.{refl}
use borrow.Author.Tests.{eq-eqb, ne_eqb}
use Rattle.sheet.specs.Refusals.{◌when◌otherwise◌}
use Rattle.lists.proofs.same_deed.Goals as goal

pub returns-then-q : goal.returns-then-q
unfolding ◌when◌otherwise◌
returns-then-q c = rw (eq-eqb _ _ c.if-q.true) refl

pub returns : goal.returns
unfolding ◌when◌otherwise◌
returns c = rw (ne_eqb _ _ c.if-q.false) refl
