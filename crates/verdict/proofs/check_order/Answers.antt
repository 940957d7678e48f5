-- `check_order` meets its contract: each return is a line of the table.
use Rattle.std.proofs.Common.{arith}
use Rattle.std.proofs.lemmas.Grind.{common_steps}
use Rattle.sheet.specs.Refusals.{◌when◌otherwise◌}
use Rattle.sheet.specs.Verdict.{row_order}
use Rattle.verdict.proofs.check_order.Goals as goal

pub returns-then-i-eq0 : goal.returns-then-i-eq0
unfolding row_order ◌when◌otherwise◌
returns-then-i-eq0 c = grind (arith, common_steps)

pub returns-in-Equal : goal.returns-in-Equal
unfolding row_order ◌when◌otherwise◌
returns-in-Equal c = grind (arith, common_steps)

pub returns-in-Less : goal.returns-in-Less
unfolding row_order ◌when◌otherwise◌
returns-in-Less c = grind (arith, common_steps)

pub returns-in-Greater : goal.returns-in-Greater
unfolding row_order ◌when◌otherwise◌
returns-in-Greater c = grind (arith, common_steps)
