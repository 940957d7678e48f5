-- `Draft::check_lone_node` meets its contract: each early return is a line of `node_fault`.
use Rattle.std.proofs.Common.{arith}
use Rattle.std.proofs.lemmas.Grind.{common_steps}
use Rattle.sheet.specs.Refusals.{◌when◌otherwise◌}
use Rattle.sheet.specs.Verdict.{node_fault}
use Rattle.verdict.proofs.draft.Draft.check_lone_node.Goals as goal

pub returns-then-not-contains : goal.returns-then-not-contains
unfolding node_fault ◌when◌otherwise◌
returns-then-not-contains c = grind (arith, common_steps)

pub returns-then-r-eq0 : goal.returns-then-r-eq0
unfolding node_fault ◌when◌otherwise◌
returns-then-r-eq0 c = grind (arith, common_steps)

pub returns-then-not-marks_fit : goal.returns-then-not-marks_fit
unfolding node_fault ◌when◌otherwise◌
returns-then-not-marks_fit c = grind (arith, common_steps)

pub returns : goal.returns
unfolding node_fault ◌when◌otherwise◌
returns c = grind (arith, common_steps)
