-- `Draft::check_shape` meets its contract: each early return is a line of `edge_shape`.
use Rattle.std.proofs.Common.{arith}
use Rattle.std.proofs.lemmas.Grind.{common_steps}
use Rattle.sheet.specs.Refusals.{◌when◌otherwise◌}
use Rattle.sheet.specs.Verdict.{edge_shape}
use Rattle.verdict.proofs.draft.Draft.check_shape.Goals as goal

pub returns-then-not-contains : goal.returns-then-not-contains
unfolding edge_shape ◌when◌otherwise◌
returns-then-not-contains c = grind (arith, common_steps)

pub returns-then-self-e : goal.returns-then-self-e
unfolding edge_shape ◌when◌otherwise◌
returns-then-self-e c = grind (arith, common_steps)

pub returns : goal.returns
unfolding edge_shape ◌when◌otherwise◌
returns c = grind (arith, common_steps)
