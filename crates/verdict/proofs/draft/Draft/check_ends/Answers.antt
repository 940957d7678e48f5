-- `Draft::check_ends` meets its contract: each early return is a line of `edge_fit`.
use Rattle.std.proofs.Common.{arith}
use Rattle.std.proofs.lemmas.Grind.{common_steps}
use Rattle.sheet.specs.Refusals.{◌when◌otherwise◌}
use Rattle.sheet.specs.Verdict.{edge_fit}
use Rattle.verdict.proofs.draft.Draft.check_ends.Goals as goal

pub returns-then-not-ends_fit : goal.returns-then-not-ends_fit
unfolding edge_fit ◌when◌otherwise◌
returns-then-not-ends_fit c = grind (arith, common_steps)

pub returns-then-e : goal.returns-then-e
unfolding edge_fit ◌when◌otherwise◌
returns-then-e c = grind (arith, common_steps)

pub returns-then-not-offices_fit : goal.returns-then-not-offices_fit
unfolding edge_fit ◌when◌otherwise◌
returns-then-not-offices_fit c = grind (arith, common_steps)

pub returns : goal.returns
unfolding edge_fit ◌when◌otherwise◌
returns c = grind (arith, common_steps)
