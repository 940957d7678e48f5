-- `question::Asks::from` meets its contract: kind 0 is a grant, any other a ban.
use mathlib.Core.Path.{sym}
use Rattle.question.proofs.Known.{side-grant, side-ban}
use Rattle.question.proofs.asks.AsksFromU32.from.Goals as goal

pub returns-then-kind-eq-OF_GRANTS : goal.returns-then-kind-eq-OF_GRANTS
returns-then-kind-eq-OF_GRANTS c = sym (side-grant _ c.if-kind-eq-OF_GRANTS.true)

pub returns-else-kind-eq-OF_GRANTS : goal.returns-else-kind-eq-OF_GRANTS
returns-else-kind-eq-OF_GRANTS c = sym (side-ban _ c.if-kind-eq-OF_GRANTS.false)
