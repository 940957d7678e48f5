-- `claim::Claim::is_onward` meets its contract: a category that comes back is no way on, and else the step to the next decides.
use mathlib.Core.Bool.{not}
use mathlib.Core.Path.{sym, ap, ◌∙◌}
use Rattle.claim.proofs.Listing.{goes-again, goes-new}
use Rattle.claim.proofs.Claim.is_onward.Goals as goal

pub returns-then-not-has_second : goal.returns-then-not-has_second
returns-then-not-has_second c = goes-new _ _ _ _ _ _ (sym c.has_second.ensures ∙ c.if-not-has_second.true) c.is_step.ensures

pub returns-else-not-has_second : goal.returns-else-not-has_second
returns-else-not-has_second c = ap not c.if-not-has_second.false ∙ goes-again _ _ _ _ _ (sym c.has_second.ensures ∙ c.if-not-has_second.false)
