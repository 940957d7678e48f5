-- `listing::own_fault` meets its contract: the definition's arms in their order.
use mathlib.Core.Path.{sym, ◌∙◌}
use Rattle.listing.proofs.Refused.{own-of-fault, own-within, own-none}
use Rattle.listing.proofs.own_fault.Goals as goal

pub returns-in-Err : goal.returns-in-Err
returns-in-Err c = rw c.in-Err.is (own-of-fault _)

pub returns-then-is_within_itself : goal.returns-then-is_within_itself
returns-then-is_within_itself c = rw c.in-Ok.is (own-within _ (rw c.in-Ok.is at c.requires) (sym c.is_within_itself.ensures ∙ c.if-is_within_itself.true))

pub returns-else-is_within_itself : goal.returns-else-is_within_itself
returns-else-is_within_itself c = rw c.in-Ok.is (own-none _ (rw c.in-Ok.is at c.requires) (sym c.is_within_itself.ensures ∙ c.if-is_within_itself.false))
