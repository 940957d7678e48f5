-- `claim::is_step` meets its contract: a containment is the relation of kind 2, from the one category to the other for a grant and back for a ban.
use Rattle.question.specs.Checked.{seen_at_seat}
use Rattle.claim.proofs.Listing.{relation-named}
use Rattle.claim.proofs.is_step.Goals as goal

pub returns-in-Grants : goal.returns-in-Grants
returns-in-Grants c = rw c.in-Grants.is (relation-named (seen_at_seat c.args.at.now) 2 c.named-a.result c.named-b.result _ _ _ c.named-a.ensures c.named-b.ensures c.is_related.ensures)

pub returns-in-Bans : goal.returns-in-Bans
returns-in-Bans c = rw c.in-Bans.is (relation-named (seen_at_seat c.args.at.now) 2 c.named-b.result c.named-a.result _ _ _ c.named-b.ensures c.named-a.ensures c.is_related-in-Bans.ensures)
