-- `claim::is_member` meets its contract: a membership is the relation of kind 1 between the two identities.
use Rattle.question.specs.Checked.{seen_at_seat}
use Rattle.claim.proofs.Listing.{relation-named}
use Rattle.claim.proofs.is_member.Goals as goal

pub returns : goal.returns
returns c = relation-named (seen_at_seat c.args.at.now) 1 c.named-a.result c.named-b.result _ _ _ c.named-a.ensures c.named-b.ensures c.is_related.ensures
