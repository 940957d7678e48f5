-- `claim::is_related` meets its contract: a relation is seen exactly if the edge row between the rows of its ends stands and counts.
use Rattle.claim.proofs.Listing.{edge-there, not-from, not-to, not-edge, edge-counts}
use Rattle.claim.proofs.is_related.Goals as goal

pub returns-in_default : goal.returns-in_default
returns-in_default c = not-from c.args.at.now _ c.args.a c.args.b _ c.in_default.ensures

pub returns-in_default-find : goal.returns-in_default-find
returns-in_default-find c = not-to c.args.at.now _ c.args.a c.args.b _ c.in_default-find.ensures

pub returns-in_default-find-2 : goal.returns-in_default-find-2
returns-in_default-find-2 c = not-edge c.args.at.now _ c.args.a c.args.b _ _ c.in-Ok.ensures c.in-Ok-find.ensures _ c.named-wanted.ensures _ c.in_default-find-2.ensures

pub edge-requires : goal.edge-requires
edge-requires c = (edge-there c.args.at.now _ _ c.in-Ok-find-2.ensures).0

pub returns : goal.returns
returns c = edge-counts c.args.at.now _ c.args.a c.args.b _ _ c.in-Ok.ensures c.in-Ok-find.ensures _ c.named-wanted.ensures _ c.in-Ok-find-2.ensures _ _ c.edge.ensures c.counts.ensures
