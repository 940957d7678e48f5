-- `claim::Claim::is_carried` meets its contract: the right and the folio it applies to are two relations between identities that are named.
use Rattle.question.specs.Sides.{side}
use Rattle.question.specs.Checked.{seen_at_seat}
use Rattle.claim.proofs.Listing.{relation-named, carries-by}
use Rattle.claim.proofs.Claim.is_carried.Goals as goal

pub returns : goal.returns
returns c = let o = c.args.self.now in
    let g = seen_at_seat o.at in
    let A = c.named-a in
    let B = c.named-b in
    let T = c.named-t in
    let W = c.edge_kind-right in
    carries-by g (side o.asks) W.result o.question.deed c.args.v o.question.folio c.args.c _ _ W.ensures
    (relation-named g W.result A.result B.result _ _ _ A.ensures B.ensures c.is_related.ensures)
    (relation-named g 5 B.result T.result _ _ _ B.ensures T.ensures c.is_related-2.ensures)
