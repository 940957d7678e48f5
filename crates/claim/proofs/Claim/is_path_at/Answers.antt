-- `claim::Claim::is_path_at` meets its contract: each test that fails is one that a path passes, and a list that passes all is a path.
use mathlib.Core.Bool.{not}
use mathlib.Core.Path.{sym, ap, ◌∙◌}
use Rattle.claim.proofs.Listing.{path-long, odd-long, even-long, long-room, not-framed, not_plain, not-assigned, all-passed}
use Rattle.claim.proofs.Claim.is_path_at.Goals as goal

pub returns-then-n : goal.returns-then-n
returns-then-n c = path-long _ _ _ _ _ _ (odd-long _ c.if-n.true)

pub overflow_sub-m : goal.overflow_sub-m
overflow_sub-m c = (long-room _ c.if-n.false).0

pub is_framed-requires : goal.is_framed-requires
is_framed-requires c = even-long _ c.if-n.false

pub returns-then-not-is_framed : goal.returns-then-not-is_framed
returns-then-not-is_framed c = not-framed _ _ _ _ _ _ _ (even-long _ c.if-n.false) (sym c.is_framed.ensures ∙ c.if-not-is_framed.true)

pub has_second-requires : goal.has_second-requires
has_second-requires c = (long-room _ c.if-n.false).1

pub returns-then-has_second : goal.returns-then-has_second
returns-then-has_second c = not_plain _ _ _ _ _ _ _ (even-long _ c.if-n.false) (ap not (sym c.has_second.ensures ∙ c.if-has_second.true))

pub bounds-list-2 : goal.bounds-list-2
bounds-list-2 c = (long-room _ c.if-n.false).2

pub returns-then-not-is_member : goal.returns-then-not-is_member
returns-then-not-is_member c = not-assigned _ _ _ _ _ _ _ (even-long _ c.if-n.false) (sym c.is_member.ensures ∙ c.if-not-is_member.true)

pub is_way-requires : goal.is_way-requires
is_way-requires c = even-long _ c.if-n.false

pub returns : goal.returns
returns c =
    all-passed _ _ _ _ _ _ _ (even-long _ c.if-n.false) _ (sym c.is_framed.ensures ∙ c.if-not-is_framed.false)
    (ap not (sym c.has_second.ensures ∙ c.if-has_second.false)) (sym c.is_member.ensures ∙ c.if-not-is_member.false) c.is_way.ensures
