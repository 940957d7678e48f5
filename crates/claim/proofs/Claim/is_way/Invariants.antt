-- `claim::Claim::is_way` meets its contract. The loop's invariant: the last n + 1 categories lead on.
use Prim.Native.Nat.{◌+◌, ◌-◌, ◌*◌}
use mathlib.Core.Bool.{true}
use mathlib.Core.Path.{◌≡◌}
use lib.ListN.{get_or}
use Rattle.question.specs.Sides.{side}
use Rattle.question.specs.Checked.{seen_at_seat}
use Rattle.claim.specs.Listed.{way_from}
use Rattle.claim.proofs.Claim.is_way.Given as goal

abbrev pub invariant-loop-n : goal.invariant-loop-n
invariant-loop-n l =
    way_from (seen_at_seat l.self.at) (side l.self.asks) l.self.question.deed (get_or l.self.list.now (5 + 2 * l.m) 0) l.self.question.folio l.self.list.now (2 + 2 * (l.m - l.n)) l.n ≡ true
