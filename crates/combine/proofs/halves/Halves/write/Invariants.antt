-- The loop's invariant: the rows passed are combined, and the words of those that stay stand in front.
use mathlib.Core.Path.{◌≡◌}
use lib.ListN.{length}
use Rattle.combine.proofs.Stepping.{WritingIn}
use Rattle.combine.proofs.halves.Halves.write.Given as goal

abbrev pub invariant-loop-step : goal.invariant-loop-step
invariant-loop-step l =
    (goal.iterator-loop-step).can_next l.step-iterator
    × (goal.iterator-loop-step).is_finite l.step-iterator
    × (l.step-iterator.halves.now ≡ l.self)
    × WritingIn l.self l.firstplaces l.secondplaces l.step-iterator.i l.step-iterator.j l.k l.initial.out l.out
    × (length l.out ≡ length l.initial.out)
