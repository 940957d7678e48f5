-- The loop's invariant: the rows passed are combined, and their places noted.
use mathlib.Core.Path.{◌≡◌}
use lib.ListN.{length}
use Rattle.combine.proofs.Stepping.{SurveyingIn}
use Rattle.combine.proofs.halves.Halves.survey.Given as goal

abbrev pub invariant-loop-step : goal.invariant-loop-step
invariant-loop-step l =
    (goal.iterator-loop-step).can_next l.step-iterator
    × (goal.iterator-loop-step).is_finite l.step-iterator
    × (l.step-iterator.halves.now ≡ l.self)
    × SurveyingIn l.self l.step-iterator.i l.step-iterator.j l.kept l.firstplaces l.secondplaces
    × (length l.firstplaces ≡ length l.initial.firstplaces)
    × (length l.secondplaces ≡ length l.initial.secondplaces)
