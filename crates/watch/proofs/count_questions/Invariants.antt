-- `watch::count_questions` meets its contract. The loop's invariant: the table stands for the rows before the rest, and `count` is how many of them ask (`Running`).
use Rattle.watch.proofs.Tracing.{Behind}
use lib.ListN.{length}
use Rattle.watch.proofs.count_questions.Given as goal

abbrev pub invariant-loop-row : goal.invariant-loop-row
invariant-loop-row l = Behind l.timeout l.fn.rows l.watch l.rest l.count

abbrev pub decreases-loop-row : goal.decreases-loop-row
decreases-loop-row l = length l.rest
