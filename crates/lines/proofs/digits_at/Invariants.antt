-- `lines::digits_at` meets its contract. The loop's invariant: what was passed is digits, and the number is what they write, if a word holds it.
use Rattle.lines.proofs.Counting.{DigitsTo}
use Rattle.lines.proofs.digits_at.Given as goal

abbrev pub invariant-loop-end : goal.invariant-loop-end
invariant-loop-end l = DigitsTo l.line l.at l.number l.end
