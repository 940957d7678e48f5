-- `lines::by_pattern` meets its contract. The loop's invariant: what is left of the pattern and of the line has the outcome of the whole.
use Rattle.lines.proofs.Fitting.{Middle}
use Rattle.lines.proofs.by_pattern.Given as goal

abbrev pub invariant-loop-mark : goal.invariant-loop-mark
invariant-loop-mark l = Middle l.pattern l.line l.so l.i l.mark-index
