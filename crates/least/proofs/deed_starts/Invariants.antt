-- `least::deed_starts` meets its contract. The loop's invariant: the starts are right for the rows passed.
use Rattle.least.specs.Least.{DeedStarts}
use Rattle.least.proofs.deed_starts.Given as goal

abbrev pub invariant-loop-i : goal.invariant-loop-i
invariant-loop-i l = DeedStarts l.sheet.words.now l.i l.d l.number l.starts
