-- `lists::person_starts` meets its contract. The loop's invariant: the starts are right for the rows passed.
use Rattle.reach.specs.Reaching.{Started}
use Rattle.sheet.specs.Rows.{node_at}
use lib.Dec.{eqb}
use Rattle.lists.proofs.person_starts.Given as goal

abbrev pub invariant-loop-i : goal.invariant-loop-i
invariant-loop-i l = Started (λ j. eqb (node_at l.sheet.words.now j).class 1) l.i l.starts
