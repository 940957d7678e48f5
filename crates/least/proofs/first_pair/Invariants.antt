-- `least::first_pair` meets its contract. The loop's invariant: no person's row passed has a folio by both deeds.
use Rattle.least.proofs.Searching.{NoneBelow}
use Rattle.least.proofs.Leasts.{Folios}
use Rattle.least.proofs.first_pair.Given as goal

abbrev pub invariant-loop-i : goal.invariant-loop-i
invariant-loop-i l = NoneBelow (Folios l.at.sheet.words.now l.at.sheet.header l.at.seat l.q.deed l.q.other) l.i
