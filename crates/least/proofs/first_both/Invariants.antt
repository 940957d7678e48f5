-- `least::first_both` meets its contract. The loops' invariants: nothing is Both behind the persons' rows passed, nor behind the deeds' rows passed of this person.
use Rattle.least.proofs.Searching.{NoneBelow}
use Rattle.least.proofs.Leasts.{Deeds, Persons}
use Rattle.least.proofs.first_both.Given as goal

abbrev pub invariant-loop-i : goal.invariant-loop-i
invariant-loop-i l = NoneBelow (Persons l.rights.at.sheet.words.now l.rights.at.sheet.edges.now l.rights.at.sheet.header l.rights.at.seat) l.i

abbrev pub invariant-loop-x : goal.invariant-loop-x
invariant-loop-x l = NoneBelow (Deeds l.rights.at.sheet.words.now l.rights.at.sheet.edges.now l.rights.at.sheet.header l.rights.at.seat l.i) l.x
