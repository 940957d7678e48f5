-- `lists::persons_to` meets its contract: the rows picked by the numbers are those from which the walk leads.
use Rattle.std.specs.Prelude.{Some}
use Rattle.lists.proofs.Persons.{led-found}
use Rattle.lists.proofs.persons_to.Goals as goal

pub returns : goal.returns
returns c = led-found _ _ _ _ _ _ (rw c.walk_of.ensures at c.note_reaching.ensures) _ c.numbers_of.new.list (Some c.numbers_of.result) c.numbers_of.ensures
