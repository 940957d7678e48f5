-- `lists::folios_out_of_reach_at` meets its contract: the folios that the walk from all persons does not number are those out of reach.
use Rattle.std.specs.Prelude.{Some}
use Rattle.lists.proofs.Unreached.{unreached-found}
use Rattle.lists.proofs.folios_out_of_reach_at.Goals as goal

pub returns : goal.returns
returns c = unreached-found _ _ _ _ (record { formed = c.args.at.now.sheet.formed; seated = c.args.at.now.seated }) _ (rw c.walk_of.ensures at c.persons_lead-led.ensures) c.numbers_of.new.list (Some c.numbers_of.result) c.numbers_of.ensures
