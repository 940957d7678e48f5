-- `combine::entry_of` meets its contract: a number inside the map has its entry, one past it stays.
use Rattle.combine.specs.Halves.{through}
use Rattle.combine.proofs.Reading.{entry_past}
use Rattle.combine.proofs.entry_of.Goals as goal

pub returns-in-Some : goal.returns-in-Some
unfolding through
returns-in-Some c = c.in-Some.ensures.lookup.3.1 c.args.x

pub returns-in-None : goal.returns-in-None
returns-in-None c = entry_past _ _ c.in-None.ensures.lookup.3
