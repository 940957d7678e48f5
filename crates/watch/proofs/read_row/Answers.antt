-- `watch::read_row` meets its contract: five words are read where the definition has them.
use mathlib.Core.Path.{refl}
use Rattle.watch.specs.Trace.{row_of_words}
use Rattle.watch.proofs.read_row.Goals as goal

pub returns : goal.returns
unfolding row_of_words
returns c = refl
