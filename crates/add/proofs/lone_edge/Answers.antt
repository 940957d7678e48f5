-- `add::lone_edge` meets its contract: the words one behind the other.
use mathlib.Core.Path.{refl}
use Rattle.sheet.specs.Stored.{header_six, stored}
use Rattle.add.proofs.lone_edge.Goals as goal

pub returns : goal.returns
unfolding header_six stored
returns c = rw (c.node-a.ensures, c.node-b.ensures) refl
