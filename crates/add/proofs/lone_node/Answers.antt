-- `add::lone_node` meets its contract: the words one behind the other.
use mathlib.Core.Path.{refl}
use Rattle.sheet.specs.Stored.{header_six, stored}
use Rattle.add.proofs.lone_node.Goals as goal

pub returns : goal.returns
unfolding header_six stored
returns c = refl
