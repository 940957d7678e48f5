-- `sheet::max_edges` meets its contract: there is one form.
use mathlib.Core.Path.{refl}
use Rattle.sheet.specs.Limits.{max_edges}
use Rattle.sheet.proofs.max_edges.Goals as goal

pub returns : goal.returns
unfolding max_edges
returns c = refl
