-- `ask::stand::measure` meets its contract: a walk back from one row.
use mathlib.Core.Path.{◌∙◌}
use Rattle.walk.proofs.Starting.{target-layers}
use Rattle.ask.proofs.stand.measure.Goals as goal

pub returns : goal.returns
returns c = let T = c.requires in
    (c.layers.auto.d ∙ T.long, rw c.reversed.ensures at (target-layers _ _ _ _ T c.layers.ensures))
