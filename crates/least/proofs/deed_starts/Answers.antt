use Rattle.walk.proofs.Starting.{blank-all}
use Rattle.reach.proofs.Marking.{starts_none}
use Rattle.least.proofs.deed_starts.Goals as goal

pub loop-i-init : goal.loop-i-init
loop-i-init c = starts_none _ _ (blank-all _)
