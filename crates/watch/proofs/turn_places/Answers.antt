use native.Mathlib.Omega.{arith}
use Rattle.watch.proofs.Loops.{mapped_next}
use Rattle.watch.proofs.turn_places.Goals as goal

pub loop-p-preserved : goal.loop-p-preserved
loop-p-preserved c = mapped_next _ c.args.places.now c.loop-p.p-index _ _ _ (omega arith) c.loop-p.invariant c.place_after.ensures
