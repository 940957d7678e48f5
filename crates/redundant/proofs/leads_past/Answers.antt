-- `redundant::leads_past` meets its contract: the walk past the row has a number at its to end exactly if it leads there.
use Rattle.redundant.proofs.Pruning.{past-told}
use Rattle.redundant.proofs.leads_past.Goals as goal

pub returns : goal.returns
returns c = past-told _ _ _ c.args.tour.now.walker.walk _ c.args.e _ (rw c.step_of.ensures at c.leaving_out.ensures) c.reach-d.ensures c.requires.1
