-- `reach::person_reach` meets its contract: the numbers of a walk tell which rows it leads to.
use Rattle.reach.proofs.Marking.{reached-from}
use Rattle.reach.proofs.person_reach.Goals as goal

pub returns : goal.returns
returns c = reached-from _ _ _ _ _ _ c.reach.ensures.0 c.reach.ensures.1
