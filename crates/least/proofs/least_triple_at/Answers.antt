-- `least::least_triple_at` meets its contract: one walk is the grants', and the other the bans'.
use Rattle.least.proofs.least_triple_at.Goals as goal

pub invariant_of-rights : goal.invariant_of-rights
invariant_of-rights c = record { granting = c.tour_of.ensures; banning = c.tour_of-2.ensures }
