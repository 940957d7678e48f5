-- `claim::Claim::is_framed` meets its contract: the words around the categories are compared one by one, at places that the length gives.
use mathlib.Core.Path.{refl}
use Rattle.claim.specs.Listed.{framed}
use Rattle.claim.proofs.Claim.is_framed.Goals as goal

pub returns : goal.returns
unfolding framed
returns c = refl
