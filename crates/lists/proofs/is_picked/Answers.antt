-- `lists::is_picked` meets its contract: the test is the contract's own, with the call's result in its place.
use mathlib.Core.Path.{refl}
use Rattle.lists.proofs.Picking.{wanted-is}
use Rattle.lists.proofs.is_picked.Goals as goal

pub returns : goal.returns
returns c = rw (c.bears-marked.ensures, wanted-is c.args.v c.args.reached) refl
