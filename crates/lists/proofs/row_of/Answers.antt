-- `lists::row_of` meets its contract: a row was found exactly if there is one.
use mathlib.Core.Path.{refl}
use Rattle.lists.proofs.Picking.{known-at, unknown-at}
use Rattle.lists.proofs.row_of.Goals as goal

pub returns-in-Ok : goal.returns-in-Ok
returns-in-Ok c = known-at _ _ _ c.args.at.now.sheet.formed _ _ _ _ c.in-Ok.ensures

pub returns-in-Err : goal.returns-in-Err
returns-in-Err c = (unknown-at _ _ _ c.args.at.now.sheet.formed _ _ _ _ c.in-Err.ensures, refl)
