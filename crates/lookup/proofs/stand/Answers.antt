-- `lookup::stand` meets its contract: the row that the search found in the first sheet, or else in the second.
use Rattle.lookup.proofs.Looking.{looked-stands, looked-missing}
use Rattle.lookup.proofs.stand.Goals as goal

pub returns-in-Ok : goal.returns-in-Ok
returns-in-Ok c = looked-stands _ _ _ c.args.one.now.formed _ _ c.in-Ok.ensures

pub returns-in-Ok-find : goal.returns-in-Ok-find
returns-in-Ok-find c =
    let (l, n) = looked-stands _ _ _ c.args.other.now.formed _ _ c.in-Ok-find.ensures in
    (looked-missing _ _ _ c.args.one.now.formed _ _ c.in_default.ensures, l, n)

pub returns-in-Err : goal.returns-in-Err
returns-in-Err c = (looked-missing _ _ _ c.args.one.now.formed _ _ c.in_default.ensures, looked-missing _ _ _ c.args.other.now.formed _ _ c.in-Err.ensures)
