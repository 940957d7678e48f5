-- `listing::try_write` meets its contract: what refuses the sheet, then a sheet that passed the check.
use mathlib.Core.Path.{sym, refl}
use Rattle.sheet.specs.Refusals.{none}
use Rattle.sheet.proofs.Writing.{gives-refused, gives_as}
use Rattle.listing.specs.Printed.{printed}
use Rattle.listing.proofs.Giving.{sheet-refuses, sheet-passes}
use Rattle.listing.proofs.writing.try_write.Goals as goal

pub returns-in-Err : goal.returns-in-Err
returns-in-Err c =
    let e = rw c.in-Err.is at c.accept.ensures.err in
    gives_as _ _ (printed c.args.words.now) c.args.out.now _ _ _ (sheet-refuses c.args.words.now _ e.0 e.1) (gives-refused (printed c.args.words.now) c.args.out.now _ e.1)

pub returns-in-Ok : goal.returns-in-Ok
returns-in-Ok c =
    let own = rw c.in-Ok.is at c.accept.ensures.words in
    gives_as _ _ (printed c.args.words.now) c.args.out.now _ _ _ (sheet-passes c.args.words.now none (sym (rw c.in-Ok.is at c.accept.ensures.ok)) refl) (rw own at c.write_checked.ensures)
