-- `listing::write_checked` meets its contract: 28, then the lines.
use native.Mathlib.Omega.{arith}
use Rattle.std.proofs.lemmas.Result.{err_from_is_err_and}
use Rattle.sheet.proofs.Writing.{gives-refused, gives_as}
use Rattle.listing.specs.Printed.{printed}
use Rattle.listing.proofs.Giving.{not-joint, is-joint}
use Rattle.listing.proofs.writing.write_checked.Goals as goal

pub returns-then-sheet-ne1 : goal.returns-then-sheet-ne1
returns-then-sheet-ne1 c =
    rw c.at.ensures
    (gives_as _ _ (printed c.args.sheet.now.words.now) c.args.out.now _ _ _ (is-joint c.args.sheet.now.words.now c.args.sheet.now.header c.args.sheet.now.formed.head c.if-sheet-ne1.true)
    (gives-refused (printed c.args.sheet.now.words.now) c.args.out.now (record { number = 28; sheet = 1; row = 0 }) (λ z. omega (arith, z))))

pub returns-in_err-write_lines : goal.returns-in_err-write_lines
returns-in_err-write_lines c =
    let p = err_from_is_err_and c.from_residual.result c.from_residual.ensures.1 in
    rw (p.1, p.2) (gives_as _ _ (printed c.args.sheet.now.words.now) c.args.out.now _ _ _ (not-joint c.args.sheet.now.words.now c.args.sheet.now.header c.args.sheet.now.formed.head c.if-sheet-ne1.false) c.in_err-write_lines.ensures)

pub returns : goal.returns
returns c = gives_as _ _ (printed c.args.sheet.now.words.now) c.args.out.now _ _ _ (not-joint c.args.sheet.now.words.now c.args.sheet.now.header c.args.sheet.now.formed.head c.if-sheet-ne1.false) c.in_ok-write_lines.ensures
