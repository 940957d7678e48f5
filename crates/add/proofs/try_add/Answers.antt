-- `add::try_add` meets its contract: a sheet that passed the check, what is refused of the row, then the sheet with the row more.
use mathlib.Core.Path.{ap}
use native.Mathlib.Omega.{arith}
use Rattle.std.proofs.lemmas.Result.{err_from_is_err_and}
use Rattle.sheet.proofs.Places.{half-few}
use Rattle.sheet.proofs.Reading.{half-formed}
use Rattle.combine.proofs.Reading.{sheet-formed}
use Rattle.add.proofs.Showing.{adds-bad, adds-fault, adds-short, adds-row}
use Rattle.add.proofs.try_add.Goals as goal

pub returns-in_err-sheet : goal.returns-in_err-sheet
returns-in_err-sheet c =
    let p = err_from_is_err_and c.from_residual.result c.from_residual.ensures.1 in
    rw (p.1, p.2) (adds-bad c.args.half _ _ _ _ c.in_err-sheet.ensures.err)

pub returns-in_err-row : goal.returns-in_err-row
returns-in_err-row c =
    let p = err_from_is_err_and c.from_residual-in_err-row.result c.from_residual-in_err-row.ensures.1 in
    rw p.1 (adds-fault c.args.half _ _ _ c.in_ok-sheet.ensures.ok c.in_ok-sheet.sheet (ap (λ x. x.now) c.in_ok-sheet.ensures.words) _ _ c.in_err-row.ensures.err p.2)

pub returns-in_err-count : goal.returns-in_err-count
returns-in_err-count c =
    let p = err_from_is_err_and c.from_residual-in_err-count.result c.from_residual-in_err-count.ensures.1 in
    rw p.1 (adds-short c.args.half _ _ _ c.in_ok-sheet.ensures.ok c.in_ok-sheet.sheet (ap (λ x. x.now) c.in_ok-sheet.ensures.words) _ c.in_ok-row.ensures.ok _ _ _ p.2 c.in_err-count.ensures)

pub overflow_cast-result : goal.overflow_cast-result
overflow_cast-result c =
    let s = c.in_ok-sheet.sheet in
    omega (arith, c.in_ok-row.ensures.ok.1.inside, half-few c.args.half _ _ (half-formed _ _ (sheet-formed s) c.args.half))

pub returns : goal.returns
returns c =
    adds-row c.args.half _ _ _ c.in_ok-sheet.ensures.ok c.in_ok-sheet.sheet (ap (λ x. x.now) c.in_ok-sheet.ensures.words) _ c.in_ok-row.ensures.ok _ _ c.in_ok-count.ensures
