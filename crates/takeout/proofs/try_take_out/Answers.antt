-- `takeout::try_take_out` meets its contract: a sheet that passed the check, the office's number, then the sheet.
use mathlib.Core.Path.{ap}
use Rattle.std.proofs.lemmas.Result.{err_from_is_err_and}
use Rattle.question.proofs.Telling.{shown-bad}
use Rattle.takeout.proofs.Running.{puts-shown, puts-short, takes-fault, takes-on}
use Rattle.takeout.proofs.try_take_out.Goals as goal

pub returns-in_err-sheet : goal.returns-in_err-sheet
returns-in_err-sheet c =
    let p = err_from_is_err_and c.from_residual.result c.from_residual.ensures.1 in
    rw (p.1, p.2) (shown-bad _ _ _ _ _ c.in_err-sheet.ensures.err)

pub returns-in_err-at : goal.returns-in_err-at
returns-in_err-at c =
    let p = err_from_is_err_and c.from_residual-in_err-at.result c.from_residual-in_err-at.ensures.1 in
    rw p.1 (takes-fault _ _ _ c.in_ok-sheet.ensures.ok c.in_ok-sheet.sheet (ap (λ x. x.now) c.in_ok-sheet.ensures.words) _ _ c.in_err-at.ensures.err p.2)

pub returns-in_err-count : goal.returns-in_err-count
returns-in_err-count c =
    let p = err_from_is_err_and c.from_residual-in_err-count.result c.from_residual-in_err-count.ensures.1 in
    rw p.1 (takes-on _ _ _ c.in_ok-sheet.ensures.ok c.in_ok-sheet.sheet (ap (λ x. x.now) c.in_ok-sheet.ensures.words) c.in_ok-at.at c.in_ok-at.ensures.ok _ _ (puts-short _ _ _ _ _ p.2 c.in_err-count.ensures))

pub returns : goal.returns
returns c =
    takes-on _ _ _ c.in_ok-sheet.ensures.ok c.in_ok-sheet.sheet (ap (λ x. x.now) c.in_ok-sheet.ensures.words) c.in_ok-at.at c.in_ok-at.ensures.ok _ _ (puts-shown _ _ _ _ c.in_ok-count.ensures)
