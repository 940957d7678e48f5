-- `claim::try_is_path` meets its contract: each return tells what the statement says of it.
use mathlib.Core.Path.{refl}
use Rattle.std.proofs.lemmas.Result.{err_from_is_err_and}
use Rattle.question.proofs.Telling.{told-bad, told-fault, told-value}
use Rattle.claim.proofs.Listing.{told-so}
use Rattle.claim.proofs.try_is_path.Goals as goal

pub returns-in_err-sheet : goal.returns-in_err-sheet
returns-in_err-sheet c = let p = err_from_is_err_and c.from_residual.result c.from_residual.ensures.1 in
    rw (p.1, p.2) (told-bad _ _ _ _ c.in_err-sheet.ensures.err)

pub returns-in_err-at : goal.returns-in_err-at
returns-in_err-at c = let p = err_from_is_err_and c.from_residual-in_err-at.result c.from_residual-in_err-at.ensures.1 in
    rw p.1 (told-fault _ _ _ _ _ c.in_ok-sheet.ensures.ok (rw (c.in_ok-sheet.sheet.formed.head, c.in_ok-sheet.ensures.words) at c.in_err-at.ensures.err) p.2)

pub returns : goal.returns
returns c = let e = c.in_ok-at.ensures.ok in
    told-value _ _ _ _ _ c.in_ok-sheet.ensures.ok (rw (c.in_ok-sheet.sheet.formed.head, c.in_ok-sheet.ensures.words) at e.2)
    (rw c.in_ok-sheet.ensures.words at (told-so c.in_ok-at.at c.in_ok-sheet.sheet c.args.question c.args.list.now c.from.result _ _ e c.from.ensures c.is_path_at.ensures c.into-value.ensures), refl)
