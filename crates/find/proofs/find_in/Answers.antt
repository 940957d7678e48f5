-- `find::find_in` meets its contract: what the search tells, after the check.
use Rattle.std.proofs.Common.{ℕ, List, Ok, Err, ap, refl, arith}
use Rattle.std.proofs.lemmas.Result.{err_from_is_err_and}
use Rattle.std.specs.Borrow.{Bor}
use Rattle.sheet.specs.Rows.{row_key}
use Rattle.question.proofs.Telling.{refuses}
use Rattle.find.proofs.Finding.{place-told, row_fits}
use Rattle.find.proofs.find_in.Goals as goal
use Rattle.find.proofs.find_in.Goals.{in-Ok, in-Err}

pub returns-in_err-sheet : goal.returns-in_err-sheet
returns-in_err-sheet c =
    let p = err_from_is_err_and c.from_residual.result c.from_residual.ensures.1 in
    let e = c.in_err-sheet.ensures.err in
    rw (p.1, p.2) (refuses _ _ _ _ e.0 e.1 refl)

pub overflow_cast-result : goal.overflow_cast-result
overflow_cast-result c =
    let w = c.in_ok-sheet.sheet.formed in
    elim c.match-find.branch [
      | in-Ok b ↦ rw b.value-is (omega (arith, row_fits c.args.half c.args.words.now (row_key c.args.wanted) _ _ _ (Ok b.in-Ok.row) w b.in-Ok.ensures))
      | in-Err b ↦ rw b.value-is (omega (arith, row_fits c.args.half c.args.words.now (row_key c.args.wanted) _ _ _ (Err b.in-Err.row) w b.in-Err.ensures))
    ]

pub returns : goal.returns
returns c =
    let o = c.in_ok-sheet.ensures in
    let w = c.in_ok-sheet.sheet.formed in
    let d = ap (λ (x : Bor (List ℕ)). x.now) o.words in
    elim c.match-find.branch [
      | in-Ok b ↦ rw b.value-is (place-told c.args.half _ _ _ _ _ (Ok b.in-Ok.row) o.ok d w b.in-Ok.ensures)
      | in-Err b ↦ rw b.value-is (place-told c.args.half _ _ _ _ _ (Err b.in-Err.row) o.ok d w b.in-Err.ensures)
    ]
