-- `ask::try_answer` meets its contract: each return tells what the statement says of it.
use mathlib.Core.Path.{refl}
use Rattle.std.proofs.lemmas.Result.{err_from_is_err_and}
use Rattle.tables.specs.Office.{View}
use Rattle.meaning.specs.Answers.{AnswerIs}
use Rattle.question.specs.declared.Question.{Question}
use Rattle.question.proofs.Telling.{told-bad, told-fault, told-value}
use Rattle.ask.specs.JointRules.{answer_number}
use Rattle.ask.proofs.Standing.{at-stand}
use Rattle.ask.proofs.try_answer.Goals as goal

pub returns-in_err-sheet : goal.returns-in_err-sheet
returns-in_err-sheet c = let p = err_from_is_err_and c.from_residual.result c.from_residual.ensures.1 in
    rw (p.1, p.2) (told-bad _ _ _ _ c.in_err-sheet.ensures.err)

pub returns-in_err-stand : goal.returns-in_err-stand
returns-in_err-stand c = let p = err_from_is_err_and c.from_residual-in_err-stand.result c.from_residual-in_err-stand.ensures.1 in
    rw p.1 (told-fault _ _ _ _ _ c.in_ok-sheet.ensures.ok (rw c.in_ok-sheet.ensures.words at c.in_err-stand.ensures.err) p.2)

pub returns : goal.returns
returns c = let e = c.in_ok-stand.ensures.ok in
    told-value _ _ _ _ _ c.in_ok-sheet.ensures.ok (rw c.in_ok-sheet.ensures.words at e.3)
    (rw c.into.ensures (rw c.in_ok-sheet.ensures.words at (at-stand (λ (g : View) (q : Question). AnswerIs g q.person q.deed q.folio (answer_number c.answer.result)) c.in_ok-stand.stand c.in_ok-sheet.sheet c.args.q e c.answer.ensures)), refl)
