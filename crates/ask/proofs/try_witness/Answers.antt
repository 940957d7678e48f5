-- `ask::try_witness` meets its contract: each return tells what the statement says of it.
use Rattle.std.proofs.lemmas.Result.{err_from_is_err_and}
use Rattle.tables.specs.Office.{View}
use Rattle.sheet.specs.Refusals.{none}
use Rattle.meaning.specs.Questions.{WitnessIs}
use Rattle.question.specs.declared.Question.{Question}
use Rattle.question.specs.Asked.{side_of}
use Rattle.question.specs.Replies.{Shows}
use Rattle.question.specs.Telling.{answer_of}
use Rattle.question.proofs.Telling.{shown-bad, shown-fault, shown-stands}
use Rattle.ask.proofs.Standing.{at-stand}
use Rattle.ask.proofs.try_witness.Goals as goal

pub returns-in_err-sheet : goal.returns-in_err-sheet
returns-in_err-sheet c = let p = err_from_is_err_and c.from_residual.result c.from_residual.ensures.1 in
    rw (p.1, p.2) (shown-bad _ _ _ _ _ c.in_err-sheet.ensures.err)

pub returns-in_err-stand : goal.returns-in_err-stand
returns-in_err-stand c = let p = err_from_is_err_and c.from_residual-in_err-stand.result c.from_residual-in_err-stand.ensures.1 in
    rw p.1 (shown-fault _ _ _ _ _ _ c.in_ok-sheet.ensures.ok (rw c.in_ok-sheet.ensures.words at c.in_err-stand.ensures.err) p.2)

pub returns : goal.returns
returns c = let e = c.in_ok-stand.ensures.ok in
    shown-stands _ _ _ _ _ _ c.in_ok-sheet.ensures.ok (rw c.in_ok-sheet.ensures.words at e.3)
    (rw c.in_ok-sheet.ensures.words at (at-stand (λ (g : View) (q : Question). Shows none (WitnessIs g (side_of q.kind) q.person q.deed q.folio) c.args.out.now (answer_of c.show_witness.result) c.show_witness.new.out) c.in_ok-stand.stand c.in_ok-sheet.sheet c.args.q e c.show_witness.ensures))
