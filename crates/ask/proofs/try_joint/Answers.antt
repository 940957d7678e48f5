-- `ask::try_joint` meets its contract: 27, then whom no office knows, and else the rule over the answers of all offices.
use mathlib.Core.Path.{sym, ◌∙◌}
use Rattle.std.proofs.lemmas.Result.{err_from_is_err_and}
use Rattle.question.proofs.Telling.{told-bad, told-fault, told-value}
use Rattle.ask.proofs.Jointly.{fault-rule, fault-known, joint-is}
use Rattle.ask.proofs.try_joint.Goals as goal

pub returns-in_err-sheet : goal.returns-in_err-sheet
returns-in_err-sheet c = let p = err_from_is_err_and c.from_residual.result c.from_residual.ensures.1 in
    rw (p.1, p.2) (told-bad _ _ _ _ c.in_err-sheet.ensures.err)

pub returns-in_err-rule : goal.returns-in_err-rule
returns-in_err-rule c = let p = err_from_is_err_and c.from_residual-in_err-rule.result c.from_residual-in_err-rule.ensures.1 in
    let e = c.in_err-rule.ensures in
    rw p.1 (told-fault _ _ _ _ _ c.in_ok-sheet.ensures.ok (e.0 ∙ fault-rule _ c.args.q e.1) p.2)

pub returns-in_err-places_of : goal.returns-in_err-places_of
returns-in_err-places_of c = let p = err_from_is_err_and c.from_residual-in_err-places_of.result c.from_residual-in_err-places_of.ensures.1 in
    rw p.1 (told-fault _ _ _ _ _ c.in_ok-sheet.ensures.ok (fault-known _ c.args.q _ c.in_ok-rule.ensures.1 (rw (c.in_ok-sheet.ensures.words, c.seat_at.ensures.0) at c.in_err-places_of.ensures.err)) p.2)

pub returns : goal.returns
returns c = let A = c.answers_of-answers.ensures in
    told-value _ _ _ _ _ c.in_ok-sheet.ensures.ok (sym (fault-known _ c.args.q 0 c.in_ok-rule.ensures.1 (sym (rw (c.in_ok-sheet.ensures.words, c.seat_at.ensures.0) at c.in_ok-places_of.ensures.ok.0))))
    (rw c.in_ok-sheet.ensures.words at (joint-is _ _ _ c.in_ok-sheet.sheet.formed c.args.q c.answers_of-answers.result A.0 A.1 c.joint_of.result (rw (sym c.in_ok-rule.ensures.0) at c.joint_of.ensures)))
