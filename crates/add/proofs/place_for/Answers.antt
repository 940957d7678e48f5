-- `add::place_for` meets its contract: each refusal is a line of the table.
use mathlib.Core.Path.{refl, sym}
use native.Mathlib.Omega.{arith}
use Rattle.std.proofs.lemmas.Result.{err_from_is_err_and}
use Rattle.question.proofs.Telling.{fault-some}
use Rattle.add.proofs.Showing.{fault-own, fault-there, fault-full, fault-free}
use Rattle.add.proofs.place_for.Goals as goal

pub returns-in_err-check_row-clause-err : goal.returns-in_err-check_row-clause-err
returns-in_err-check_row-clause-err c =
    let p = err_from_is_err_and c.from_residual.result c.from_residual.ensures.1 in
    rw (p.1, p.2) (fault-own c.args.half _ _ c.args.sheet.now.formed.head _ _ c.in_err-check_row.ensures (fault-some _))

pub returns-in-Ok-clause-err : goal.returns-in-Ok-clause-err
returns-in-Ok-clause-err c =
    fault-there c.args.half _ _ c.args.sheet.now.formed.head _ 0 c.in_ok-check_row.ensures refl _ (sym c.in-Ok.ensures.told) c.already_there.ensures

pub returns-in-Err-clause-err : goal.returns-in-Err-clause-err
returns-in-Err-clause-err c =
    fault-full c.args.half _ _ c.args.sheet.now.formed.head _ 0 c.in_ok-check_row.ensures refl (sym c.in-Err.ensures.told) (omega (arith, c.count.ensures, c.most_in.ensures, c.if-most_in-count.true))

pub returns-in-Err-2-clause-ok : goal.returns-in-Err-2-clause-ok
returns-in-Err-2-clause-ok c =
    (sym (fault-free c.args.half _ _ c.args.sheet.now.formed.head _ 0 c.in_ok-check_row.ensures refl (sym c.in-Err.ensures.told) (omega (arith, c.count.ensures, c.most_in.ensures, c.if-most_in-count.false))), c.in-Err.ensures.place)
