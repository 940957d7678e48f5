use Rattle.std.proofs.Common.{arith, refl, sym, ap, ◌∙◌}
use Rattle.sheet.specs.declared.Refusal.{Refusal}
use Rattle.sheet.proofs.Faulting.{fault-some}
use Rattle.sheet.proofs.Refusing.{row-passes, row-refuses, rows_end}
use Rattle.sheet.proofs.Widths.{rows_few}
use Rattle.verdict.proofs.draft.Draft.check_half.Goals as goal

pub overflow_cast-i : goal.overflow_cast-i
overflow_cast-i c = omega (arith, rows_few c.args.half c.args.self.now.header _ c.args.self.now.fits)

pub returns-in-Err : goal.returns-in-Err
returns-in-Err c = record {
  told = c.at.ensures ∙ row-refuses _ _ _ _ _ _ (omega (arith, c.count_in-i-end.ensures)) c.in-Err.ensures (fault-some _) c.loop-i.invariant;
  err = λ z. fault-some _ (sym (ap (λ (r : Refusal). r.number) c.at.ensures) ∙ z);
}

pub loop-i-preserved : goal.loop-i-preserved
loop-i-preserved c = row-passes _ _ _ _ _ 0 (omega (arith, c.count_in-i-end.ensures)) c.in_default.ensures refl c.loop-i.invariant

pub returns-clause-told : goal.returns-clause-told
returns-clause-told c = rows_end _ _ _ _ _ (omega (arith, c.count_in-i-end.ensures)) c.loop-i.invariant
