-- `duty::desk_sheet` meets its contract: the check, then the count of offices.
use Rattle.duty.proofs.Desking.{desk-told, desk-lacks, desk-good}
use native.Mathlib.Omega.{arith}
use borrow.Author.Rules.{rules}
use mathlib.Core.Path.{refl, sym, ap, ◌∙◌}
use Rattle.duty.proofs.desk_sheet.Goals as goal

pub returns-in_err-sheet-clause-err : goal.returns-in_err-sheet-clause-err
returns-in_err-sheet-clause-err c = search (rules, desk-told _ _ c.in_err-sheet.ensures.err.0 c.in_err-sheet.ensures.err.1)

pub returns-then-sheet-lt2-clause-err : goal.returns-then-sheet-lt2-clause-err
returns-then-sheet-lt2-clause-err c = let k = c.in_ok-sheet.ensures in (c.at.ensures ∙ desk-lacks _ _ (sym k.ok) refl _ (rw k.words at c.in_ok-sheet.sheet.formed.head) c.if-sheet-lt2.true, λ z. let e = c.at.ensures in omega (arith, ap (λ r. r.number) e, z))

pub returns-clause-ok : goal.returns-clause-ok
returns-clause-ok c = let k = c.in_ok-sheet.ensures in sym (desk-good _ _ (sym k.ok) refl _ (rw k.words at c.in_ok-sheet.sheet.formed.head) c.if-sheet-lt2.false)
