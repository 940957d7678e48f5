-- `listing::read_sorted` meets its contract: 42 of the lines before the first own fault, then that fault, then 43, which is the order of the definition.
use mathlib.Core.Path.{refl}
use native.Mathlib.Omega.{arith}
use Rattle.std.proofs.lemmas.Result.{err_from_is_err_and}
use Rattle.listing.proofs.ReadingDone.{read-good-done}
use Rattle.listing.proofs.Refused.{refuses-text, refused-42, refused-own, refused-43, line-fault-some}
use Rattle.listing.proofs.read_sorted.Goals as goal

pub returns-in-Some : goal.returns-in-Some
returns-in-Some c = let a = c.in-Some.ensures in refuses-text _ _ _ _ (refused-42 _ _ c.requires _ a.1 a.0) (λ z. omega (arith, z)) refl

pub returns-in-Some-fault : goal.returns-in-Some-fault
returns-in-Some-fault c =
    let h = line-fault-some c.in-Some-fault.fault in
    refuses-text _ _ _ _ (refused-own _ _ (rw c.in-Some-fault.is at c.requires) _ c.in_default.ensures (omega arith) h) h refl

pub returns-in-Some-first_lacking : goal.returns-in-Some-first_lacking
returns-in-Some-first_lacking c =
    let a = c.in-Some-first_lacking.ensures in
    refuses-text _ _ _ _ (refused-43 _ _ c.requires _ c.in_default.ensures (omega arith) (rw c.in_default-fault.is refl) _ a.1 a.0) (λ z. omega (arith, z)) refl

pub returns-in_err-read_good : goal.returns-in_err-read_good
returns-in_err-read_good c =
    let p = err_from_is_err_and c.from_residual.result c.from_residual.ensures.1 in
    rw (p.1, p.2) (read-good-done _ _ c.requires (rw c.in_default-fault.is refl) _ c.in_default.ensures (omega arith) _ c.in_default-first_lacking.ensures (omega arith) _ _ c.args.table.now.tabled _ _ _ c.in_err-read_good.ensures)

pub returns : goal.returns
returns c = read-good-done _ _ c.requires (rw c.in_default-fault.is refl) _ c.in_default.ensures (omega arith) _ c.in_default-first_lacking.ensures (omega arith) _ _ c.args.table.now.tabled _ _ _ c.in_ok-read_good.ensures
