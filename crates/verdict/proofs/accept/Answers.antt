-- `accept` meets its contract: each return is a step of the check, and words that pass them all are an accepted sheet.
use Rattle.std.proofs.Common.{sym, ap, ◌∙◌}
use Rattle.std.proofs.lemmas.Result.{err_from_is_err_and}
use Rattle.std.specs.Borrow.{Bor}
use Prim.Native.Nat.{ℕ}
use mathlib.Core.List.{List}
use Rattle.sheet.specs.declared.Refusal.{Refusal}
use Rattle.sheet.specs.Refusals.{none}
use Rattle.sheet.specs.Verdict.{verdict}
use Rattle.sheet.proofs.Faulting.{fault-some, fault-refuses}
use Rattle.verdict.proofs.Passing.{nodes-refuse, edges-tell, formed-by}
use Rattle.verdict.proofs.accept.Goals as goal

pub returns-in-Err-clause-err : goal.returns-in-Err-clause-err
unfolding verdict
returns-in-Err-clause-err c =
    (c.at.ensures ∙ fault-refuses _ _ _ _ _ c.in-Err.ensures.told, λ z. fault-some _ (sym (ap (λ (r : Refusal). r.number) c.at.ensures) ∙ z))

pub returns-in_err-check_half-clause-err : goal.returns-in_err-check_half-clause-err
returns-in_err-check_half-clause-err c =
    let p = err_from_is_err_and c.from_residual.result c.from_residual.ensures.1 in
    let (w, t, h) = c.in-Ok.ensures.ok in
    let e = c.in_err-check_half.ensures in
    rw (p.1, p.2) (nodes-refuse _ _ _ _ _ (ap (λ (x : Bor (List ℕ)). x.now) w) t h c.in-Ok.ensures.told _ e.told e.err, e.err)

pub returns-in_err-check_half-2-clause-err : goal.returns-in_err-check_half-2-clause-err
returns-in_err-check_half-2-clause-err c =
    let p = err_from_is_err_and c.from_residual-in_err-check_half-2.result c.from_residual-in_err-check_half-2.ensures.1 in
    let (w, t, h) = c.in-Ok.ensures.ok in
    let e = c.in_err-check_half-2.ensures in
    rw (p.1, p.2) (edges-tell _ _ _ _ _ (ap (λ (x : Bor (List ℕ)). x.now) w) t h c.in-Ok.ensures.told _ c.in_ok-check_half.ensures.told e.told, e.err)

pub invariant_of-result : goal.invariant_of-result
invariant_of-result c =
    let (w, t, h) = c.in-Ok.ensures.ok in
    record { formed = formed-by _ _ _ _ _ (ap (λ (x : Bor (List ℕ)). x.now) w) t h c.in-Ok.ensures.told c.in_ok-check_half.ensures.told c.in_ok-check_half-2.ensures.told }

pub returns-clause-ok : goal.returns-clause-ok
returns-clause-ok c =
    let (w, t, h) = c.in-Ok.ensures.ok in
    sym (edges-tell _ _ _ _ _ (ap (λ (x : Bor (List ℕ)). x.now) w) t h c.in-Ok.ensures.told none c.in_ok-check_half.ensures.told c.in_ok-check_half-2.ensures.told)
