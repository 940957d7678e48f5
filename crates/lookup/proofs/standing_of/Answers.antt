-- `lookup::standing_of` meets its contract: the first sheet wholly, then the second, then 32.
use Rattle.std.proofs.Common.{ℕ, List, arith, refl, sym, ap, ◌∙◌}
use Rattle.std.proofs.lemmas.Result.{err_from_is_err_and}
use Rattle.std.specs.Borrow.{Bor}
use Rattle.sheet.specs.declared.Refusal.{Refusal}
use Rattle.lookup.proofs.Looking.{first-refuses, second-refuses, finds-standing, finds-none}
use Rattle.lookup.proofs.standing_of.Goals as goal

pub returns-in_err-one : goal.returns-in_err-one
returns-in_err-one c =
    let p = err_from_is_err_and c.from_residual.result c.from_residual.ensures.1 in
    let e = c.in_err-one.ensures.err in
    rw (p.1, p.2) (first-refuses _ _ _ _ e.0 e.1, e.1)

pub returns-in_err-other : goal.returns-in_err-other
returns-in_err-other c =
    let p = err_from_is_err_and c.from_residual-in_err-other.result c.from_residual-in_err-other.ensures.1 in
    let e = c.in_err-other.ensures.err in
    rw (p.1, p.2) (second-refuses _ _ _ _ _ (sym c.in_ok-one.ensures.ok) refl e.0 e.1, e.1)

pub returns-in-Some : goal.returns-in-Some
returns-in-Some c =
    let v = c.in_ok-one.ensures in
    let w = c.in_ok-other.ensures in
    finds-standing _ _ _ _ _ _ v.ok w.ok (ap (λ (x : Bor (List ℕ)). x.now) v.words) (ap (λ (x : Bor (List ℕ)). x.now) w.words) c.in-Some.ensures

pub returns-in-None : goal.returns-in-None
returns-in-None c =
    let v = c.in_ok-one.ensures in
    let w = c.in_ok-other.ensures in (
      c.into.ensures ∙ finds-none _ _ _ _ _ v.ok w.ok (ap (λ (x : Bor (List ℕ)). x.now) v.words) (ap (λ (x : Bor (List ℕ)). x.now) w.words) c.in-None.ensures,
      λ z. absurd (omega (arith, ap (λ (r : Refusal). r.number) c.into.ensures, z)),
    )
