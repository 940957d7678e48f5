-- What refuses at the duty desk, in its order.
-- Assumes nothing.
use Prim.Native.Nat.{ℕ, zero, suc, ◌<◌, ◌≤◌}
use mathlib.Core.Path.{◌≡◌, refl, sym, ap, ◌∙◌}
use mathlib.Core.List.{List}
use native.Mathlib.Omega.{arith}
use borrow.Author.Tests.{lt-ltb, le-ltb}
use Rattle.sheet.specs.declared.Header.{Header}
use Rattle.sheet.specs.declared.Refusal.{Refusal}
use Rattle.sheet.specs.Refusals.{◌when◌otherwise◌, none, refuse, ◌then◌}
use Rattle.sheet.specs.Rows.{header_of}
use Rattle.sheet.specs.Verdict.{verdict}
use Rattle.sheet.proofs.Refusing.{then-some-is, then-none-is}
use Rattle.question.specs.Asked.{plain}
use Rattle.duty.specs.Desk.{desk_fault, after_desk}

module _ (s : List ℕ) (r : Refusal) (e : r ≡ verdict 1 s) where
  pub desk-bad : (r.number ≡ 0 → ⊥) → r ≡ desk_fault s
  unfolding desk_fault
  desk-bad h = then-some-is r (verdict 1 s) _ e h

  -- .. as `verdict::accept` tells it
  pub desk-told : (r.number ≡ 0 → ⊥) → (r ≡ desk_fault s) × (r.number ≡ 0 → ⊥)
  desk-told h = (desk-bad h, h)

  module _ (z : r.number ≡ 0) (h : Header) (q : h ≡ header_of s) where
    pub desk-lacks : h.offices < 2 → record { number = 3; sheet = 1; row = 0 } ≡ desk_fault s
    unfolding desk_fault ◌when◌otherwise◌ refuse
    desk-lacks l = then-none-is r (verdict 1 s) _ _ e z (rw (lt-ltb (header_of s).offices 2 (omega (arith, ap (λ (x : Header). x.offices) q, l))) refl)

    pub desk-good : 2 ≤ h.offices → none ≡ desk_fault s
    unfolding desk_fault ◌when◌otherwise◌ refuse
    desk-good l = then-none-is r (verdict 1 s) _ _ e z (rw (le-ltb (header_of s).offices 2 (omega (arith, ap (λ (x : Header). x.offices) q, l))) refl)

not_first : (k p i : ℕ) (w : Refusal) → (refuse k p i w).number ≡ 0 → k ≡ 0
unfolding refuse
not_first zero p i w z = refl
not_first (suc k) p i w z = absurd (omega arith)

module _ (s : List ℕ) (r : Refusal) (e : r ≡ desk_fault s) where
  -- who passes the desk has passed the check
  pub desk-checked : r.number ≡ 0 → (verdict 1 s).number ≡ 0
  unfolding desk_fault ◌then◌
  desk-checked z = not_first (verdict 1 s).number _ _ _ (ap (λ (x : Refusal). x.number) (sym e) ∙ z)

  pub desk-refuses : (k : ℕ) → (r.number ≡ 0 → ⊥) → r ≡ after_desk s k
  unfolding after_desk
  desk-refuses k h = then-some-is r (desk_fault s) _ e h

  pub desk-passes : (k : ℕ) → r.number ≡ 0 → plain k ≡ after_desk s k
  unfolding after_desk
  desk-passes k z = then-none-is r (desk_fault s) _ _ e z refl
