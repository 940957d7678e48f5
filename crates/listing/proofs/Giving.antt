-- A reply of a listing: refused, or counted; any two are equal, and what refuses the writer.
-- Assumes nothing.
use Prim.Native.Nat.{ℕ, ◌+◌, ◌≤◌}
use mathlib.Core.Path.{◌≡◌, sym, ap, ◌∙◌}
use mathlib.Core.List.{List, ◌++◌}
use native.Mathlib.Omega.{arith}
use lib.ListN.{length, drop}
use lib.Seq.{sets-eq}
use Rattle.sheet.specs.declared.Header.{Header}
use Rattle.sheet.specs.declared.Refusal.{Refusal}
use Rattle.sheet.specs.Refusals.{◌when◌otherwise◌, none, refuse, ◌then◌}
use Rattle.sheet.specs.Rows.{header_of}
use Rattle.sheet.specs.Verdict.{verdict}
use Rattle.sheet.proofs.Refusing.{refuse-none, then-some-is, not-eqb-true, not-eqb-false}
use Rattle.sheet.proofs.Writing.{gives_one}
use Rattle.listing.specs.declared.Listing.{Listing}
use Rattle.listing.specs.Printed.{joint_sheet, print_fault, PutsIfRoom}
use Rattle.listing.specs.Promises.{refusal_in, GivesListing}

-- a reply that refuses
abbrev pub reply_refused : Refusal → Listing
reply_refused v = record { number = v.number; sheet = v.sheet; row = v.row; count = 0 }

-- what was put from the start on stands in front
pub put_front : (result out out' : List ℕ) (r : ℕ) → length result ≤ length out → PutsIfRoom out 0 result r out' → out' ≡ result ++ drop (length result) out
put_front result out out' r h x =
    let front : 0 + length result ≡ length result = omega arith in
    x.holds (omega (arith, h, x.ends)) ∙ sets-eq result out 0 (omega (arith, h)) ∙ ap (λ (n : ℕ). result ++ drop n out) front

-- any two replies that the form allows are equal, and so is what they leave
pub listing-one : (v : Refusal) (result out : List ℕ) (a b : Listing) (o o' : List ℕ) → GivesListing v result out a o → GivesListing v result out b o' → (a ≡ b) × (o ≡ o')
listing-one v result out a b o o' x y =
    let w = gives_one result out v (refusal_in a) (refusal_in b) a.count b.count o o' x y in
    (λ i. record { number = (w.0 i).number; sheet = (w.0 i).sheet; row = (w.0 i).row; count = w.1 i }, w.2)

-- ---- what refuses the writer

module _ (s : List ℕ) (h : Header) (e : h ≡ header_of s) where
  pub not-joint : h.offices ≡ 1 → none ≡ refuse (joint_sheet (header_of s)) 1 0 none
  unfolding joint_sheet refuse ◌when◌otherwise◌
  not-joint z = rw (not-eqb-false (header_of s).offices 1 (sym (ap (λ (x : Header). x.offices) e) ∙ z))

  pub is-joint : (h.offices ≡ 1 → ⊥) → record { number = 28; sheet = 1; row = 0 } ≡ refuse (joint_sheet (header_of s)) 1 0 none
  unfolding joint_sheet refuse ◌when◌otherwise◌
  is-joint z = rw (not-eqb-true (header_of s).offices 1 (λ q. z (ap (λ (x : Header). x.offices) e ∙ q)))

module _ (s : List ℕ) (v : Refusal) (e : v ≡ verdict 1 s) where
  -- the sheet's own
  pub sheet-refuses : (v.number ≡ 0 → ⊥) → v ≡ print_fault s
  unfolding print_fault
  sheet-refuses h = then-some-is v (verdict 1 s) _ e h

  pub sheet-passes : v.number ≡ 0 → refuse (joint_sheet (header_of s)) 1 0 none ≡ print_fault s
  unfolding print_fault ◌then◌
  sheet-passes z = sym (refuse-none (verdict 1 s).number (verdict 1 s).sheet (verdict 1 s).row _ (sym (ap (λ (x : Refusal). x.number) e) ∙ z))
