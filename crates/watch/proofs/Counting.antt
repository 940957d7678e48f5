-- Lists without repetition are counted by what they hold. Assumes nothing.
use Prim.Native.Nat.{ℕ, suc, ◌≤◌}
use mathlib.Core.Path.{◌≡◌, refl, sym, ap, ◌∙◌}
use mathlib.Core.Bool.{true, false, cond, false≢true, or-true}
use mathlib.Core.List.{List, [], ◌∷◌}
use native.Mathlib.Omega.{arith}
use lib.ListN.{length}
use lib.Dec.{eqb}
use borrow.Author.Tests.{ne_eqb, eqb-true}
use Rattle.watch.specs.History.{some, repeats}
use Rattle.watch.proofs.Tests.{by_cases, true-and-false, eqb_same, or-false-left, or-false-right}

unfoldable without_one : ℕ → List ℕ → List ℕ
without_one f [] = []
without_one f (y ∷ ys) = cond (eqb f y) ys (y ∷ without_one f ys)

without-length : (f : ℕ) (ys : List ℕ) → some (eqb f) ys ≡ true → length ys ≡ suc (length (without_one f ys))
unfolding without_one some
without-length f [] e = absurd (false≢true e)
without-length f (y ∷ ys) e = by_cases (eqb f y) (λ x. rw x refl) (λ x. rw x (ap suc (without-length f ys (rw x at e))))

without-keeps : (f g : ℕ) (ys : List ℕ) → (g ≡ f → ⊥) → some (eqb g) ys ≡ true → some (eqb g) (without_one f ys) ≡ true
unfolding without_one some
without-keeps f g [] n e = e
without-keeps f g (y ∷ ys) n e =
    by_cases (eqb f y)
    (λ x. let z : eqb g y ≡ false = ne_eqb _ _ (λ k. n (k ∙ sym (eqb-true _ _ x))) in rw x (rw z at e))
    (λ x. rw x (by_cases (eqb g y) (λ z. rw z refl) (λ z. rw z (without-keeps f g ys n (rw z at e)))))

pub not-longer : (xs ys : List ℕ) → repeats xs ≡ false → ((f : ℕ) → some (eqb f) xs ≡ true → some (eqb f) ys ≡ true) → length xs ≤ length ys
unfolding repeats some
not-longer [] ys d h = omega arith
not-longer (x ∷ xs) ys d h =
    let m : length xs ≤ length (without_one x ys) = not-longer xs (without_one x ys) (or-false-right (some (eqb x) xs) _ d)
    (λ f e. without-keeps x f ys (λ k. true-and-false (some (eqb x) xs) (rw (← k) e) (or-false-left (some (eqb x) xs) _ d)) (h f (rw e (or-true (eqb f x))))) in
    omega (arith, without-length x ys (h x (rw (eqb_same x) refl)))

pub nobody : (xs : List ℕ) → ((f : ℕ) → some (eqb f) xs ≡ false) → length xs ≡ 0
unfolding some
nobody [] h = refl
nobody (x ∷ xs) h = true-and-false (some (eqb x) (x ∷ xs)) (rw (eqb_same x) refl) (h x)
