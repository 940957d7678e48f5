-- Tests as facts: Booleans by cases, and a test along a list. Assumes nothing.
use Prim.Native.Nat.{ℕ, suc}
use mathlib.Core.Path.{◌≡◌, refl, sym, ap, ◌∙◌}
use mathlib.Core.Bool.{Bool, true, false, ◌||◌, true≢false, or_assoc}
use mathlib.Core.List.{List, [], ◌∷◌, ◌++◌}
use lib.Dec.{eqb}
use lib.ListN.{length}
use borrow.Author.Tests.{lt-ltb, le-ltb, eq-eqb, ne_eqb}
use Rattle.watch.specs.History.{changed, some}

-- a comparison in the code as a test of the definitions
pub ruleset compared = (lt-ltb, le-ltb, eq-eqb, ne_eqb)

pub by_cases : {A : Type 0} (b : Bool) → (b ≡ true → A) → (b ≡ false → A) → A
by_cases true t f = t refl
by_cases false t f = f refl

pub same_test : (a b : Bool) → (a ≡ true → b ≡ true) → (b ≡ true → a ≡ true) → a ≡ b
same_test true b t f = sym (t refl)
same_test false true t f = f refl
same_test false false t f = refl

pub true-and-false : (a : Bool) {A : Type 0} → a ≡ true → a ≡ false → A
true-and-false a t f = absurd (true≢false (sym t ∙ f))

pub not-true-is : (a : Bool) → (a ≡ true → ⊥) → a ≡ false
not-true-is true h = absurd (h refl)
not-true-is false h = refl

pub or-false-left : (a b : Bool) → a || b ≡ false → a ≡ false
or-false-left true b e = absurd (true≢false e)
or-false-left false b e = refl

pub or-false-right : (a b : Bool) → a || b ≡ false → b ≡ false
or-false-right true b e = absurd (true≢false e)
or-false-right false b e = e

module _ {A : Type 0} (t : A → Bool) where
  pub some-append : (xs ys : List A) → some t (xs ++ ys) ≡ some t xs || some t ys
  unfolding some
  some-append [] ys = refl
  some-append (x ∷ xs) ys = rw (some-append xs ys) (sym (or_assoc (t x) (some t xs) (some t ys)))

  pub some-changed : (g : A → A) (xs : List A) → some t (changed g xs) ≡ some (λ x. t (g x)) xs
  unfolding some
  some-changed g [] = refl
  some-changed g (x ∷ xs) = rw (some-changed g xs) refl

  pub none-some : (xs : List A) → ((x : A) → t x ≡ false) → some t xs ≡ false
  unfolding some
  none-some [] h = refl
  none-some (x ∷ xs) h = rw (h x) (none-some xs h)

mono-by : (a b c d : Bool) → (a ≡ true → b ≡ true) → (c ≡ true → d ≡ true) → a || c ≡ true → b || d ≡ true
mono-by true b c d f g e = rw (f refl) refl
mono-by false true c d f g e = refl
mono-by false false c d f g e = g e

module _ {A : Type 0} (s t : A → Bool) where
  pub some_mono : (xs : List A) → ((x : A) → s x ≡ true → t x ≡ true) → some s xs ≡ true → some t xs ≡ true
  unfolding some
  some_mono [] h e = e
  some_mono (x ∷ xs) h e = mono-by (s x) (t x) (some s xs) (some t xs) (h x) (some_mono xs h) e

pub eqb_same : (x : ℕ) → eqb x x ≡ true
eqb_same x = eq-eqb x x refl

pub length-changed : {A : Type 0} (f : A → A) (xs : List A) → length (changed f xs) ≡ length xs
length-changed f [] = refl
length-changed f (x ∷ xs) = ap suc (length-changed f xs)
