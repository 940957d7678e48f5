-- Two tests that pass together are one, and how many pass a test that holds in front.
-- Assumes nothing.
use Prim.Native.Nat.{ℕ, zero, suc, ◌+◌, ◌-◌, ◌<◌, ◌≤◌}
use mathlib.Core.Path.{◌≡◌, refl, sym, ap, subst, ◌∙◌}
use mathlib.Core.Bool.{Bool, true, false}
use native.Mathlib.Omega.{arith}
use Rattle.tables.specs.Count.{how_many, number_of}
use Rattle.tables.proofs.Counts.{many-all}

-- two tests that pass together are equal
pub both_ways : (a b : Bool) → (a ≡ true → b ≡ true) → (b ≡ true → a ≡ true) → a ≡ b
both_ways true b p q = sym (p refl)
both_ways false true p q = q refl
both_ways false false p q = refl

-- as many pass as the first run has, where exactly that run does
pub many-first : (p : ℕ → Bool) (n e : ℕ) → ((i : ℕ) → i < n → p i ≡ true) → ((j : ℕ) → j < e → p (n + j) ≡ false) → how_many p (n + e) ≡ n
unfolding how_many
many-first p n zero f g = let z : n + 0 ≡ n = omega arith in ap (how_many p) z ∙ many-all p n f
many-first p n (suc e) f g =
    let z : n + suc e ≡ suc (n + e) = omega arith in
    let q : how_many p (n + e) ≡ n = many-first p n e f (λ j h. g j (omega (arith, h))) in
    ap (how_many p) z ∙ ap (λ (b : Bool). how_many p (n + e) + number_of b) (g e (omega arith)) ∙ omega (arith, q)

-- the same with where the front ends and where all end
pub many-front : (test : ℕ → Bool) (n m : ℕ) → n ≤ m → ((p : ℕ) → p < n → test p ≡ true) → ((p : ℕ) → n ≤ p → p < m → test p ≡ false) → how_many test m ≡ n
many-front test n m h front-passes back =
    let z : n + (m - n) ≡ m = omega arith in
    subst (λ (x : ℕ). how_many test x ≡ n) z (many-first test n (m - n) front-passes (λ j g. back (n + j) (omega arith) (omega arith)))
