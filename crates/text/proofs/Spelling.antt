-- A number's decimal digits are those of its tens and then the lowest, and a word has ten at most.
-- Assumes nothing.
use Rattle.std.proofs.Common.{ℕ, zero, suc, ◌+◌, ◌/◌, ◌%◌, ◌^◌, ◌<◌, ◌≤◌, ◌≡◌, refl, sym, ap, ◌∙◌, [], ◌∷◌, ◌++◌, length, arith, length-append, List, append_assoc}
use borrow.Author.Tests.{lt-ltb, le-ltb}
use native.Mathlib.Nat.{pow-succ'}
use native.Mathlib.Decide.{dec_lt}
use Rattle.text.specs.Growing.{digits_by, decimal}

lowest-alone : (k n : ℕ) → n < 10 → digits_by k n ≡ (48 + n % 10) ∷ []
unfolding digits_by
lowest-alone zero n h = refl
lowest-alone (suc k) n h = rw (lt-ltb n 10 h)

-- so many divisions are enough
enough : (k j n : ℕ) → n ≤ k → n ≤ j → digits_by k n ≡ digits_by j n
unfolding digits_by
enough zero j n h g = sym (lowest-alone j n (omega arith))
enough (suc k) zero n h g = lowest-alone (suc k) n (omega arith)
enough (suc k) (suc j) n h g = rw (enough k j (n / 10) (omega arith) (omega arith))

-- a number below ten is one digit
pub digit-alone : (n : ℕ) → n < 10 → decimal n ≡ (48 + n) ∷ []
unfolding decimal
digit-alone n h = lowest-alone n n h ∙ (let e : 48 + n % 10 ≡ 48 + n = omega arith in ap (λ (x : ℕ). x ∷ []) e)

-- a greater one is its tens' digits and the lowest
pub digits-then : (n : ℕ) → 10 ≤ n → decimal n ≡ decimal (n / 10) ++ ((48 + n % 10) ∷ [])
unfolding decimal digits_by
digits-then zero h = absurd (omega arith)
digits-then (suc k) h = rw (le-ltb (suc k) 10 h, enough k (suc k / 10) (suc k / 10) (omega arith) (omega arith))

pub tens-shorter : (n : ℕ) → 10 ≤ n → length (decimal (n / 10)) + 1 ≡ length (decimal n)
tens-shorter n h = omega (arith, ap length (digits-then n h), length-append (decimal (n / 10)) ((48 + n % 10) ∷ []))

-- two digits at a time: those of a number below a hundred, and the two lowest of a greater one
pub two-alone : (n : ℕ) → 10 ≤ n → n < 100 → decimal n ≡ (48 + n / 10) ∷ (48 + n % 10) ∷ []
two-alone n h l = digits-then n h ∙ ap (λ (x : List ℕ). x ++ ((48 + n % 10) ∷ [])) (digit-alone (n / 10) (omega arith))

pub two-then : (n : ℕ) → 100 ≤ n → decimal n ≡ decimal (n / 100) ++ ((48 + n / 10 % 10) ∷ (48 + n % 10) ∷ [])
two-then n h =
    let e : n / 10 / 10 ≡ n / 100 = omega arith in
    digits-then n (omega arith)
    ∙ ap (λ (x : List ℕ). x ++ ((48 + n % 10) ∷ [])) (digits-then (n / 10) (omega arith) ∙ ap (λ (x : ℕ). decimal x ++ ((48 + n / 10 % 10) ∷ [])) e)
    ∙ append_assoc (decimal (n / 100)) ((48 + n / 10 % 10) ∷ []) ((48 + n % 10) ∷ [])

pub two-shorter : (n : ℕ) → 100 ≤ n → length (decimal (n / 100)) + 2 ≡ length (decimal n)
two-shorter n h = omega (arith, ap length (two-then n h), length-append (decimal (n / 100)) ((48 + n / 10 % 10) ∷ (48 + n % 10) ∷ []))

-- so many digits at most
few-digits : (k n : ℕ) → n < 10 ^ suc k → length (decimal n) ≤ suc k
few-digits zero n h = let e : length (decimal n) ≡ 1 = ap length (digit-alone n (omega (arith, h))) in omega arith
few-digits (suc k) n h = go (dec_lt n 10) (few-digits k (n / 10) (let p = pow-succ' 10 (suc k) in omega (arith, p, h)))
  where
    go : Dec (n < 10) → length (decimal (n / 10)) ≤ suc k → length (decimal n) ≤ suc (suc k)
    go (yes l) f = let e : length (decimal n) ≡ 1 = ap length (digit-alone n l) in omega arith
    go (no l) f = omega (arith, f, ap length (digits-then n (omega arith)), length-append (decimal (n / 10)) ((48 + n % 10) ∷ []))

pub ten-digits : (n : ℕ) → n < 2 ^ 32 → length (decimal n) ≤ 10
ten-digits n h = few-digits 9 n (omega (arith, h))
