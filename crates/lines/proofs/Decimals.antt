-- A number in decimal, read back: its bytes are digits, the first no zero unless it stands alone, and they write the number.
-- Assumes nothing.
use Prim.Native.Nat.{ℕ, zero, suc, ◌+◌, ◌-◌, ◌*◌, ◌/◌, ◌%◌, ◌<◌, ◌≤◌}
use mathlib.Core.Path.{◌≡◌, refl, sym, ap, ◌∙◌}
use mathlib.Core.Bool.{Bool, true, false, not, cond, ◌&&◌, ◌||◌}
use mathlib.Core.List.{List, [], ◌∷◌, ◌++◌}
use native.Mathlib.Omega.{arith}
use native.Mathlib.Decide.{dec_lt}
use lib.Dec.{ltb, eqb}
use lib.ListN.{length, get_or, length-append, get_or-append}
use borrow.Author.Tests.{lt-ltb, le-ltb, eqb-true, not-true}
use Rattle.text.specs.Growing.{digits_by, decimal}
use Rattle.lines.specs.Numerals.{is_digit, digits_of, behind_digits, value_from, value_of, too_high, bad_number}

-- each byte passes
abbrev pub EveryByte : (ℕ → Bool) → List ℕ → Type 0
EveryByte test [] = Unit {0}
EveryByte test (b ∷ t) = (test b ≡ true) × EveryByte test t

pub each_append : (test : ℕ → Bool) (a b : List ℕ) → EveryByte test a → EveryByte test b → EveryByte test (a ++ b)
each_append test [] b x y = y
each_append test (c ∷ a) b x y = (x.0, each_append test a b x.1 y)

-- ---- the digits

module _ (k n : ℕ) where
  last-only : n < 10 → digits_by (suc k) n ≡ (48 + n % 10) ∷ []
  unfolding digits_by
  last-only h = rw (lt-ltb n 10 h)

  and-more : 10 ≤ n → digits_by (suc k) n ≡ digits_by k (n / 10) ++ ((48 + n % 10) ∷ [])
  unfolding digits_by
  and-more h = rw (le-ltb n 10 h)

digit-is : (n : ℕ) → is_digit (48 + n % 10) ≡ true
digit-is n = rw (le-ltb (48 + n % 10) 48 (omega arith), lt-ltb (48 + n % 10) 58 (omega arith))

all_digits : (k n : ℕ) → EveryByte is_digit (digits_by k n)
unfolding digits_by
all_digits zero n = (digit-is n, tt)
all_digits (suc k) n = each_append is_digit (cond (ltb n 10) [] (digits_by k (n / 10))) ((48 + n % 10) ∷ []) (go (ltb n 10) (all_digits k (n / 10))) (digit-is n, tt)
  where
    go : (b : Bool) → EveryByte is_digit (digits_by k (n / 10)) → EveryByte is_digit (cond b [] (digits_by k (n / 10)))
    go true x = tt
    go false x = x

pub decimal-digits : (n : ℕ) → EveryByte is_digit (decimal n)
unfolding decimal
decimal-digits n = all_digits n n

some-digit : (k n : ℕ) → 0 < length (digits_by k n)
unfolding digits_by
some-digit zero n = omega arith
some-digit (suc k) n = omega (arith, length-append (cond (ltb n 10) [] (digits_by k (n / 10))) ((48 + n % 10) ∷ []))

pub decimal-some : (n : ℕ) → 0 < length (decimal n)
unfolding decimal
decimal-some n = some-digit n n

-- ---- the number that they write

value-behind : (m : ℕ) (a : List ℕ) (d : ℕ) → value_from m (a ++ (d ∷ [])) ≡ 10 * value_from m a + (d - 48)
unfolding value_from
value-behind m [] d = refl
value-behind m (x ∷ a) d = value-behind (10 * m + (x - 48)) a d

value-by : (k n : ℕ) → n ≤ k → value_of (digits_by k n) ≡ n
unfolding digits_by value_from
value-by zero n h = omega (arith, h)
value-by (suc k) n h = go (dec_lt n 10) (λ l. value-by k (n / 10) (omega (arith, h, l)))
  where
    go : Dec (n < 10) → (10 ≤ n → value_of (digits_by k (n / 10)) ≡ n / 10) → value_of (digits_by (suc k) n) ≡ n
    go (yes l) e = ap value_of (last-only k n l) ∙ omega (arith, l)
    go (no l) e = let m : 10 ≤ n = omega (arith, l) in ap value_of (and-more k n m) ∙ value-behind 0 (digits_by k (n / 10)) (48 + n % 10) ∙ omega (arith, e m)

pub decimal-value : (n : ℕ) → value_of (decimal n) ≡ n
unfolding decimal
decimal-value n = value-by n n (omega arith)

-- ---- no zero in front

first-zero : (k n : ℕ) → n ≤ k → get_or (digits_by k n) 0 0 ≡ 48 → n ≡ 0
unfolding digits_by
first-zero zero n h e = omega (arith, h)
first-zero (suc k) n h e = go (dec_lt n 10) (λ l. first-zero k (n / 10) (omega (arith, h, l)))
  where
    go : Dec (n < 10) → (10 ≤ n → get_or (digits_by k (n / 10)) 0 0 ≡ 48 → n / 10 ≡ 0) → n ≡ 0
    go (yes l) f = omega (arith, l, sym (ap (λ (t : List ℕ). get_or t 0 0) (last-only k n l)) ∙ e)
    go (no l) f =
        let m : 10 ≤ n = omega (arith, l) in
        let q : get_or (digits_by k (n / 10)) 0 0 ≡ 48 = sym (get_or-append (digits_by k (n / 10)) ((48 + n % 10) ∷ []) 0 0 (some-digit k (n / 10))) ∙ sym (ap (λ (t : List ℕ). get_or t 0 0) (and-more k n m)) ∙ e in
        absurd (omega (arith, f m q, m))

alone : (n : ℕ) → n ≡ 0 → length (decimal n) ≡ 1
unfolding decimal digits_by
alone n e = rw e

no-front-zero : (n : ℕ) → (eqb (get_or (decimal n) 0 0) 48 && ltb 1 (length (decimal n))) ≡ false
unfolding decimal
no-front-zero n = go (eqb (get_or (digits_by n n) 0 0) 48) refl
  where
    go : (b : Bool) → eqb (get_or (digits_by n n) 0 0) 48 ≡ b → (b && ltb 1 (length (digits_by n n))) ≡ false
    go true e = ap (ltb 1) (alone n (first-zero n n (omega arith) (eqb-true _ _ e)))
    go false e = refl

-- a number that fits a word is good, and so is 0 where it serves
pub decimal-good : (serves : Bool) (n : ℕ) → n < too_high → (serves || not (eqb n 0)) ≡ true → bad_number serves (decimal n) ≡ false
unfolding bad_number
decimal-good serves n h z =
    rw (decimal-value n, no-front-zero n, lt-ltb n too_high h) (go serves (eqb n 0) z)
  where
    go : (a b : Bool) → (a || not b) ≡ true → ((not a && b) || false) ≡ false
    go true b e = refl
    go false true e = sym e
    go false false e = refl

-- ---- digits in front of a text

-- a text does not begin with a digit
abbrev pub digitless : List ℕ → Bool
digitless [] = true
digitless (b ∷ t) = not (is_digit b)

pub digits-front : (ds t : List ℕ) → EveryByte is_digit ds → digitless t ≡ true → digits_of (ds ++ t) ≡ ds
unfolding digits_of
digits-front [] [] x e = refl
digits-front [] (b ∷ t) x e = rw (not-true (is_digit b) e)
digits-front (d ∷ ds) t x e = rw x.0 (ap (λ (l : List ℕ). d ∷ l) (digits-front ds t x.1 e))

pub digits-behind : (ds t : List ℕ) → EveryByte is_digit ds → digitless t ≡ true → behind_digits (ds ++ t) ≡ t
unfolding behind_digits
digits-behind [] [] x e = refl
digits-behind [] (b ∷ t) x e = rw (not-true (is_digit b) e)
digits-behind (d ∷ ds) t x e = rw x.0 (digits-behind ds t x.1 e)
