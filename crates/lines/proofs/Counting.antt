-- Digits read one by one: where they end, and what they write.
-- Assumes nothing.
use Prim.Native.Nat.{ℕ, ◌+◌, ◌-◌, ◌*◌, ◌<◌, ◌≤◌}
use mathlib.Core.Path.{◌≡◌, refl, sym, ap, ◌∙◌}
use mathlib.Core.Bool.{Bool, true, false, cond}
use mathlib.Core.List.{List, [], ◌∷◌}
use native.Mathlib.Omega.{arith}
use native.Mathlib.Numerals.{add-one}
use Rattle.std.specs.Prelude.{Option, Some, None}
use lib.Dec.{ltb}
use lib.ListN.{length, get_or, drop, drop_of_length-le}
use lib.Seq.{drop-cons}
use borrow.Author.Tests.{ltb-false, le-ltb, ltb-true, not-true}
use Rattle.lines.specs.Numerals.{is_digit, digits_of, behind_digits, value_from, value_of, too_high}
use Rattle.lines.specs.Fitting.{DigitsAre, in_word, with_digit}
use Rattle.tables.proofs.Tables.{and-true}

-- the bytes that are digits
pub digit-range : (b : ℕ) → is_digit b ≡ true → (48 ≤ b) × (b < 58)
digit-range b e = let a = and-true _ _ e in (ltb-false _ _ (not-true _ a.0), ltb-true _ _ a.1)

-- a digit in front, or another byte
pub digits-on : (b : ℕ) (t : List ℕ) → is_digit b ≡ true → digits_of (b ∷ t) ≡ b ∷ digits_of t
unfolding digits_of
digits-on b t e = rw e refl

pub digits-stop : (b : ℕ) (t : List ℕ) → is_digit b ≡ false → digits_of (b ∷ t) ≡ []
unfolding digits_of
digits-stop b t e = rw e refl

pub behind-on : (b : ℕ) (t : List ℕ) → is_digit b ≡ true → behind_digits (b ∷ t) ≡ behind_digits t
unfolding behind_digits
behind-on b t e = rw e refl

pub behind-stop : (b : ℕ) (t : List ℕ) → is_digit b ≡ false → behind_digits (b ∷ t) ≡ b ∷ t
unfolding behind_digits
behind-stop b t e = rw e refl

-- a number that is too high stays so with a digit more
word-further : (n d : ℕ) → with_digit (in_word n) d ≡ in_word (10 * n + d)
word-further n d = go (ltb n too_high) refl
  where
    go : (b : Bool) → ltb n too_high ≡ b → with_digit (cond b (Some n) None) d ≡ in_word (10 * n + d)
    go true e = refl
    go false e = let l = ltb-false n too_high e in rw (le-ltb (10 * n + d) too_high (omega arith)) refl

-- digits were read from `at` to i, and v is what they write so far, if a word holds it
pub record DigitsTo (line : List ℕ) (at : ℕ) (v : Option ℕ) (i : ℕ) : Type 0 where
  pub low : at ≤ i
  pub high : i ≤ length line
  pub long : length (digits_of (drop at line)) ≡ (i - at) + length (digits_of (drop i line))
  pub behind : behind_digits (drop at line) ≡ behind_digits (drop i line)
  pub so_far : ℕ
  pub value : v ≡ in_word so_far
  pub value_on : value_of (digits_of (drop at line)) ≡ value_from so_far (digits_of (drop i line))

module _ (line : List ℕ) (at : ℕ) where
  pub digits-begin : at ≤ length line → DigitsTo line at (Some 0) at
  digits-begin h = record { low = omega arith; high = h; long = omega arith; behind = refl; so_far = 0; value = refl; value_on = refl }

  module _ (v : Option ℕ) (i : ℕ) (d : DigitsTo line at v i) where
    next-byte : i < length line → drop i line ≡ get_or line i 0 ∷ drop (i + 1) line
    next-byte h = rw (add-one i) (drop-cons line i 0 h)

    pub digits_more : (w : Option ℕ) → i < length line → is_digit (get_or line i 0) ≡ true → w ≡ with_digit v (get_or line i 0 - 48) → DigitsTo line at w (i + 1)
    unfolding value_from
    digits_more w h e q =
        let n = next-byte h in
        let f : digits_of (drop i line) ≡ get_or line i 0 ∷ digits_of (drop (i + 1) line) = ap digits_of n ∙ digits-on _ _ e in
        let l = ap length f in
        record {
          low = omega (arith, d.low);
          high = omega arith;
          long = omega (arith, d.long, d.low);
          behind = d.behind ∙ ap behind_digits n ∙ behind-on _ _ e;
          so_far = 10 * d.so_far + (get_or line i 0 - 48);
          value = q ∙ ap (λ (x : Option ℕ). with_digit x (get_or line i 0 - 48)) d.value ∙ word-further d.so_far (get_or line i 0 - 48);
          value_on = d.value_on ∙ ap (value_from d.so_far) f;
        }

    -- the byte at i is no digit, or there is none
    stop : digits_of (drop i line) ≡ [] → behind_digits (drop i line) ≡ drop i line → DigitsAre line at (record { end = i; number = v })
    unfolding value_from
    stop f g =
        record {
          low = d.low;
          high = d.high;
          long = omega (arith, d.long, ap length f);
          behind = d.behind ∙ g;
          value = d.value ∙ ap in_word (sym (d.value_on ∙ ap (value_from d.so_far) f));
        }

    pub digits-done : i < length line → is_digit (get_or line i 0) ≡ false → DigitsAre line at (record { end = i; number = v })
    digits-done h e = let n = next-byte h in stop (ap digits_of n ∙ digits-stop _ _ e) (ap behind_digits n ∙ behind-stop _ _ e ∙ sym n)

    pub digits-out : length line ≤ i → DigitsAre line at (record { end = i; number = v })
    unfolding digits_of behind_digits
    digits-out h = let n = drop_of_length-le line {i = i} h in stop (ap digits_of n) (ap behind_digits n ∙ sym n)
