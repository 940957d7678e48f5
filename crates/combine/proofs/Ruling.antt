-- Each rule makes marks of its offices, and what it makes of an edge's marks lies within what is made of its ends'.
-- Assumes nothing.
use Prim.Native.Nat.{ℕ, suc, ◌+◌, ◌*◌, ◌/◌, ◌%◌, ◌^◌, ◌<◌, ◌≤◌}
use mathlib.Core.Path.{◌≡◌, refl, sym, subst, ◌∙◌}
use mathlib.Core.List.{List}
use mathlib.Core.Bool.{Bool, true, false, ◌||◌}
use native.Mathlib.Omega.{arith}
use native.Mathlib.Nat.{mul-zero, mod-lt, zero-div, zero-mod}
use lib.Bits.{bit_or, or_lt}
use lib.Pow.{pow_pos, pow_mono}
use Rattle.tables.specs.Marks.{marked, within}
use Rattle.tables.proofs.Marks.{within-marked, fits-within, either-run, marked-first, marked-second, both-fit, marked-run, marked-or}
use Rattle.sheet.specs.declared.Header.{Header}
use Rattle.sheet.specs.Limits.{max_offices}
use Rattle.sheet.specs.Rows.{edge_table}
use Rattle.sheet.specs.Accepted.{WellFormed}
use Rattle.combine.specs.declared.Rule.TheVariants.{Beside, Either}
use Rattle.combine.specs.Rules.{makes, Sound, Rules}
use Rattle.combine.specs.Sheets.{Pair}

-- ---- one sheet's offices behind the other's

pub beside-rules : (a b shift : ℕ) → shift ≡ 2 ^ a → Rules (λ x y. x + shift * y) (λ x y. x + shift * y) a b (a + b)
beside-rules a b shift e = record { nodes = sound; edges = sound; inside = inside }
  where
    sound : Sound (λ x y. x + shift * y) a b (a + b)
    sound = record { none = rw (mul-zero shift) refl; fits = λ x y l d. rw e (both-fit a b x y l d) }

    inside : (x y p q : ℕ) → x < 2 ^ a → p < 2 ^ a → y < 2 ^ b → q < 2 ^ b → within x p ≡ true → within y q ≡ true → within (x + shift * y) (p + shift * q) ≡ true
    inside x y p q lx lp ly lq i j =
        rw e
        (fits-within (a + b) (x + 2 ^ a * y) (p + 2 ^ a * q) (both-fit a b x y lx ly)
        (either-run (λ i. marked (x + 2 ^ a * y) (suc i) ≡ true → marked (p + 2 ^ a * q) (suc i) ≡ true) a b
        (λ k l m. marked-first a p q k l ∙ within-marked x p (suc k) i (sym (marked-first a x y k l) ∙ m))
        (λ k l m. marked-second a p q k lp ∙ within-marked y q (suc k) j (sym (marked-second a x y k lx) ∙ m))))

-- .. in words of 32 bits, and for any two office counts that fit together
pub beside-pair : (a : List ℕ) (h : Header) (b : List ℕ) (g : Header) (shift c : ℕ) → WellFormed a (edge_table a) h → WellFormed b (edge_table b) g → shift ≡ 2 ^ h.offices → c ≡ h.offices + g.offices → c ≤ max_offices
    → Pair (Beside shift) (Beside shift) c a h b g
beside-pair a h b g shift c v w e q most =
    record {
      first = v;
      second = w;
      rules = subst (Rules (makes (Beside shift)) (makes (Beside shift)) h.offices g.offices) (sym q) (beside-rules h.offices g.offices shift e);
      safe-nodes = safe;
      safe-edges = safe;
      low = omega (arith, v.nodes.header.offices-low);
      high = most;
    }
  where
    safe : (x y : ℕ) → x < 2 ^ h.offices → y < 2 ^ g.offices → x + shift * y < 4294967296
    safe x y l d =
        let n : h.offices + g.offices ≤ max_offices = omega arith in
        let m : 2 ^ (h.offices + g.offices) ≤ 2 ^ max_offices = pow_mono n in
        rw e (omega (arith, both-fit h.offices g.offices x y l d))

-- ---- a run of offices

-- no marks give none
pub zero-run : (low span : ℕ) → 0 / low % span ≡ 0
zero-run low span = rw (zero-div low) (zero-mod span)

pub run-rules : (a b k n low span : ℕ) → low ≡ 2 ^ k → span ≡ 2 ^ n → Rules (λ x y. x / low % span) (λ x y. x / low % span) a b n
run-rules a b k n low span p q = record { nodes = sound; edges = sound; inside = inside }
  where
    high : (x : ℕ) → x / 2 ^ k % 2 ^ n < 2 ^ n
    high x = mod-lt (x / 2 ^ k) (pow_pos n)

    sound : Sound (λ x y. x / low % span) a b n
    sound = record { none = rw (p, q) (zero-run (2 ^ k) (2 ^ n)); fits = λ x y l d. rw (p, q) (high x) }

    inside : (x y m o : ℕ) → x < 2 ^ a → m < 2 ^ a → y < 2 ^ b → o < 2 ^ b → within x m ≡ true → within y o ≡ true → within (x / low % span) (m / low % span) ≡ true
    inside x y m o lx lm ly lo i j =
        rw (p, q)
        (fits-within n (x / 2 ^ k % 2 ^ n) (m / 2 ^ k % 2 ^ n) (high x)
        (λ u l d. marked-run k n m u l ∙ within-marked x m (suc (k + u)) i (sym (marked-run k n x u l) ∙ d)))

-- ---- the marks of either

either_true : (a b : Bool) → (a ≡ true → b ≡ true) → (c d : Bool) → (c ≡ true → d ≡ true) → (a || c) ≡ true → (b || d) ≡ true
either_true true b f c d g e = rw (f refl) refl
either_true false true f c d g e = refl
either_true false false f c d g e = g e

pub either-rules : (a : ℕ) → Rules bit_or bit_or a a a
either-rules a = record { nodes = sound; edges = sound; inside = inside }
  where
    sound : Sound bit_or a a a
    sound = record { none = refl; fits = λ x y l d. or_lt a x y l d }

    inside : (x y p q : ℕ) → x < 2 ^ a → p < 2 ^ a → y < 2 ^ a → q < 2 ^ a → within x p ≡ true → within y q ≡ true → within (bit_or x y) (bit_or p q) ≡ true
    inside x y p q lx lp ly lq i j =
        fits-within a (bit_or x y) (bit_or p q) (or_lt a x y lx ly)
        (λ k l e. marked-or p q k ∙ either_true _ _ (within-marked x p (suc k) i) _ _ (within-marked y q (suc k) j) (sym (marked-or x y k) ∙ e))

-- .. of two sheets of one office count
pub either-pair : (a : List ℕ) (h : Header) (b : List ℕ) (g : Header) → WellFormed a (edge_table a) h → WellFormed b (edge_table b) g → g.offices ≡ h.offices → Pair Either Either h.offices a h b g
either-pair a h b g v w e =
    record {
      first = v;
      second = w;
      rules = subst (λ (x : ℕ). Rules (makes Either) (makes Either) h.offices x h.offices) (sym e) (either-rules h.offices);
      safe-nodes = λ x y l d. tt {0};
      safe-edges = λ x y l d. tt {0};
      low = v.nodes.header.offices-low;
      high = v.nodes.header.offices-high;
    }
