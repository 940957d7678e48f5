-- What is written is read back: the bytes of a good line say that line, and none of them is a line feed.
-- Assumes nothing.
use Prim.Native.Nat.{ℕ, zero, suc, ◌+◌, ◌-◌, ◌<◌, ◌≤◌}
use mathlib.Core.Path.{◌≡◌, refl, sym, ap, ◌∙◌}
use mathlib.Core.Bool.{Bool, true, false, not, cond, ◌&&◌, ◌||◌, true≢false}
use mathlib.Core.List.{List, [], ◌∷◌, ◌++◌}
use native.Mathlib.Omega.{arith}
use lib.ListN.{length, get_or}
use borrow.Author.Tests.{ltb-true, ltb-false, eq-eqb, ne_eqb, eqb-true, not-true}
use Rattle.tables.proofs.Tables.{and-true}
use Rattle.sheet.specs.Refusals.{◌is◌, ◌below◌}
use Rattle.text.specs.Growing.{decimal}
use Rattle.lines.specs.declared.Line.{Line}
use Rattle.lines.specs.Numerals.{is_digit, behind_digits, value_of, too_high, bad_number}
use Rattle.lines.specs.Nine.{nine, of_variant, of_number, Fitted, with_number, fitted, line_of, first_fit, said, spelled_by, numbers_of}
use Rattle.lines.proofs.Decimals.{EveryByte, each_append, decimal-digits, decimal-some, decimal-value, decimal-good, digitless, digits-front, digits-behind}

-- ---- good lines

-- the numbers are good where the pattern has them, and 0 behind its last
abbrev pub good_by : List ℕ → List ℕ → Bool
good_by [] [] = true
good_by [] (n ∷ ns) = n is 0 && good_by [] ns
good_by (p ∷ ps) [] = not (of_number p) && good_by ps []
good_by (p ∷ ps) (n ∷ ns) = cond (of_number p) ((of_variant p || not (n is 0)) && (n below too_high && good_by ps ns)) (good_by ps (n ∷ ns))

-- a line that can be written and read back
pub record GoodLine (l : Line) : Type 0 where
  pub fault : l.fault ≡ 0
  pub form-low : 1 ≤ l.form
  pub form-high : l.form ≤ 9
  pub numbers : good_by (get_or nine (l.form - 1) []) (numbers_of l) ≡ true

-- ---- patterns that can be read back

-- a byte that ends no line
abbrev pub no_feed : ℕ → Bool
no_feed b = not (b is 10)

-- no mark in front
abbrev no_mark_first : List ℕ → Bool
no_mark_first [] = true
no_mark_first (p ∷ ps) = not (of_number p)

-- no two marks stand side by side, and no other character is a digit or a line feed
abbrev readable : List ℕ → Bool
readable [] = true
readable (p ∷ ps) = cond (of_number p) (no_mark_first ps && readable ps) (not (is_digit p) && (no_feed p && readable ps))

-- the numbers that a pattern uses
abbrev used_by : List ℕ → List ℕ → List ℕ
used_by [] ns = []
used_by (p ∷ ps) [] = used_by ps []
used_by (p ∷ ps) (n ∷ ns) = cond (of_number p) (n ∷ used_by ps ns) (used_by ps (n ∷ ns))

-- ---- one character

mark-first : (p : ℕ) (ps : List ℕ) → of_number p ≡ true → readable (p ∷ ps) ≡ true → (no_mark_first ps ≡ true) × (readable ps ≡ true)
mark-first p ps e h = and-true _ _ (rw e at h)

plain-first : (p : ℕ) (ps : List ℕ) → of_number p ≡ false → readable (p ∷ ps) ≡ true → (not (is_digit p) ≡ true) × (no_feed p ≡ true) × (readable ps ≡ true)
plain-first p ps e h =
    let x : (not (is_digit p) && (no_feed p && readable ps)) ≡ true = rw e at h in
    let a = and-true (not (is_digit p)) _ x in
    let b = and-true (no_feed p) (readable ps) a.1 in
    (a.0, b.0, b.1)

fitted-plain : (p : ℕ) (ps t : List ℕ) → of_number p ≡ false → fitted (p ∷ ps) (p ∷ t) ≡ fitted ps t
unfolding fitted
fitted-plain p ps t e = rw (e, eq-eqb p p refl)

fitted-mark : (p : ℕ) (ps ds t : List ℕ) → of_number p ≡ true → EveryByte is_digit ds → 0 < length ds → digitless t ≡ true → fitted (p ∷ ps) (ds ++ t) ≡ with_number p ds (fitted ps t)
unfolding fitted
fitted-mark p ps [] t e x h d = absurd (omega (arith, h))
fitted-mark p ps (b ∷ ds) t e x h d = rw e (ap (λ (l : List ℕ). with_number p l (fitted ps (behind_digits (b ∷ (ds ++ t))))) (digits-front (b ∷ ds) t x d) ∙ ap (λ (l : List ℕ). with_number p (b ∷ ds) (fitted ps l)) (digits-behind (b ∷ ds) t x d))

with-some : (p : ℕ) (ds : List ℕ) (rest : Fitted) → 0 < length ds → with_number p ds rest ≡ record { fits = rest.fits; good = not (bad_number (of_variant p) ds) && rest.good; numbers = value_of ds ∷ rest.numbers }
unfolding with_number
with-some p [] rest h = absurd (omega (arith, h))
with-some p (d ∷ ds) rest h = refl

-- what is spelled begins with no digit unless with a mark
spelled-digitless : (ps ns : List ℕ) → no_mark_first ps ≡ true → readable ps ≡ true → digitless (spelled_by ps ns) ≡ true
unfolding spelled_by
spelled-digitless [] ns u h = refl
spelled-digitless (p ∷ ps) [] u h = let e = not-true (of_number p) u in rw e (plain-first p ps e h).0
spelled-digitless (p ∷ ps) (n ∷ ns) u h = let e = not-true (of_number p) u in rw e (plain-first p ps e h).0

-- ---- a whole pattern

-- a line by its own pattern: it fits, its numbers are good, and they are those that were put in
abbrev its_own : List ℕ → List ℕ → Fitted
its_own ps ns = record { fits = true; good = true; numbers = used_by ps ns }

number-back : (p n : ℕ) (ps ns : List ℕ) → of_number p ≡ true → ((of_variant p || not (n is 0)) && (n below too_high && good_by ps ns)) ≡ true
    → digitless (spelled_by ps ns) ≡ true → (good_by ps ns ≡ true → fitted ps (spelled_by ps ns) ≡ its_own ps ns) → fitted (p ∷ ps) (decimal n ++ spelled_by ps ns) ≡ record { fits = true; good = true; numbers = n ∷ used_by ps ns }
number-back p n ps ns e g d back =
    let a = and-true (of_variant p || not (n is 0)) _ g in
    let b = and-true (n below too_high) (good_by ps ns) a.1 in
    let good : bad_number (of_variant p) (decimal n) ≡ false = decimal-good (of_variant p) n (ltb-true _ _ b.0) a.0 in
    let rest = back b.1 in
    fitted-mark p ps (decimal n) (spelled_by ps ns) e (decimal-digits n) (decimal-some n) d
    ∙ ap (with_number p (decimal n)) rest
    ∙ with-some p (decimal n) (its_own ps ns) (decimal-some n)
    ∙ (λ i. record { fits = true; good = not (good i) && true; numbers = decimal-value n i ∷ used_by ps ns })

pub fitted-back : (ps ns : List ℕ) → readable ps ≡ true → good_by ps ns ≡ true → fitted ps (spelled_by ps ns) ≡ its_own ps ns
unfolding spelled_by fitted
fitted-back [] [] h g = refl
fitted-back [] (n ∷ ns) h g = refl
fitted-back (p ∷ ps) [] h g =
    let a = and-true (not (of_number p)) (good_by ps []) g in
    let e = not-true (of_number p) a.0 in
    rw e (fitted-plain p ps (spelled_by ps []) e ∙ fitted-back ps [] (plain-first p ps e h).2 a.1)
fitted-back (p ∷ ps) (n ∷ ns) h g = go (of_number p) refl (λ r. fitted-back ps ns r) (λ r. fitted-back ps (n ∷ ns) r)
  where
    go : (b : Bool) → of_number p ≡ b → (readable ps ≡ true → good_by ps ns ≡ true → fitted ps (spelled_by ps ns) ≡ its_own ps ns) → (readable ps ≡ true → good_by ps (n ∷ ns) ≡ true → fitted ps (spelled_by ps (n ∷ ns)) ≡ its_own ps (n ∷ ns))
        → fitted (p ∷ ps) (spelled_by (p ∷ ps) (n ∷ ns)) ≡ its_own (p ∷ ps) (n ∷ ns)
    go true e x y =
        let m = mark-first p ps e h in
        rw e (number-back p n ps ns e (rw e at g) (spelled-digitless ps ns m.0 m.1) (x m.1))
    go false e x y = rw e (fitted-plain p ps (spelled_by ps (n ∷ ns)) e ∙ y (plain-first p ps e h).2 (rw e at g))

-- a pattern's numbers, and 0 behind them, are all the numbers
rest-zero : (ns : List ℕ) (i : ℕ) → good_by [] ns ≡ true → 0 ≡ get_or ns i 0
rest-zero [] i g = refl
rest-zero (n ∷ ns) zero g = sym (eqb-true n 0 (and-true (n is 0) (good_by [] ns) g).0)
rest-zero (n ∷ ns) (suc i) g = rest-zero ns i (and-true (n is 0) (good_by [] ns) g).1

used-at : (ps ns : List ℕ) (i : ℕ) → good_by ps ns ≡ true → get_or (used_by ps ns) i 0 ≡ get_or ns i 0
used-at [] ns i g = rest-zero ns i g
used-at (p ∷ ps) [] i g = used-at ps [] i (and-true (not (of_number p)) (good_by ps []) g).1
used-at (p ∷ ps) (n ∷ ns) i g = go (of_number p) refl i (λ j x. used-at ps ns j x) (λ j x. used-at ps (n ∷ ns) j x)
  where
    go : (b : Bool) → of_number p ≡ b → (i : ℕ) → ((j : ℕ) → good_by ps ns ≡ true → get_or (used_by ps ns) j 0 ≡ get_or ns j 0) → ((j : ℕ) → good_by ps (n ∷ ns) ≡ true → get_or (used_by ps (n ∷ ns)) j 0 ≡ get_or (n ∷ ns) j 0)
        → get_or (used_by (p ∷ ps) (n ∷ ns)) i 0 ≡ get_or (n ∷ ns) i 0
    go true e zero x y = rw e
    go true e (suc j) x y =
        let a : ((of_variant p || not (n is 0)) && (n below too_high && good_by ps ns)) ≡ true = rw e at g in
        rw e (x j (and-true (n below too_high) (good_by ps ns) (and-true (of_variant p || not (n is 0)) _ a).1).1)
    go false e j x y = rw e (y j (rw e at g))

-- ---- no line feed

digit-no-feed : (ds : List ℕ) → EveryByte is_digit ds → EveryByte no_feed ds
digit-no-feed [] x = tt
digit-no-feed (d ∷ ds) x =
    let a = and-true (not (d below 48)) (d below 58) x.0 in
    (ap not (ne_eqb d 10 (λ q. omega (arith, q, ltb-false d 48 (not-true (d below 48) a.0)))), digit-no-feed ds x.1)

pub spelled-no-feed : (ps ns : List ℕ) → readable ps ≡ true → EveryByte no_feed (spelled_by ps ns)
unfolding spelled_by
spelled-no-feed [] ns h = tt
spelled-no-feed (p ∷ ps) [] h = go (of_number p) refl (λ r. spelled-no-feed ps [] r)
  where
    go : (b : Bool) → of_number p ≡ b → (readable ps ≡ true → EveryByte no_feed (spelled_by ps [])) → EveryByte no_feed (spelled_by (p ∷ ps) [])
    go true e x = rw e (x (mark-first p ps e h).1)
    go false e x = rw e (let a = plain-first p ps e h in (a.1, x a.2))
spelled-no-feed (p ∷ ps) (n ∷ ns) h = go (of_number p) refl (λ r. spelled-no-feed ps ns r) (λ r. spelled-no-feed ps (n ∷ ns) r)
  where
    go : (b : Bool) → of_number p ≡ b → (readable ps ≡ true → EveryByte no_feed (spelled_by ps ns)) → (readable ps ≡ true → EveryByte no_feed (spelled_by ps (n ∷ ns))) → EveryByte no_feed (spelled_by (p ∷ ps) (n ∷ ns))
    go true e x y = rw e (each_append no_feed (decimal n) (spelled_by ps ns) (digit-no-feed (decimal n) (decimal-digits n)) (x (mark-first p ps e h).1))
    go false e x y = rw e (let a = plain-first p ps e h in (a.1, y a.2))

-- ---- which of several patterns a line fits

-- each pattern passes
abbrev each_pattern : (List ℕ → Bool) → List (List ℕ) → Bool
each_pattern test [] = true
each_pattern test (p ∷ ps) = test p && each_pattern test ps

pattern-at : (test : List ℕ → Bool) (ps : List (List ℕ)) (j : ℕ) → j < length ps → each_pattern test ps ≡ true → test (get_or ps j []) ≡ true
pattern-at test [] j h e = absurd (omega (arith, h))
pattern-at test (p ∷ ps) zero h e = (and-true (test p) (each_pattern test ps) e).0
pattern-at test (p ∷ ps) (suc j) h e = pattern-at test ps j (omega (arith, h)) (and-true (test p) (each_pattern test ps) e).1

-- the first letters differ
abbrev other_letter : List ℕ → List ℕ → Bool
other_letter [] q = false
other_letter (a ∷ p) [] = false
other_letter (a ∷ p) (b ∷ q) = not (of_number a) && (not (of_number b) && not (a is b))

abbrev letters_differ : List (List ℕ) → Bool
letters_differ [] = true
letters_differ (p ∷ ps) = each_pattern (other_letter p) ps && letters_differ ps

other-unlike : (p q ns : List ℕ) → other_letter p q ≡ true → (fitted p (spelled_by q ns)).fits ≡ false
unfolding fitted spelled_by
other-unlike [] q ns h = absurd (true≢false (sym h))
other-unlike (a ∷ p) [] ns h = absurd (true≢false (sym h))
other-unlike (a ∷ p) (b ∷ q) ns h = go ns
  where
    x : (not (of_number a) ≡ true) × ((not (of_number b) && not (a is b)) ≡ true)
    x = and-true (not (of_number a)) (not (of_number b) && not (a is b)) h

    y : (not (of_number b) ≡ true) × (not (a is b) ≡ true)
    y = and-true (not (of_number b)) (not (a is b)) x.1

    go : (ns : List ℕ) → (fitted (a ∷ p) (spelled_by (b ∷ q) ns)).fits ≡ false
    go [] = rw (not-true (of_number b) y.0, not-true (of_number a) x.0, not-true (a is b) y.1)
    go (n ∷ ns) = rw (not-true (of_number b) y.0, not-true (of_number a) x.0, not-true (a is b) y.1)

first-fit : (k : ℕ) (ps : List (List ℕ)) (j : ℕ) (ns : List ℕ) → j < length ps → letters_differ ps ≡ true → (fitted (get_or ps j []) (spelled_by (get_or ps j []) ns)).fits ≡ true
    → first_fit k ps (spelled_by (get_or ps j []) ns) ≡ line_of (k + j) (fitted (get_or ps j []) (spelled_by (get_or ps j []) ns))
unfolding first_fit
first-fit k [] j ns h d e = absurd (omega (arith, h))
first-fit k (p ∷ ps) zero ns h d e =
    let z : k ≡ k + 0 = omega arith in
    rw e (ap (λ (m : ℕ). line_of m (fitted p (spelled_by p ns))) z)
first-fit k (p ∷ ps) (suc j) ns h d e =
    let a = and-true (each_pattern (other_letter p) ps) (letters_differ ps) d in
    let l : j < length ps = omega (arith, h) in
    let z : suc k + j ≡ k + suc j = omega arith in
    rw (other-unlike p (get_or ps j []) ns (pattern-at (other_letter p) ps j l a.0))
    (first-fit (suc k) ps j ns l a.1 e ∙ ap (λ (m : ℕ). line_of m (fitted (get_or ps j []) (spelled_by (get_or ps j []) ns))) z)

-- ---- the nine

nine-readable : each_pattern readable nine ≡ true
nine-readable = refl

nine-differ : letters_differ nine ≡ true
nine-differ = refl

module _ (l : Line) (g : GoodLine l) where
  in-nine : l.form - 1 < 9
  in-nine = omega (arith, g.form-low, g.form-high)

  its-pattern : readable (get_or nine (l.form - 1) []) ≡ true
  its-pattern = pattern-at readable nine (l.form - 1) in-nine nine-readable

  -- what a good line's bytes say
  pub said-back : said (spelled_by (get_or nine (l.form - 1) []) (numbers_of l)) ≡ l
  unfolding said
  said-back =
      let ps = get_or nine (l.form - 1) [] in
      let back = fitted-back ps (numbers_of l) its-pattern g.numbers in
      let form : 1 + (l.form - 1) ≡ l.form = omega (arith, g.form-low) in
      let u : (i : ℕ) → get_or (used_by ps (numbers_of l)) i 0 ≡ get_or (numbers_of l) i 0 = λ i. used-at ps (numbers_of l) i g.numbers in
      first-fit 1 nine (l.form - 1) (numbers_of l) in-nine nine-differ (ap (λ (f : Fitted). f.fits) back)
      ∙ ap (line_of (1 + (l.form - 1))) back
      ∙ (λ i. record { fault = sym g.fault i; form = form i; first = u 0 i; second = u 1 i; third = u 2 i })

  -- and none of them is a line feed
  pub line-no-feed : EveryByte no_feed (spelled_by (get_or nine (l.form - 1) []) (numbers_of l))
  line-no-feed = spelled-no-feed (get_or nine (l.form - 1) []) (numbers_of l) its-pattern
