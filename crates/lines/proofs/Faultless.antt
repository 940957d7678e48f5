-- A line without a fault is a good line: it has one of the nine forms, and its numbers are good.
-- Assumes nothing.
use Prim.Native.Nat.{ℕ, zero, suc, ◌+◌, ◌-◌, ◌<◌, ◌≤◌}
use mathlib.Core.Path.{◌≡◌, refl, sym, ap, subst, ◌∙◌}
use mathlib.Core.Bool.{Bool, true, false, not, cond, ◌&&◌, ◌||◌, true≢false}
use mathlib.Core.List.{List, [], ◌∷◌, ◌++◌}
use native.Mathlib.Omega.{arith}
use lib.ListN.{length, get_or}
use borrow.Author.Tests.{ltb-true, eqb-true}
use Rattle.tables.specs.Count.{number_of}
use Rattle.tables.proofs.Tables.{and-true}
use Rattle.sheet.specs.Refusals.{◌is◌, ◌below◌}
use Rattle.lines.specs.declared.Line.{Line}
use Rattle.lines.specs.Numerals.{digits_of, behind_digits, value_of, too_high, bad_number}
use Rattle.lines.specs.Nine.{nine, of_variant, of_number, Fitted, with_number, fitted, line_of, first_fit, said, numbers_of}
use Rattle.lines.specs.Fitting.{numbers_in}
use Rattle.lines.proofs.Back.{good_by, GoodLine}

-- ---- one character of a pattern

-- a character that is no mark asks nothing of the numbers
good-plain : (p : ℕ) (ps ns : List ℕ) → of_number p ≡ false → good_by ps ns ≡ true → good_by (p ∷ ps) ns ≡ true
good-plain p ps [] e g = rw e g
good-plain p ps (n ∷ ns) e g = rw e g

-- a number that is not bad is good
number-good : (p : ℕ) (ds : List ℕ) → not (bad_number (of_variant p) ds) ≡ true → ((of_variant p || not (value_of ds is 0)) ≡ true) × (value_of ds below too_high ≡ true)
unfolding bad_number
number-good p ds = go (of_variant p) (value_of ds is 0) (get_or ds 0 0 is 48 && 1 below length ds) (value_of ds below too_high)
  where
    go : (s z a b : Bool) → not ((not s && z) || (a || not b)) ≡ true → ((s || not z) ≡ true) × (b ≡ true)
    go true z true b e = absurd (true≢false (sym e))
    go true z false true e = (refl, refl)
    go true z false false e = absurd (true≢false (sym e))
    go false true a b e = absurd (true≢false (sym e))
    go false false true b e = absurd (true≢false (sym e))
    go false false false true e = (refl, refl)
    go false false false false e = absurd (true≢false (sym e))

-- ---- a whole pattern

-- a line by a pattern that it fits: as many numbers as the pattern has, and where they are good they are good by the pattern
pub record FitsWell (ps : List ℕ) (f : Fitted) : Type 0 where
  pub many : length f.numbers ≡ numbers_in ps
  pub good : f.good ≡ true → good_by ps f.numbers ≡ true

fits-plain : (p : ℕ) (ps : List ℕ) (f : Fitted) → of_number p ≡ false → FitsWell ps f → FitsWell (p ∷ ps) f
unfolding numbers_in
fits-plain p ps f e w = record { many = rw e (w.many ∙ omega arith); good = λ g. good-plain p ps f.numbers e (w.good g) }

fits-number : (p : ℕ) (ps ds : List ℕ) (rest : Fitted) → of_number p ≡ true → (rest.fits ≡ true → FitsWell ps rest) → (with_number p ds rest).fits ≡ true → FitsWell (p ∷ ps) (with_number p ds rest)
unfolding with_number numbers_in
fits-number p ps [] rest e w h = absurd (true≢false (sym h))
fits-number p ps (d ∷ ds) rest e w h =
    let v = w h in
    record {
      many = rw e (omega (arith, v.many));
      good = λ g.
          let a = and-true (not (bad_number (of_variant p) (d ∷ ds))) rest.good g in
          let b = number-good p (d ∷ ds) a.0 in
          rw (e, b.0, b.1) (v.good a.1);
    }

fits-well : (ps l : List ℕ) → (fitted ps l).fits ≡ true → FitsWell ps (fitted ps l)
unfolding fitted numbers_in
fits-well [] [] h = record { many = refl; good = λ g. refl }
fits-well [] (b ∷ t) h = absurd (true≢false (sym h))
fits-well (p ∷ ps) [] h = absurd (true≢false (sym h))
fits-well (p ∷ ps) (b ∷ t) h = go (of_number p) refl (p is b) h (fits-well ps (behind_digits (b ∷ t))) (fits-well ps t)
  where
    go : (n : Bool) → of_number p ≡ n → (m : Bool) → (cond n (with_number p (digits_of (b ∷ t)) (fitted ps (behind_digits (b ∷ t)))) (cond m (fitted ps t) (record { fits = false; good = false; numbers = [] }))).fits ≡ true
        → ((fitted ps (behind_digits (b ∷ t))).fits ≡ true → FitsWell ps (fitted ps (behind_digits (b ∷ t)))) → ((fitted ps t).fits ≡ true → FitsWell ps (fitted ps t))
        → FitsWell (p ∷ ps) (cond n (with_number p (digits_of (b ∷ t)) (fitted ps (behind_digits (b ∷ t)))) (cond m (fitted ps t) (record { fits = false; good = false; numbers = [] })))
    go true e m h x y = fits-number p ps (digits_of (b ∷ t)) (fitted ps (behind_digits (b ∷ t))) e x h
    go false e true h x y = fits-plain p ps (fitted ps t) e (y h)
    go false e false h x y = absurd (true≢false (sym h))

-- ---- numbers that a line does not have are 0

good-padded : (ps ns zs : List ℕ) → good_by [] zs ≡ true → good_by ps ns ≡ true → good_by ps (ns ++ zs) ≡ true
good-padded [] [] zs z g = z
good-padded [] (n ∷ ns) zs z g = let a = and-true (n is 0) (good_by [] ns) g in rw a.0 (good-padded [] ns zs z a.1)
good-padded (p ∷ ps) [] zs z g = let a = and-true (not (of_number p)) (good_by ps []) g in good-plain p ps zs (plain (of_number p) a.0) (good-padded ps [] zs z a.1)
  where
    plain : (b : Bool) → not b ≡ true → b ≡ false
    plain true e = sym e
    plain false e = refl
good-padded (p ∷ ps) (n ∷ ns) zs z g = go (of_number p) refl (good-padded ps ns zs z) (good-padded ps (n ∷ ns) zs z)
  where
    go : (b : Bool) → of_number p ≡ b → (good_by ps ns ≡ true → good_by ps (ns ++ zs) ≡ true) → (good_by ps (n ∷ ns) ≡ true → good_by ps (n ∷ (ns ++ zs)) ≡ true) → good_by (p ∷ ps) (n ∷ (ns ++ zs)) ≡ true
    go true e x y =
        let a : ((of_variant p || not (n is 0)) && (n below too_high && good_by ps ns)) ≡ true = rw e at g in
        let b = and-true (of_variant p || not (n is 0)) (n below too_high && good_by ps ns) a in
        let c = and-true (n below too_high) (good_by ps ns) b.1 in
        rw (e, b.0, c.0) (x c.1)
    go false e x y = rw e (y (rw e at g))

three-good : (ps ns : List ℕ) → length ns ≤ 3 → good_by ps ns ≡ true → good_by ps (get_or ns 0 0 ∷ get_or ns 1 0 ∷ get_or ns 2 0 ∷ []) ≡ true
three-good ps [] h g = good-padded ps [] (0 ∷ 0 ∷ 0 ∷ []) refl g
three-good ps (a ∷ []) h g = good-padded ps (a ∷ []) (0 ∷ 0 ∷ []) refl g
three-good ps (a ∷ b ∷ []) h g = good-padded ps (a ∷ b ∷ []) (0 ∷ []) refl g
three-good ps (a ∷ b ∷ c ∷ []) h g = g
three-good ps (a ∷ b ∷ c ∷ d ∷ ns) h g = absurd (omega (arith, h))

-- ---- the nine

-- a line of one of several patterns, from the form k on, whose numbers are good by it
pub record OneOf (k : ℕ) (ps : List (List ℕ)) (l : Line) : Type 0 where
  pub place : ℕ
  pub inside : place < length ps
  pub form : l.form ≡ k + place
  pub numbers : good_by (get_or ps place []) (numbers_of l) ≡ true

-- no pattern has more than three numbers
abbrev few_in : List (List ℕ) → Bool
few_in [] = true
few_in (p ∷ ps) = numbers_in p below 4 && few_in ps

line-good-by : (k : ℕ) (p : List ℕ) (f : Fitted) → length f.numbers ≤ 3 → (f.good ≡ true → good_by p f.numbers ≡ true) → (line_of k f).fault ≡ 0 → ((line_of k f).form ≡ k) × (good_by p (numbers_of (line_of k f)) ≡ true)
line-good-by k p f few w = go f.good refl
  where
    go : (g : Bool) → f.good ≡ g → (line_of k (record { fits = f.fits; good = g; numbers = f.numbers })).fault ≡ 0
        → ((line_of k (record { fits = f.fits; good = g; numbers = f.numbers })).form ≡ k) × (good_by p (numbers_of (line_of k (record { fits = f.fits; good = g; numbers = f.numbers }))) ≡ true)
    go true e h = (refl, three-good p f.numbers few (w e))
    go false e h = absurd (omega (arith, h))

fits_one : (k : ℕ) (ps : List (List ℕ)) (l : List ℕ) → few_in ps ≡ true → (first_fit k ps l).fault ≡ 0 → OneOf k ps (first_fit k ps l)
unfolding first_fit
fits_one k [] l few h = absurd (omega (arith, h))
fits_one k (p ∷ ps) l few h = go (fitted p l).fits (fits-well p l) h (fits_one (suc k) ps l both.1)
  where
    both : (numbers_in p below 4 ≡ true) × (few_in ps ≡ true)
    both = and-true (numbers_in p below 4) (few_in ps) few

    go : (b : Bool) → (b ≡ true → FitsWell p (fitted p l)) → (cond b (line_of k (fitted p l)) (first_fit (suc k) ps l)).fault ≡ 0
        → ((first_fit (suc k) ps l).fault ≡ 0 → OneOf (suc k) ps (first_fit (suc k) ps l)) → OneOf k (p ∷ ps) (cond b (line_of k (fitted p l)) (first_fit (suc k) ps l))
    go true w h more =
        let v = w refl in
        let r = line-good-by k p (fitted p l) (omega (arith, v.many, ltb-true (numbers_in p) 4 both.0)) v.good h in
        record { place = 0; inside = omega arith; form = r.0 ∙ omega arith; numbers = r.1 }
    go false w h more =
        let r = more h in
        record { place = suc r.place; inside = omega (arith, r.inside); form = r.form ∙ omega arith; numbers = r.numbers }

nine-few : few_in nine ≡ true
unfolding numbers_in
nine-few = refl

-- a line without a fault is a good one
pub said-good : (l : List ℕ) → (said l).fault ≡ 0 → GoodLine (said l)
unfolding said
said-good l h =
    let r = fits_one 1 nine l nine-few h in
    let z : r.place ≡ (said l).form - 1 = omega (arith, r.form) in
    record {
      fault = h;
      form-low = omega (arith, r.form);
      form-high = omega (arith, r.form, r.inside);
      numbers = subst (λ (k : ℕ). good_by (get_or nine k []) (numbers_of (said l)) ≡ true) z r.numbers;
    }

-- ---- the numbers that a line does not have

good-behind : (ps ns : List ℕ) (i : ℕ) → good_by ps ns ≡ true → numbers_in ps ≤ i → get_or ns i 0 ≡ 0
unfolding numbers_in
good-behind [] [] i g h = refl
good-behind [] (n ∷ ns) zero g h = eqb-true n 0 (and-true (n is 0) (good_by [] ns) g).0
good-behind [] (n ∷ ns) (suc i) g h = good-behind [] ns i (and-true (n is 0) (good_by [] ns) g).1 (omega arith)
good-behind (p ∷ ps) [] i g h = refl
good-behind (p ∷ ps) (n ∷ ns) i g h = go (of_number p) refl i h (good-behind ps ns) (good-behind ps (n ∷ ns))
  where
    go : (b : Bool) → of_number p ≡ b → (i : ℕ) → numbers_in (p ∷ ps) ≤ i → ((j : ℕ) → good_by ps ns ≡ true → numbers_in ps ≤ j → get_or ns j 0 ≡ 0) → ((j : ℕ) → good_by ps (n ∷ ns) ≡ true → numbers_in ps ≤ j → get_or (n ∷ ns) j 0 ≡ 0) → get_or (n ∷ ns) i 0 ≡ 0
    go true e zero h x y = let z = ap number_of e in absurd (omega arith)
    go true e (suc j) h x y =
        let a : ((of_variant p || not (n is 0)) && (n below too_high && good_by ps ns)) ≡ true = rw e at g in
        let z = ap number_of e in
        x j (and-true (n below too_high) (good_by ps ns) (and-true (of_variant p || not (n is 0)) _ a).1).1 (omega arith)
    go false e j h x y = let z = ap number_of e in y j (rw e at g) (omega arith)

two-at-most : (j : ℕ) → j < 6 → numbers_in (get_or nine j []) ≤ 2
unfolding numbers_in
two-at-most zero h = omega arith
two-at-most (suc zero) h = omega arith
two-at-most (suc (suc zero)) h = omega arith
two-at-most (suc (suc (suc zero))) h = omega arith
two-at-most (suc (suc (suc (suc zero)))) h = omega arith
two-at-most (suc (suc (suc (suc (suc zero))))) h = omega arith
two-at-most (suc (suc (suc (suc (suc (suc j)))))) h = absurd (omega arith)

-- only a grant, a ban and what applies have a third number
pub third-none : (l : Line) → GoodLine l → l.form ≤ 6 → l.third ≡ 0
third-none l g h = good-behind (get_or nine (l.form - 1) []) (numbers_of l) 2 g.numbers (two-at-most (l.form - 1) (omega (arith, g.form-low)))
