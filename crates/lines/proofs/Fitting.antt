-- A line read by a pattern, character by character: each step keeps the outcome.
-- Assumes nothing.
use Prim.Native.Nat.{ℕ, zero, suc, ◌+◌, ◌-◌, ◌<◌, ◌≤◌, min}
use mathlib.Core.Path.{◌≡◌, refl, sym, ap, subst, ◌∙◌}
use mathlib.Core.Bool.{Bool, true, false, not, cond, ◌&&◌, ◌||◌, true≢false}
use mathlib.Core.List.{List, [], ◌∷◌, ◌++◌, append_assoc, append-nil}
use native.Mathlib.Omega.{arith}
use native.Mathlib.Numerals.{add-one}
use lib.Dec.{eqb, ltb}
use lib.ListN.{length, get_or, set, length-set, length-append, drop, drop_of_length-le}
use Rattle.std.proofs.lemmas.Option.{none-some, cond_some}
use lib.Seq.{drop-cons}
use Rattle.std.specs.Prelude.{Option, Some, None, is_some, Result, Ok, Err}
use Rattle.sheet.specs.FaultNumbers.{fault_number}
use Rattle.sheet.specs.declared.fault.Fault.{Fault}
use Rattle.sheet.specs.declared.fault.Fault.TheVariants.{UnlikeLine}
use borrow.Author.Tests.{eq-eqb, ne_eqb, ltb-true, not-false, ltb-false, lt-ltb, le-ltb}
use Rattle.tables.specs.Count.{number_of}
use Rattle.lines.specs.declared.Digits.{Digits}
use Rattle.lines.specs.declared.Line.{Line}
use Rattle.lines.specs.declared.Numbers.{Numbers}
use Rattle.lines.specs.declared.Passed.{Passed}
use Rattle.lines.specs.Numerals.{is_digit, digits_of, behind_digits, value_of, too_high, bad_number}
use Rattle.lines.specs.Nine.{nine, of_variant, of_number, Fitted, with_number, fitted, faulty, first_fit, said}
use Rattle.lines.specs.LineTold.{TellsLine}
use Rattle.lines.specs.Fitting.{DigitsAre, in_word, good_number, values_with, and_number, with_values, with_numbers, numbers_in, Held, outcome, by_pattern, Passes}

-- ---- numbers

-- a value set behind the numbers that there are
set-behind : (ns us : List ℕ) (v : ℕ) → length ns < length us → ((k : ℕ) → k < length us → get_or us k 0 ≡ get_or ns k 0) → (k : ℕ) → k < length us → get_or (set us (length ns) v) k 0 ≡ get_or (ns ++ (v ∷ [])) k 0
set-behind ns [] v l h k g = absurd (omega arith)
set-behind [] (u ∷ us) v l h zero g = refl
set-behind [] (u ∷ us) v l h (suc k) g = h (suc k) g
set-behind (n ∷ ns) (u ∷ us) v l h zero g = h zero g
set-behind (n ∷ ns) (u ∷ us) v l h (suc k) g = set-behind ns us v (omega arith) (λ j i. h (suc j) (omega arith)) k (omega arith)

-- one number more is held behind the others
pub held_more : (so : Numbers) (good : Bool) (ns : List ℕ) → Held so good ns → so.count < 3 → (bad : Bool) (v : ℕ) → Held (and_number so (cond bad None (Some v))) (good && not bad) (ns ++ (v ∷ []))
held_more so good ns h l bad v = record {
  count = ap (λ (k : ℕ). k + 1) h.count ∙ sym (length-append ns (v ∷ []));
  few = omega (arith, h.count, length-append ns (v ∷ []));
  all-good = known so.values bad ∙ ap (λ (g : Bool). g && not bad) h.all-good;
  values = λ vs e. held so.values refl bad vs e;
}
  where
    known : (us : Option (List ℕ)) (b : Bool) → is_some (values_with so.count us (cond b None (Some v))) ≡ (is_some us && not b)
    known None true = refl
    known None false = refl
    known (Some us) true = refl
    known (Some us) false = refl

    held : (us : Option (List ℕ)) → so.values ≡ us → (b : Bool) (vs : List ℕ) → values_with so.count us (cond b None (Some v)) ≡ Some vs → (length vs ≡ 3) × ((k : ℕ) → k < 3 → get_or vs k 0 ≡ get_or (ns ++ (v ∷ [])) k 0)
    held None d true vs e = absurd (none-some vs e)
    held None d false vs e = absurd (none-some vs e)
    held (Some us) d true vs e = absurd (none-some vs e)
    held (Some us) d false vs e =
        let o = h.values us d in
        let s : set us so.count v ≡ vs = (cond_some true _ _ e).1 in
        let c = h.count in
        subst (λ (ws : List ℕ). (length ws ≡ 3) × ((k : ℕ) → k < 3 → get_or ws k 0 ≡ get_or (ns ++ (v ∷ [])) k 0)) s
        (length-set us so.count v ∙ o.0, λ k g. rw c (set-behind ns us v (omega arith) (λ j i. o.1 j (omega arith)) k (omega arith)))

-- ---- whether a number is bad

digits-head : (b : ℕ) (t : List ℕ) → 0 < length (digits_of (b ∷ t)) → get_or (digits_of (b ∷ t)) 0 0 ≡ b
unfolding digits_of
digits-head b t = go (is_digit b)
  where
    go : (d : Bool) → 0 < length (cond d (b ∷ digits_of t) []) → get_or (cond d (b ∷ digits_of t) []) 0 0 ≡ b
    go true h = refl
    go false h = absurd (omega arith)

capped-zero : (v : ℕ) → eqb (min v too_high) 0 ≡ eqb v 0
capped-zero zero = refl
capped-zero (suc v) = ne_eqb (min (suc v) too_high) 0 (λ e. omega arith) ∙ sym (ne_eqb (suc v) 0 (λ e. omega arith))

capped-low : (v : ℕ) → ltb (min v too_high) too_high ≡ ltb v too_high
capped-low v = go (ltb v too_high) refl
  where
    go : (b : Bool) → ltb v too_high ≡ b → ltb (min v too_high) too_high ≡ b
    go true e = let l = ltb-true v too_high e in lt-ltb (min v too_high) too_high (omega arith)
    go false e = let l = ltb-false v too_high e in le-ltb (min v too_high) too_high (omega arith)

-- a number by its digits or, where it is too high, by the lowest that is
pub bad-same : (variant : Bool) (ds : List ℕ) (b count value : ℕ) → value ≡ min (value_of ds) too_high → count ≡ length ds → get_or ds 0 0 ≡ b
    → ((not variant && eqb value 0) || ((eqb b 48 && ltb 1 count) || not (ltb value too_high))) ≡ bad_number variant ds
unfolding bad_number
bad-same variant ds b count value e n f = rw (e, n, ← f, capped-zero (value_of ds), capped-low (value_of ds)) refl

-- a number that is read, as the code tells whether it is bad
pub good-same : (variant : Bool) (ds : List ℕ) (b count : ℕ) → count ≡ length ds → get_or ds 0 0 ≡ b
    → good_number (not variant) (eqb b 48 && ltb 1 count) (in_word (value_of ds)) ≡ cond (bad_number variant ds) None (Some (value_of ds))
unfolding bad_number
good-same variant ds b count n f = rw (n, ← f) (go (eqb (get_or ds 0 0) 48 && ltb 1 (length ds)) (ltb (value_of ds) too_high))
  where
    too-high : (z l : Bool) → (z || (l || true)) ≡ true
    too-high true l = refl
    too-high false true = refl
    too-high false false = refl

    go : (l w : Bool) → good_number (not variant) l (cond w (Some (value_of ds)) None) ≡ cond ((not variant && eqb (value_of ds) 0) || (l || not w)) None (Some (value_of ds))
    go true true = refl
    go false true = refl
    go l false = rw (too-high (not variant && eqb (value_of ds) 0) l) refl

-- a good number is not too high
pub good-low : (variant : Bool) (ds : List ℕ) → bad_number variant ds ≡ false → value_of ds < too_high
unfolding bad_number
good-low variant ds e =
    ltb-true (value_of ds) too_high
    (not-false _ (or-none (eqb (get_or ds 0 0) 48 && ltb 1 (length ds)) (not (ltb (value_of ds) too_high)) (or-none (not variant && eqb (value_of ds) 0) _ e)))
  where
    or-none : (a b : Bool) → (a || b) ≡ false → b ≡ false
    or-none true b e = absurd (true≢false e)
    or-none false b e = e

-- ---- one character of a pattern

with-some : (p : ℕ) (ds : List ℕ) (rest : Fitted) → 0 < length ds → with_number p ds rest ≡ record { fits = rest.fits; good = not (bad_number (of_variant p) ds) && rest.good; numbers = value_of ds ∷ rest.numbers }
unfolding with_number
with-some p [] rest h = absurd (omega arith)
with-some p (d ∷ ds) rest h = refl

with_none : (p : ℕ) (ds : List ℕ) (rest : Fitted) → length ds ≡ 0 → (with_number p ds rest).fits ≡ false
unfolding with_number
with_none p [] rest h = refl
with_none p (d ∷ ds) rest h = absurd (omega arith)

module _ (mark : ℕ) (ps : List ℕ) where
  fitted-over : (t : List ℕ) → length t ≡ 0 → (fitted (mark ∷ ps) t).fits ≡ false
  unfolding fitted
  fitted-over [] h = refl
  fitted-over (b ∷ t) h = absurd (omega arith)

  fitted-byte : (b : ℕ) (t : List ℕ) → of_number mark ≡ false → b ≡ mark → fitted (mark ∷ ps) (b ∷ t) ≡ fitted ps t
  unfolding fitted
  fitted-byte b t n e = rw (n, eq-eqb mark b (sym e)) refl

  fitted-other : (b : ℕ) (t : List ℕ) → of_number mark ≡ false → (b ≡ mark → ⊥) → (fitted (mark ∷ ps) (b ∷ t)).fits ≡ false
  unfolding fitted
  fitted-other b t n e = rw (n, ne_eqb mark b (λ q. e (sym q))) refl

  fitted-number : (b : ℕ) (t : List ℕ) → of_number mark ≡ true → fitted (mark ∷ ps) (b ∷ t) ≡ with_number mark (digits_of (b ∷ t)) (fitted ps (behind_digits (b ∷ t)))
  unfolding fitted
  fitted-number b t n = rw n refl

-- ---- outcomes

and-and : (a b c : Bool) → (a && (b && c)) ≡ ((a && b) && c)
and-and true b c = refl
and-and false b c = refl

module _ (form : ℕ) (good : Bool) (ns : List ℕ) where
  -- unlike the rest of the pattern
  pub outcome-unlike : (ps t : List ℕ) → (fitted ps t).fits ≡ false → outcome form good ns ps t ≡ faulty 40
  unfolding outcome
  outcome-unlike ps t e = rw e refl

  outcome-same : (ps t qs u : List ℕ) → fitted ps t ≡ fitted qs u → outcome form good ns ps t ≡ outcome form good ns qs u
  unfolding outcome
  outcome-same ps t qs u e = rw e refl

  outcome-number : (ps t qs u : List ℕ) (is-good : Bool) (v : ℕ) → fitted ps t ≡ record { fits = (fitted qs u).fits; good = is-good && (fitted qs u).good; numbers = v ∷ (fitted qs u).numbers }
      → outcome form good ns ps t ≡ outcome form (good && is-good) (ns ++ (v ∷ [])) qs u
  unfolding outcome
  outcome-number ps t qs u g v e = rw (e, and-and good g (fitted qs u).good, append_assoc ns (v ∷ []) (fitted qs u).numbers) refl

  -- the pattern is through
  pub outcome-over : (b : ℕ) (t : List ℕ) → outcome form good ns [] (b ∷ t) ≡ faulty 40
  unfolding outcome fitted
  outcome-over b t = refl

  pub outcome-done : (so : Numbers) → Held so good ns → outcome form good ns [] [] ≡ with_numbers form so
  unfolding outcome fitted
  outcome-done so h = rw (append-nil ns, ← h.all-good) (go so.values refl)
    where
      go : (us : Option (List ℕ)) → so.values ≡ us → cond (is_some us && true) (record { fault = 0; form = form; first = get_or ns 0 0; second = get_or ns 1 0; third = get_or ns 2 0 }) (faulty 41) ≡ with_values form us
      go None e = refl
      go (Some vs) e =
          let o = (h.values vs e).1 in
          let a = o 0 (omega arith) in
          let b = o 1 (omega arith) in
          let c = o 2 (omega arith) in
          λ i. record { fault = 0; form = form; first = sym a i; second = sym b i; third = sym c i }

-- ---- what the three functions give

next-byte : (line : List ℕ) (i : ℕ) → i < length line → drop i line ≡ get_or line i 0 ∷ drop (i + 1) line
next-byte line i h = rw (add-one i) (drop-cons line i 0 h)

module _ (mark : ℕ) (line : List ℕ) (i : ℕ) (so : Numbers) where
  -- nothing is left of the line
  pub passes-out : length line ≤ i → Passes mark line i so (Err UnlikeLine)
  passes-out g = (refl, λ ps. fitted-over mark ps (drop i line) (ap length (drop_of_length-le line {i = i} g)))

  module _ (h : i < length line) where
    -- another byte
    pub passes-other : of_number mark ≡ false → (get_or line i 0 ≡ mark → ⊥) → Passes mark line i so (Err UnlikeLine)
    passes-other n d = (refl, λ ps. rw (next-byte line i h) (fitted-other mark ps _ _ n d))

    -- the byte
    pub passes-byte : of_number mark ≡ false → get_or line i 0 ≡ mark → Passes mark line i so (Ok (record { at = i + 1; so = so }))
    passes-byte n e =
        record {
          inside = omega arith;
          counts = rw n (omega arith);
          goes_on = λ good ns d. record { good-now = good; numbers = ns; held = d; same = λ form ps. outcome-same form good ns (mark ∷ ps) (drop i line) ps (drop (i + 1) line) (rw (next-byte line i h) (fitted-byte mark ps _ _ n e)) };
        }

    module _ (n : of_number mark ≡ true) (d : Digits) (D : DigitsAre line i d) where
      -- no digit
      pub passes_none : d.end ≡ i → Passes mark line i so (Err UnlikeLine)
      passes_none q =
          let b = next-byte line i h in
          (refl, λ ps. rw b (rw (fitted-number mark ps _ _ n) (with_none mark _ _ (ap (λ (t : List ℕ). length (digits_of t)) (sym b) ∙ omega (arith, D.long)))))

      digits-some : (d.end ≡ i → ⊥) → 0 < length (digits_of (drop i line))
      digits-some q = omega (arith, D.long, D.low)

      -- the number, as the code tells whether it is bad
      number-told : (d.end ≡ i → ⊥) → good_number (not (of_variant mark)) (eqb (get_or line i 0) 48 && ltb 1 (d.end - i)) d.number ≡ cond (bad_number (of_variant mark) (digits_of (drop i line))) None (Some (value_of (digits_of (drop i line))))
      number-told q =
          let b = next-byte line i h in
          rw D.value
          (good-same (of_variant mark) (digits_of (drop i line)) (get_or line i 0) (d.end - i) (sym D.long)
          (ap (λ (t : List ℕ). get_or (digits_of t) 0 0) b ∙ digits-head _ _ (subst (λ (t : List ℕ). 0 < length (digits_of t)) b (digits-some q))))

      -- a number
      pub passes-number : so.count < 3 → (d.end ≡ i → ⊥) → (variant : Bool) → variant ≡ of_variant mark → (number : Option ℕ)
          → number ≡ good_number (not variant) (eqb (get_or line i 0) 48 && ltb 1 (d.end - i)) d.number
          → (next : Numbers) → next ≡ and_number so number → Passes mark line i so (Ok (record { at = d.end; so = next }))
      passes-number few q variant its-mark number tells next e =
          record {
            inside = D.high;
            counts = rw (n, e) refl;
            goes_on = λ good ns held. record {
              good-now = good && not bad;
              numbers = ns ++ (value_of (digits_of (drop i line)) ∷ []);
              held = rw (e, told) (held_more so good ns held few bad (value_of (digits_of (drop i line))));
              same = λ form ps. outcome-number form good ns (mark ∷ ps) (drop i line) ps (drop d.end line) (not bad) (value_of (digits_of (drop i line))) (step ps);
            };
          }
        where
          bad : Bool
          bad = bad_number (of_variant mark) (digits_of (drop i line))

          told : number ≡ cond bad None (Some (value_of (digits_of (drop i line))))
          told = (rw its-mark at tells) ∙ number-told q

          step : (ps : List ℕ) → fitted (mark ∷ ps) (drop i line) ≡ record { fits = (fitted ps (drop d.end line)).fits; good = not bad && (fitted ps (drop d.end line)).good; numbers = value_of (digits_of (drop i line)) ∷ (fitted ps (drop d.end line)).numbers }
          step ps =
              let b = next-byte line i h in
              let f : fitted (mark ∷ ps) (drop i line) ≡ with_number mark (digits_of (drop i line)) (fitted ps (behind_digits (drop i line))) = rw b (fitted-number mark ps _ _ n) in
              f ∙ with-some mark _ _ (digits-some q) ∙ rw D.behind refl

-- ---- in the middle of a pattern

pub record Middle (pattern line : List ℕ) (so : Numbers) (i p : ℕ) : Type 0 where
  pub inside : i ≤ length line
  pub within : p ≤ length pattern
  pub few : so.count + numbers_in (drop p pattern) ≤ 3
  pub good : Bool
  pub numbers : List ℕ
  pub held : Held so good numbers
  pub same : (form : ℕ) → by_pattern form pattern line ≡ outcome form good numbers (drop p pattern) (drop i line)

module _ (pattern line : List ℕ) where
  no-values : (k : ℕ) → k < 3 → get_or {A = ℕ} (0 ∷ 0 ∷ 0 ∷ []) k 0 ≡ 0
  no-values zero l = refl
  no-values (suc zero) l = refl
  no-values (suc (suc zero)) l = refl
  no-values (suc (suc (suc k))) l = refl

  pub middle-begin : numbers_in pattern ≤ 3 → Middle pattern line (record { count = 0; values = Some (0 ∷ 0 ∷ 0 ∷ []) }) 0 0
  middle-begin h =
      record {
        inside = omega arith;
        within = omega arith;
        few = omega arith;
        good = true;
        numbers = [];
        held = record { count = refl; few = omega arith; all-good = refl; values = λ vs e. subst (λ (ws : List ℕ). (length ws ≡ 3) × ((k : ℕ) → k < 3 → get_or ws k 0 ≡ 0)) ((cond_some true _ _ e).1) (refl, λ k l. no-values k l) };
        same = λ form. refl;
      }

  module _ (so : Numbers) (i p : ℕ) (M : Middle pattern line so i p) where
    next-mark : p < length pattern → drop p pattern ≡ get_or pattern p 0 ∷ drop (p + 1) pattern
    next-mark = next-byte pattern p

    counted-on : p < length pattern → numbers_in (drop p pattern) ≡ number_of (of_number (get_or pattern p 0)) + numbers_in (drop (p + 1) pattern)
    unfolding numbers_in
    counted-on h = ap numbers_in (next-mark h)

    pub middle-room : p < length pattern → of_number (get_or pattern p 0) ≡ true → so.count < 3
    middle-room h n = let e = counted-on h in let z : number_of (of_number (get_or pattern p 0)) ≡ 1 = ap number_of n in omega (arith, M.few)

    module _ (h : p < length pattern) where
      pub middle-unlike : (f : Fault) → Passes (get_or pattern p 0) line i so (Err f) → (form : ℕ) → TellsLine (by_pattern form pattern line) (Err f)
      middle-unlike f P form = record {
        line = ap (λ (x : Fault). faulty (fault_number x)) P.0 ∙ sym (M.same form ∙ outcome-unlike form M.good M.numbers _ _ (rw (next-mark h) (P.1 (drop (p + 1) pattern))));
        good = tt;
      }

      pub middle-more : (r : Passed) → Passes (get_or pattern p 0) line i so (Ok r) → Middle pattern line r.so r.at (p + 1)
      middle-more r P =
          let g = P.goes_on M.good M.numbers M.held in
          record {
            inside = P.inside;
            within = omega arith;
            few = omega (arith, M.few, counted-on h, P.counts);
            good = g.good-now;
            numbers = g.numbers;
            held = g.held;
            same = λ form. M.same form ∙ ap (λ (x : List ℕ). outcome form M.good M.numbers x (drop i line)) (next-mark h) ∙ g.same form (drop (p + 1) pattern);
          }

    through : length pattern ≤ p → drop p pattern ≡ []
    through h = drop_of_length-le pattern {i = p} h

    pub middle-over : (form : ℕ) → length pattern ≤ p → i < length line → TellsLine (by_pattern form pattern line) (Err UnlikeLine)
    middle-over form h l = record {
      good = tt;
      line =
          sym (M.same form ∙ ap (λ (x : List ℕ). outcome form M.good M.numbers x (drop i line)) (through h)
          ∙ ap (outcome form M.good M.numbers []) (next-byte line i l) ∙ outcome-over form M.good M.numbers _ _);
    }

    pub middle-done : (form : ℕ) → length pattern ≤ p → length line ≤ i → (r : Result Line Fault) → TellsLine (with_numbers form so) r → TellsLine (by_pattern form pattern line) r
    middle-done form h l r t =
        subst (λ (x : Line). TellsLine x r) (sym (M.same form ∙ ap (λ (x : List ℕ). outcome form M.good M.numbers x (drop i line)) (through h)
        ∙ ap (outcome form M.good M.numbers []) (drop_of_length-le line {i = i} l) ∙ outcome-done form M.good M.numbers so M.held)) t

-- ---- the first letter tells which of the nine a line can be

-- the first letter of the pattern of form k + 1
abbrev letter : ℕ → ℕ
letter k = get_or (get_or nine k []) 0 0

letter-said : (k : ℕ) (t : List ℕ) → k < 9 → by_pattern (suc k) (get_or nine k []) (letter k ∷ t) ≡ said (letter k ∷ t)
unfolding said first_fit fitted outcome
letter-said zero t h = refl
letter-said (suc zero) t h = refl
letter-said (suc (suc zero)) t h = refl
letter-said (suc (suc (suc zero))) t h = refl
letter-said (suc (suc (suc (suc zero)))) t h = refl
letter-said (suc (suc (suc (suc (suc zero))))) t h = refl
letter-said (suc (suc (suc (suc (suc (suc zero)))))) t h = refl
letter-said (suc (suc (suc (suc (suc (suc (suc zero))))))) t h = refl
letter-said (suc (suc (suc (suc (suc (suc (suc (suc zero)))))))) t h = refl
letter-said (suc (suc (suc (suc (suc (suc (suc (suc (suc k))))))))) t h = absurd (omega arith)

first-and-rest : (line : List ℕ) → 0 < length line → line ≡ get_or line 0 0 ∷ drop 1 line
first-and-rest [] h = absurd (omega arith)
first-and-rest (b ∷ l) h = refl

pub empty-said : (line : List ℕ) → length line ≡ 0 → TellsLine (said line) (Err UnlikeLine)
unfolding said first_fit fitted
empty-said [] e = record { line = refl; good = tt }
empty-said (b ∷ l) e = absurd (omega arith)

-- a line that is not empty has a first byte
some-byte : (line : List ℕ) → eqb (length line) 0 ≡ false → 0 < length line
some-byte [] e = absurd (true≢false e)
some-byte (b ∷ l) e = omega arith

pub read_by : (line : List ℕ) (k : ℕ) → k < 9 → eqb (length line) 0 ≡ false → get_or line 0 0 ≡ letter k → (r : Result Line Fault) → TellsLine (by_pattern (suc k) (get_or nine k []) line) r → TellsLine (said line) r
read_by line k h l e r t =
    let q : line ≡ letter k ∷ drop 1 line = first-and-rest line (some-byte line l) ∙ ap (λ (b : ℕ). b ∷ drop 1 line) e in
    subst (λ (x : Line). TellsLine x r) (subst (λ (x : List ℕ). by_pattern (suc k) (get_or nine k []) x ≡ said x) (sym q) (letter-said k (drop 1 line) h)) t

other-first : (k b : ℕ) (t : List ℕ) → k < 9 → (b ≡ letter k → ⊥) → (fitted (get_or nine k []) (b ∷ t)).fits ≡ false
other-first zero b t h e = fitted-other _ _ b t refl e
other-first (suc zero) b t h e = fitted-other _ _ b t refl e
other-first (suc (suc zero)) b t h e = fitted-other _ _ b t refl e
other-first (suc (suc (suc zero))) b t h e = fitted-other _ _ b t refl e
other-first (suc (suc (suc (suc zero)))) b t h e = fitted-other _ _ b t refl e
other-first (suc (suc (suc (suc (suc zero))))) b t h e = fitted-other _ _ b t refl e
other-first (suc (suc (suc (suc (suc (suc zero)))))) b t h e = fitted-other _ _ b t refl e
other-first (suc (suc (suc (suc (suc (suc (suc zero))))))) b t h e = fitted-other _ _ b t refl e
other-first (suc (suc (suc (suc (suc (suc (suc (suc zero)))))))) b t h e = fitted-other _ _ b t refl e
other-first (suc (suc (suc (suc (suc (suc (suc (suc (suc k))))))))) b t h e = absurd (omega arith)

none-fits : (k : ℕ) (ps : List (List ℕ)) (l : List ℕ) → ((i : ℕ) → i < length ps → (fitted (get_or ps i []) l).fits ≡ false) → faulty 40 ≡ first_fit k ps l
unfolding first_fit
none-fits k [] l h = refl
none-fits k (p ∷ ps) l h = rw (h 0 (omega arith)) (none-fits (suc k) ps l (λ i g. h (suc i) (omega arith)))

pub read-by-none : (line : List ℕ) → eqb (length line) 0 ≡ false → ((k : ℕ) → k < 9 → get_or line 0 0 ≡ letter k → ⊥) → TellsLine (said line) (Err UnlikeLine)
unfolding said
read-by-none [] h no-letter = absurd (true≢false h)
read-by-none (b ∷ t) h no-letter = record { line = none-fits 1 nine (b ∷ t) (λ k l. other-first k b t l (no-letter k l)); good = tt }

-- none of nine letters
pub nine-others : (b : ℕ) → (b ≡ letter 0 → ⊥) → (b ≡ letter 1 → ⊥) → (b ≡ letter 2 → ⊥) → (b ≡ letter 3 → ⊥) → (b ≡ letter 4 → ⊥) → (b ≡ letter 5 → ⊥) → (b ≡ letter 6 → ⊥) → (b ≡ letter 7 → ⊥) → (b ≡ letter 8 → ⊥)
    → (k : ℕ) → k < 9 → b ≡ letter k → ⊥
nine-others b p c d f i w g n a zero h = p
nine-others b p c d f i w g n a (suc zero) h = c
nine-others b p c d f i w g n a (suc (suc zero)) h = d
nine-others b p c d f i w g n a (suc (suc (suc zero))) h = f
nine-others b p c d f i w g n a (suc (suc (suc (suc zero)))) h = i
nine-others b p c d f i w g n a (suc (suc (suc (suc (suc zero))))) h = w
nine-others b p c d f i w g n a (suc (suc (suc (suc (suc (suc zero)))))) h = g
nine-others b p c d f i w g n a (suc (suc (suc (suc (suc (suc (suc zero))))))) h = n
nine-others b p c d f i w g n a (suc (suc (suc (suc (suc (suc (suc (suc zero)))))))) h = a
nine-others b p c d f i w g n a (suc (suc (suc (suc (suc (suc (suc (suc (suc k))))))))) h = absurd (omega arith)
