-- A way of distinct numbers is there exactly where steps reach: a walk that repeats one can be shortened.
-- Assumes nothing.
use Prim.Native.Nat.{ℕ}
use mathlib.Core.Path.{◌≡◌, ap}
use mathlib.Core.Bool.{Bool, true, false, not}
use mathlib.Core.List.{List, [], ◌∷◌}
use mathlib.Core.Logic.{◌⊎◌, inl, inr}
use lib.Dec.{eqb}
use borrow.Author.Tests.{eqb-true}
use Rattle.paths.specs.Leads.{among, leads, Reach, here, more}
use Rattle.paths.proofs.Tests.{and_left, and_right, both, or_cases, either}

-- a way from a to some number at which it may end
pub record Way (step : ℕ → ℕ → Bool) (ends : ℕ → Bool) (a : ℕ) : Type 0 where
  pub by : List ℕ
  pub leads-on : leads step ends a by ≡ true

-- where it ends, and that steps reach it
pub record End (step : ℕ → ℕ → Bool) (ends : ℕ → Bool) (a : ℕ) : Type 0 where
  pub last : ℕ
  pub reached : Reach step a last
  pub ended : ends last ≡ true

module _ (step : ℕ → ℕ → Bool) (ends : ℕ → Bool) where
  -- a way's first step, and what is left of it
  pub first_step : (a b : ℕ) (bs : List ℕ) → leads step ends a (b ∷ bs) ≡ true → (step a b ≡ true) × (not (among a (b ∷ bs)) ≡ true) × (leads step ends b bs ≡ true)
  unfolding leads
  first_step a b bs e =
      let r = and_right (step a b) _ e in
      (and_left (step a b) _ e, and_left (not (among a (b ∷ bs))) _ r, and_right (not (among a (b ∷ bs))) _ r)

  -- each number of a way has a way of its own
  suffix : (a b : ℕ) (bs : List ℕ) → among a (b ∷ bs) ≡ true → leads step ends b bs ≡ true → Way step ends a
  suffix a b [] m e = go (or_cases (eqb a b) false m)
    where
      go : (eqb a b ≡ true) ⊎ (false ≡ true) → Way step ends a
      go (inl q) = record { by = []; leads-on = rw (eqb-true a b q) e }
      go (inr q) = absurd (mathlib.Core.Bool.false≢true q)
  suffix a b (c ∷ cs) m e = go (or_cases (eqb a b) (among a (c ∷ cs)) m) (λ m'. suffix a c cs m' (first_step b c cs e).2)
    where
      go : (eqb a b ≡ true) ⊎ (among a (c ∷ cs) ≡ true) → (among a (c ∷ cs) ≡ true → Way step ends a) → Way step ends a
      go (inl q) later = record { by = c ∷ cs; leads-on = rw (eqb-true a b q) e }
      go (inr q) later = later q

  -- one step more, shortened where it would repeat a number
  way-longer : (a b : ℕ) → step a b ≡ true → Way step ends b → Way step ends a
  unfolding leads
  way-longer a b s w = go (either (among a (b ∷ w.by)))
    where
      go : (among a (b ∷ w.by) ≡ true) ⊎ (among a (b ∷ w.by) ≡ false) → Way step ends a
      go (inl m) = suffix a b w.by m w.leads-on
      go (inr m) = record { by = b ∷ w.by; leads-on = both s (both (ap not m) w.leads-on) }

  -- a walk, whatever it repeats, is shortened to a way
  pub shortened : {a c : ℕ} → Reach step a c → ends c ≡ true → Way step ends a
  unfolding leads
  shortened here e = record { by = []; leads-on = e }
  shortened (more {a} {b} s r) e = way-longer a b s (shortened r e)

  -- a way is a walk
  pub walked : (a : ℕ) (bs : List ℕ) → leads step ends a bs ≡ true → End step ends a
  unfolding leads
  walked a [] e = record { last = a; reached = here; ended = e }
  walked a (b ∷ bs) e =
      let f = first_step a b bs e in
      let w = walked b bs f.2 in
      record { last = w.last; reached = more f.0 w.reached; ended = w.ended }

  -- a set of numbers that steps do not leave, and at none of which a way may end, has no way
  pub kept_in : (inside : ℕ → Bool) → ((a b : ℕ) → inside a ≡ true → step a b ≡ true → inside b ≡ true) → ((a : ℕ) → inside a ≡ true → ends a ≡ true → ⊥)
      → (a : ℕ) (bs : List ℕ) → inside a ≡ true → leads step ends a bs ≡ true → ⊥
  unfolding leads
  kept_in inside closed bare a [] m e = bare a m e
  kept_in inside closed bare a (b ∷ bs) m e =
      let f = first_step a b bs e in
      kept_in inside closed bare b bs (closed a b m f.0) f.2

-- more steps and more ends keep every way
pub keeps : (step step' : ℕ → ℕ → Bool) (ends ends' : ℕ → Bool) → ((a b : ℕ) → step a b ≡ true → step' a b ≡ true) → ((a : ℕ) → ends a ≡ true → ends' a ≡ true)
    → (a : ℕ) (bs : List ℕ) → leads step ends a bs ≡ true → leads step' ends' a bs ≡ true
unfolding leads
keeps step step' ends ends' s n a [] e = n a e
keeps step step' ends ends' s n a (b ∷ bs) e =
    let f = first_step step ends a b bs e in
    both (s a b f.0) (both f.1 (keeps step step' ends ends' s n b bs f.2))

-- ---- reaching, and the other way round

module _ (step : ℕ → ℕ → Bool) where
  pub joined : {a b c : ℕ} → Reach step a b → Reach step b c → Reach step a c
  joined here q = q
  joined (more s r) q = more s (joined r q)

pub reach-back : (step : ℕ → ℕ → Bool) {a c : ℕ} → Reach step a c → Reach (λ x y. step y x) c a
reach-back step here = here
reach-back step (more s r) = joined (λ x y. step y x) (reach-back step r) (more s here)

-- where each step is reached by other steps, all that is reached is
pub reach-map : {step step' : ℕ → ℕ → Bool} → ((a b : ℕ) → step a b ≡ true → Reach step' a b) → {a c : ℕ} → Reach step a c → Reach step' a c
reach-map f here = here
reach-map {step' = step'} f (more {a} {b} s r) = joined step' (f a b s) (reach-map f r)
