-- Each wrong definition that a must-fail edit tries, under the edit's name, and what the document says otherwise.
-- The small case: nodes 0, 1 and 2, with a step from 0 to 1, from 1 to 2, and from 0 straight to 2.
-- Assumes nothing.
use Prim.Native.Nat.{ℕ, zero, suc, ◌+◌, ◌<◌, ◌≤◌}
use native.Mathlib.Omega.{arith}
use mathlib.Core.Path.{◌≡◌, refl, ap}
use mathlib.Core.Bool.{Bool, true, false, not, ◌&&◌}
use mathlib.Core.List.{List, [], ◌∷◌}
use lib.ListN.{length, get_or}
use Rattle.paths.specs.Leads.{among, leads}
use Rattle.paths.specs.Reached.{Reached, start, then, Layers, LeastNext}
use Rattle.paths.specs.Best.{Trail, goes, Before, Best}
use Rattle.paths.proofs.Trails.{before-both}

abbrev circles_in_aRing : (ℕ → ℕ → Bool) → (ℕ → Bool) → ℕ → List ℕ → Bool
circles_in_aRing step ends a [] = ends a
circles_in_aRing step ends a (b ∷ bs) = step a b && (not (among b bs) && circles_in_aRing step ends b bs)

-- "the nodes of a path are distinct": from 1 over 2 and back to 1 is no way
pub circles-in-a-ring : (circles_in_aRing (λ x y. true) (λ x. true) 1 (2 ∷ 1 ∷ []) ≡ true) × (leads (λ x y. true) (λ x. true) 1 (2 ∷ 1 ∷ []) ≡ false)
unfolding leads
circles-in-a-ring = (refl, refl)

abbrev Up : ℕ → ℕ → Type 0
Up a b = (a < b) × (b < 3)

abbrev AtZero : ℕ → Type 0
AtZero i = i ≡ 0

abbrev AtTwo : ℕ → Type 0
AtTwo i = i ≡ 2

pub record OneMoreThanTheFewest (R : ℕ → ℕ → Type 0) (S : ℕ → Type 0) (d : List ℕ) : Type 0 where
  pub sound : (i n : ℕ) → get_or d i 0 ≡ suc n → Reached R S n i
  pub least : (i n : ℕ) → Reached R S n i → (0 < get_or d i 0) × (get_or d i 0 ≤ suc (suc n))

-- "the path with fewest nodes": 2 is one step from 0, and would be numbered as by way of 1
pub one-more-than-the-fewest : OneMoreThanTheFewest Up AtZero (1 ∷ 2 ∷ 3 ∷ []) × (Layers Up AtZero (1 ∷ 2 ∷ 3 ∷ []) → ⊥)
one-more-than-the-fewest = (record { sound = sound; least = least }, λ y. let h = y.least 2 1 (then {a = 0} (start refl) (omega arith)) in omega arith)
  where
    sound : (i n : ℕ) → get_or (1 ∷ 2 ∷ 3 ∷ []) i 0 ≡ suc n → Reached Up AtZero n i
    sound zero n e = let z : 0 ≡ n = omega arith in rw (← z) (start refl)
    sound (suc zero) n e = let z : 1 ≡ n = omega arith in rw (← z) (then {a = 0} {i = 1} (start refl) (omega arith))
    sound (suc (suc zero)) n e = let z : 2 ≡ n = omega arith in rw (← z) (then {a = 1} {i = 2} (then {a = 0} {i = 1} (start refl) (omega arith)) (omega arith))
    sound (suc (suc (suc i))) n e = absurd (omega arith)

    far : {n i : ℕ} → Reached Up AtZero n i → (i < 3) × (i ≤ n + n)
    far (start e) = omega arith
    far (then r st) = omega arith

    least : (i n : ℕ) → Reached Up AtZero n i → (0 < get_or (1 ∷ 2 ∷ 3 ∷ []) i 0) × (get_or (1 ∷ 2 ∷ 3 ∷ []) i 0 ≤ suc (suc n))
    least zero n r = omega arith
    least (suc zero) n r = omega arith
    least (suc (suc zero)) n r = let h = far r in omega arith
    least (suc (suc (suc i))) n r = let h = far r in absurd (omega arith)

pub record OneNodeMore (R : ℕ → ℕ → Type 0) (T : ℕ → Type 0) (a : ℕ) (l : List ℕ) : Type 0 where
  pub leads : Trail R T a l
  pub short : (l' : List ℕ) → Trail R T a l' → length l ≤ length (0 ∷ l')
  pub first : (l' : List ℕ) → Trail R T a l' → length l' ≡ length l → Before l l'

-- "the path with fewest nodes": 0 and 2, and not 0, 1 and 2
pub one-node-more : OneNodeMore Up AtTwo 0 (0 ∷ 1 ∷ 2 ∷ []) × (Best Up AtTwo 0 (0 ∷ 1 ∷ 2 ∷ []) → ⊥)
one-node-more = (record { leads = detour; short = λ l' w. short w refl; first = λ l' w. first w refl }, λ y. let h = y.short (0 ∷ 2 ∷ []) straight in omega arith)
  where
    detour : Trail Up AtTwo 0 (0 ∷ 1 ∷ 2 ∷ [])
    detour = goes {a = 0} {b = 1} (omega arith) (goes {a = 1} {b = 2} (omega arith) (Trail.ends refl))

    straight : Trail Up AtTwo 0 (0 ∷ 2 ∷ [])
    straight = goes {a = 0} {b = 2} (omega arith) (Trail.ends refl)

    some : {a : ℕ} {l : List ℕ} → Trail Up AtTwo a l → 1 ≤ length l
    some (Trail.ends e) = omega arith
    some (goes st w) = omega arith

    short : {a : ℕ} {l : List ℕ} → Trail Up AtTwo a l → a ≡ 0 → 3 ≤ suc (length l)
    short (Trail.ends e) z = absurd (omega arith)
    short (goes st w) z = let h = some w in omega arith

    first : {a : ℕ} {l : List ℕ} → Trail Up AtTwo a l → a ≡ 0 → length l ≡ 3 → Before (0 ∷ 1 ∷ 2 ∷ []) l
    first (Trail.ends e) z n = absurd (omega arith)
    first (goes st (Trail.ends e)) z n = absurd (omega arith)
    first (goes {a} {b} st (goes {b = c} st' (Trail.ends e))) z n = let z' : b ≡ 1 = omega arith in rw (z, z', e) (Before.same (Before.same (Before.same Before.none)))
    first (goes st (goes st' (goes st'' w))) z n = let h = some w in absurd (omega arith)

pub data LaterIsBefore : List ℕ → List ℕ → Type 0 where
  none : {l : List ℕ} → LaterIsBefore [] l
  less : {a b : ℕ} {l l' : List ℕ} → b < a → LaterIsBefore (a ∷ l) (b ∷ l')
  same : {a : ℕ} {l l' : List ℕ} → LaterIsBefore l l' → LaterIsBefore (a ∷ l) (a ∷ l')

-- "the first in dictionary order": 21 is before 22
pub later-is-before : LaterIsBefore (22 ∷ []) (21 ∷ []) × (Before (22 ∷ []) (21 ∷ []) → ⊥)
later-is-before = (less {a = 22} {b = 21} (omega arith), λ h. let e = ap (λ l. get_or l 0 0) (before-both h (Before.less {a = 21} {b = 22} (omega arith))) in omega arith)

pub record GreatestNext (limit : ℕ) (R : ℕ → ℕ → Type 0) (d : List ℕ) (a w r : ℕ) : Type 0 where
  pub most : r ≤ limit
  pub found : r < limit → (get_or d r 0 ≡ w) × R a r
  pub low : (b : ℕ) → R a b → get_or d b 0 ≡ w → b ≤ r

-- "the first in dictionary order": where 1 and 2 are as near, the next is 1
pub greatest-next : GreatestNext 3 Up (2 ∷ 1 ∷ 1 ∷ []) 0 1 2 × (LeastNext 3 Up (2 ∷ 1 ∷ 1 ∷ []) 0 1 2 → ⊥)
greatest-next = (record { most = omega arith; found = λ h. (refl, omega arith); low = λ b u e. omega arith }, λ y. let h = y.low 1 (omega arith) refl in omega arith)
