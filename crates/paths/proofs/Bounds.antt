-- No node's number is above the count of nodes: every lower number is some node's.
-- Assumes nothing.
use Prim.Native.Nat.{ℕ, zero, suc, ◌+◌, ◌<◌, ◌≤◌}
use native.Mathlib.Omega.{arith}
use native.Mathlib.Decide.{dec_lt}
use mathlib.Core.Path.{◌≡◌, refl}
use mathlib.Core.Bool.{Bool, true, false, cond}
use mathlib.Core.List.{List, [], ◌∷◌}
use lib.Dec.{ltb}
use lib.ListN.{length, get_or}
use borrow.Author.Tests.{lt-ltb, le-ltb}
use Rattle.paths.specs.Reached.{Reached, then, Layers}

-- how many numbers of a list are not above v
at_most : ℕ → List ℕ → ℕ
at_most v [] = 0
at_most v (x ∷ d) = cond (ltb v x) 0 1 + at_most v d

at-most-all : (v : ℕ) (d : List ℕ) → at_most v d ≤ length d
unfolding at_most
at-most-all v [] = omega arith
at-most-all v (x ∷ d) = go (ltb v x) (at-most-all v d)
  where
    go : (b : Bool) → at_most v d ≤ length d → cond b 0 1 + at_most v d ≤ suc (length d)
    go true h = omega arith
    go false h = omega arith

one_below : (v x : ℕ) → cond (ltb v x) 0 1 ≤ cond (ltb (suc v) x) 0 1
one_below v x = go (dec_lt v x)
  where
    go : Dec (v < x) → cond (ltb v x) 0 1 ≤ cond (ltb (suc v) x) 0 1
    go (yes l) = rw (lt-ltb v x l) (omega arith)
    go (no l) = rw (le-ltb v x (omega arith), le-ltb (suc v) x (omega arith)) (omega arith)

at-most-more : (v : ℕ) (d : List ℕ) → at_most v d ≤ at_most (suc v) d
unfolding at_most
at-most-more v [] = omega arith
at-most-more v (x ∷ d) = omega (arith, one_below v x, at-most-more v d)

-- a number that is there counts
at_most_new : (v : ℕ) (d : List ℕ) (i : ℕ) → get_or d i 0 ≡ suc v → suc (at_most v d) ≤ at_most (suc v) d
unfolding at_most
at_most_new v [] i e = absurd (omega (arith, e))
at_most_new v (x ∷ d) zero e = rw (lt-ltb v x (omega (arith, e)), le-ltb (suc v) x (omega (arith, e))) (omega (arith, at-most-more v d))
at_most_new v (x ∷ d) (suc i) e = omega (arith, one_below v x, at_most_new v d i e)

abbrev Occurs : List ℕ → ℕ → Type 0
Occurs d u = (i : ℕ) × (get_or d i 0 ≡ u)

all-occur : (d : List ℕ) (v : ℕ) → ((u : ℕ) → 0 < u → u ≤ v → Occurs d u) → v ≤ at_most v d
all-occur d zero h = omega arith
all-occur d (suc v) h =
    let o = h (suc v) (omega arith) (omega arith) in
    let a = all-occur d v (λ u p q. h u p (omega arith)) in
    omega (arith, at_most_new v d o.0 o.1)

module _ (R : ℕ → ℕ → Type 0) (S : ℕ → Type 0) (d : List ℕ) (y : Layers R S d) where
  before-it : {n i : ℕ} → Reached R S (suc n) i → get_or d i 0 ≡ suc (suc n) → Occurs d (suc n)
  before-it {n} {i} (then {a = a} w st) e =
      let p = y.least a n w in
      let p0 = p.0 in
      let p1 = p.1 in
      (a, go (zero-less (get_or d a 0) p0) p1)
    where
      zero-less : (m : ℕ) → 0 < m → (u : ℕ) × (m ≡ suc u)
      zero-less zero h = absurd (omega (arith, h))
      zero-less (suc u) h = (u, refl)

      go : (u : ℕ) × (get_or d a 0 ≡ suc u) → get_or d a 0 ≤ suc n → get_or d a 0 ≡ suc n
      go u h =
          let u1 = u.1 in
          let r = y.least i (suc u.0) (then (y.sound a u.0 u1) st) in
          let r1 = r.1 in
          omega arith

  lower-occur : (n i : ℕ) → get_or d i 0 ≡ suc n → (u : ℕ) → 0 < u → u ≤ suc n → Occurs d u
  lower-occur n i e u p q = go n i e q (dec_lt u (suc n))
    where
      go : (n i : ℕ) → get_or d i 0 ≡ suc n → u ≤ suc n → Dec (u < suc n) → Occurs d u
      go zero i e q l = (i, omega arith)
      go (suc n) i e q (no l) = (i, omega arith)
      go (suc n) i e q (yes l) = let o = before-it (y.sound i (suc n) e) e in go n o.0 o.1 (omega arith) (dec_lt u (suc n))

  pub number_bound : (i : ℕ) → get_or d i 0 ≤ length d
  number_bound i = go (get_or d i 0) refl
    where
      go : (v : ℕ) → get_or d i 0 ≡ v → get_or d i 0 ≤ length d
      go zero e = omega arith
      go (suc n) e = let a = all-occur d (suc n) (lower-occur n i e) in omega (arith, at-most-all (suc n) d)
