-- Ways over any relation of numbers: reached in some steps, and by a list of distinct numbers.
-- Assumes nothing.
use Rattle.std.specs.Prelude.{ℕ, ◌≡◌, Bool, true, false, not, ◌&&◌, ◌||◌, List, [], ◌∷◌, eqb}

-- a number is in the list
abbrev pub among : ℕ → List ℕ → Bool
among a [] = false
among a (b ∷ bs) = eqb a b || among a bs

-- from a by the numbers of the list, each a step from the one before, all distinct, to one at which the way may end
unfoldable pub leads : (ℕ → ℕ → Bool) → (ℕ → Bool) → ℕ → List ℕ → Bool
leads step ends a [] = ends a
leads step ends a (b ∷ bs) = step a b && (not (among a (b ∷ bs)) && leads step ends b bs)

-- c is reached from a in zero or more steps
pub data Reach (step : ℕ → ℕ → Bool) : ℕ → ℕ → Type 0 where
  here : {a : ℕ} → Reach step a a
  more : {a b c : ℕ} → step a b ≡ true → Reach step b c → Reach step a c

-- c is reached from a in one or more steps
pub record Beyond (step : ℕ → ℕ → Bool) (a c : ℕ) : Type 0 where
  pub next : ℕ
  pub first : step a next ≡ true
  pub rest : Reach step next c
