-- The wrong order of digits that a must-fail edit tries, under the edit's name, and what the document says otherwise.
-- Assumes nothing.
use Prim.Native.Nat.{ℕ, zero, suc, ◌+◌, ◌/◌, ◌%◌}
use mathlib.Core.Path.{◌≡◌, refl}
use mathlib.Core.Bool.{cond}
use mathlib.Core.List.{List, [], ◌∷◌, ◌++◌}
use lib.Dec.{ltb}
use Rattle.text.specs.Growing.{digits_by}

abbrev lowest_digit_first : ℕ → ℕ → List ℕ
lowest_digit_first zero n = (48 + n % 10) ∷ []
lowest_digit_first (suc k) n = ((48 + n % 10) ∷ []) ++ cond (ltb n 10) [] (lowest_digit_first k (n / 10))

-- "refused N sheet S row R": of refusal 17 the characters 1 and 7, in this order
pub lowest-digit-first : (lowest_digit_first 17 17 ≡ 55 ∷ 49 ∷ []) × (digits_by 17 17 ≡ 49 ∷ 55 ∷ [])
unfolding digits_by
lowest-digit-first = (refl, refl)
