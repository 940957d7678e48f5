-- Numbers as people type them: one or more digits, no zero in front, at most 4,294,967,295.
-- Assumes nothing.
use Rattle.std.specs.Prelude.{ℕ, ◌+◌, ◌-◌, ◌*◌, Bool, cond, not, ◌&&◌, ◌||◌, List, [], ◌∷◌, length, get_or}
use Rattle.sheet.specs.Refusals.{◌is◌, ◌below◌}

-- a byte is one of the digits 0 to 9
abbrev pub is_digit : ℕ → Bool
is_digit b = not (b below 48) && b below 58

-- the digits in front of a text
unfoldable pub digits_of : List ℕ → List ℕ
digits_of [] = []
digits_of (b ∷ t) = cond (is_digit b) (b ∷ digits_of t) []

-- what stands behind them
unfoldable pub behind_digits : List ℕ → List ℕ
behind_digits [] = []
behind_digits (b ∷ t) = cond (is_digit b) (behind_digits t) (b ∷ t)

-- the number that digits write, behind a number already read
unfoldable pub value_from : ℕ → List ℕ → ℕ
value_from n [] = n
value_from n (d ∷ ds) = value_from (10 * n + (d - 48)) ds

-- the number that digits write
abbrev pub value_of : List ℕ → ℕ
value_of ds = value_from 0 ds

-- a number that exceeds a word
abbrev pub too_high : ℕ
too_high = 4294967296

-- 41 a number that is 0, unless it may be, has a leading zero or exceeds 4,294,967,295
unfoldable pub bad_number : Bool → List ℕ → Bool
bad_number zero-serves ds =
    (not zero-serves && value_of ds is 0) ||
    ((get_or ds 0 0 is 48 && 1 below length ds) || not (value_of ds below too_high))
