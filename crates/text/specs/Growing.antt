-- What is put into a text, as the bytes of its characters: a number in decimal, a label with its number, the end of a line.
-- Assumes nothing.
use Rattle.std.specs.Prelude.{ℕ, zero, suc, ◌+◌, ◌/◌, ◌%◌, ◌≡◌, cond, List, [], ◌∷◌, ◌++◌, ltb, length}
use Rattle.std.proofs.lemmas.List.Edits.{sets}

-- a number's digits, the lowest last and no zero in front, by at most k divisions
unfoldable pub digits_by : ℕ → ℕ → List ℕ
digits_by zero n = (48 + n % 10) ∷ []
digits_by (suc k) n = cond (ltb n 10) [] (digits_by k (n / 10)) ++ ((48 + n % 10) ∷ [])

-- a number in decimal
unfoldable pub decimal : ℕ → List ℕ
decimal n = digits_by n n

-- a label and its number
abbrev pub labelled : List ℕ → ℕ → List ℕ
labelled label n = label ++ decimal n

-- the end of a line
abbrev pub end_of_line : List ℕ
end_of_line = 10 ∷ []

-- what is put stands in the text from `at` on and ends at r; all else is as it was
pub record Grows (text : List ℕ) (at : ℕ) (put : List ℕ) (r : ℕ) (text' : List ℕ) : Type 0 where
  pub ends : r ≡ at + length put
  pub holds : text' ≡ sets text at put
