-- The request's nine lines, each written and read. By computing.
-- Assumes nothing.
use Prim.Native.Nat.{ℕ}
use Prim.Native.String as String
use mathlib.Core.Path.{◌≡◌, refl}
use mathlib.Core.List.{◌++◌}
use Rattle.text.specs.Growing.{digits_by, decimal, end_of_line}
use Rattle.lines.specs.declared.Line.{Line}
use Rattle.lines.specs.Numerals.{digits_of, behind_digits, value_from, bad_number}
use Rattle.lines.specs.Nine.{characters, faulty, with_number, fitted, first_fit, said, spelled_by, line_text}

-- a line of a form, with its numbers
abbrev line_with : ℕ → ℕ → ℕ → ℕ → Line
line_with form first second third = record { fault = 0; form = form; first = first; second = second; third = third }

-- a text is what is written of a line, and says that line
abbrev WrittenAndRead : String.String → Line → Type 0
WrittenAndRead text l = (line_text l ≡ characters text ++ end_of_line) × (said (characters text) ≡ l)

pub nine-examples : WrittenAndRead "person 11" (line_with 1 11 0 0) × WrittenAndRead "category 21" (line_with 2 21 0 0) × WrittenAndRead "deed 31/1" (line_with 3 31 1 0) × WrittenAndRead "folio 41" (line_with 4 41 0 0) ×
    WrittenAndRead "in 11 21" (line_with 5 11 21 0) × WrittenAndRead "within 21 22" (line_with 6 21 22 0) × WrittenAndRead "grant 22 31/1" (line_with 7 22 31 1) × WrittenAndRead "ban 21 31/2" (line_with 8 21 31 2) × WrittenAndRead "applies 31/1 41" (line_with 9 31 1 41)
unfolding decimal digits_by digits_of behind_digits value_from bad_number with_number fitted first_fit said spelled_by line_text
nine-examples = ((refl, refl), (refl, refl), (refl, refl), (refl, refl), (refl, refl), (refl, refl), (refl, refl), (refl, refl), (refl, refl))

-- 40 and 41, as the request has them
pub wrong-examples : (said (characters "person  11") ≡ faulty 40) × (said (characters "deed 31") ≡ faulty 40) × (said (characters "") ≡ faulty 40) × (said (characters "person 0") ≡ faulty 41) × (said (characters "person 011") ≡ faulty 41) × (said (characters "person 4294967296") ≡ faulty 41) × (said (characters "deed 31/00") ≡ faulty 41) × (said (characters "deed 31/0") ≡ line_with 3 31 0 0)
unfolding digits_of behind_digits value_from bad_number with_number fitted first_fit said
wrong-examples = (refl, refl, refl, refl, refl, refl, refl, refl)
