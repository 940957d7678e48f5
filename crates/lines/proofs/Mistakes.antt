-- The wrong definitions that must-fail edits try, each under its edit's name, and what the request says otherwise.
-- Assumes nothing.
use Prim.Native.Nat.{ℕ}
use mathlib.Core.Path.{◌≡◌, refl}
use mathlib.Core.Bool.{true, false, not, ◌&&◌, ◌||◌}
use mathlib.Core.List.{List, [], ◌∷◌}
use Rattle.lines.specs.Numerals.{digits_of, behind_digits, value_from, value_of, bad_number}
use Rattle.lines.specs.Nine.{characters, nine, of_variant, Fitted, unlike, with_number, fitted, first_fit, said}

abbrev number_before_shape : ℕ → List ℕ → Fitted → Fitted
number_before_shape p [] rest = unlike
number_before_shape p (d ∷ ds) rest = record { fits = bad_number (of_variant p) (d ∷ ds) || rest.fits; good = not (bad_number (of_variant p) (d ∷ ds)) && rest.good; numbers = value_of (d ∷ ds) ∷ rest.numbers }

-- "in this order within a line", 40 before 41: person 0x is not one of the nine
pub number-before-shape : ((number_before_shape 35 (characters "0") (fitted [] (characters "x"))).fits ≡ true) × ((with_number 35 (characters "0") (fitted [] (characters "x"))).fits ≡ false)
    × ((said (characters "person 0x")).fault ≡ 40)
unfolding bad_number value_from said first_fit fitted with_number digits_of behind_digits
number-before-shape = (refl, refl, refl)

abbrev variant_zero_refused : List (List ℕ)
variant_zero_refused =
    characters "person #" ∷
    characters "category #" ∷
    characters "deed #/#" ∷
    characters "folio #" ∷
    characters "in # #" ∷
    characters "within # #" ∷
    characters "grant # #/%" ∷
    characters "ban # #/%" ∷
    characters "applies #/% #" ∷
    []

-- "a deed's variant may be 0": deed 31/0
pub variant-zero-refused : ((first_fit 1 variant_zero_refused (characters "deed 31/0")).fault ≡ 41) × ((first_fit 1 nine (characters "deed 31/0")).fault ≡ 0)
unfolding bad_number value_from first_fit fitted with_number digits_of behind_digits
variant-zero-refused = (refl, refl)
