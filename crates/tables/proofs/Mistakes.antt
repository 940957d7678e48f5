-- Each wrong definition that a must-fail edit tries, under the edit's name, and what the document says otherwise.
-- Assumes nothing.
use Prim.Native.Nat.{ℕ}
use mathlib.Core.Path.{◌≡◌, refl}
use mathlib.Core.Bool.{Bool, true, false, ◌&&◌, ◌||◌}
use mathlib.Core.List.{[], ◌∷◌}
use lib.Dec.{ltb, eqb}
use lib.Bits.{bit_and}
use Rattle.tables.specs.Key.{Key, identity, relation, below_key}
use Rattle.tables.specs.Marks.{within}
use Rattle.tables.specs.Office.{Tables, View, some_of, holds, held_by}

abbrev higher_is_lower : Key → Key → Bool
higher_is_lower [] [] = false
higher_is_lower [] (y ∷ ys) = true
higher_is_lower (x ∷ xs) [] = false
higher_is_lower (x ∷ xs) (y ∷ ys) = ltb y x || (eqb x y && higher_is_lower xs ys)

-- "node rows rise strictly by type, number, variant": sheet A has person 11 before person 12
pub higher-is-lower : (higher_is_lower (identity 1 12 0) (identity 1 11 0) ≡ true) × (below_key (identity 1 12 0) (identity 1 11 0) ≡ false)
higher-is-lower = (refl, refl)

abbrev others_within_marks : ℕ → ℕ → Bool
others_within_marks marks others = eqb (bit_and marks others) others

-- "an edge's offices lie within those of both its ends": no edge of both offices has an end that office 1 alone knows
pub others-within-marks : (others_within_marks 3 1 ≡ true) × (within 3 1 ≡ false)
others-within-marks = (refl, refl)

abbrev any_office_holds : ℕ → Tables → View
any_office_holds office t = record { node = holds office t.nodes; edge = holds 1 t.edges }

-- case 11's (1,1,3,1): person 12 is a member of category 22 at office 1
abbrev membership : Key
membership = relation 1 (identity 1 12 0) (identity 2 22 0)

abbrev tables : Tables
tables = record { offices = 2; nodes = []; edges = record { key = membership; marks = 1 } ∷ [] }

-- "only rows marked with that office count": office 2 holds no such relation
pub any-office-holds : ((any_office_holds 2 tables).edge membership ≡ true) × ((held_by 2 tables).edge membership ≡ false)
unfolding holds some_of held_by
any-office-holds = (refl, refl)
