-- The wrong spelling of a row that a must-fail edit tries, under the edit's name, and what the request says otherwise.
-- Assumes nothing.
use Prim.Native.Nat.{ℕ}
use mathlib.Core.Path.{◌≡◌, refl}
use mathlib.Core.List.{List, [], ◌∷◌}
use Rattle.sheet.specs.declared.Cells.{Cells}
use Rattle.combine.specs.Halves.{through, spelled}

abbrev ends_renumbered_twice : List ℕ → Cells → ℕ → Cells
ends_renumbered_twice spots c marks = record { first = c.first; second = through spots (through spots c.second); third = through spots (through spots c.third); offices = marks }

-- person 11 in category 21, rows 0 and 1
abbrev in_row : Cells
in_row = record { first = 1; second = 0; third = 1; offices = 1 }

-- "a new node renumbers edge ends": below a row that is added at place 0, rows 0 to 2 go up by one, and by two if renumbered twice
pub ends-renumbered-twice : (ends_renumbered_twice (1 ∷ 2 ∷ 3 ∷ []) in_row 1 ≡ record { first = 1; second = 2; third = 3; offices = 1 }) × (spelled (1 ∷ 2 ∷ 3 ∷ []) in_row 1 ≡ record { first = 1; second = 1; third = 2; offices = 1 })
unfolding through spelled
ends-renumbered-twice = (refl, refl)
