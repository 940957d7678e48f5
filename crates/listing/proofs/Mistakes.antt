-- The wrong order of refusals that a must-fail edit tries, under the edit's name, and what the request says otherwise.
-- Assumes nothing.
use mathlib.Core.Path.{◌≡◌, refl}
use mathlib.Core.List.{List, [], ◌∷◌}
use lib.ListN.{length}
use Rattle.tables.specs.Count.{how_many, some_row}
use Rattle.sheet.specs.declared.Refusal.{Refusal}
use Rattle.sheet.specs.Refusals.{none, refuse, ◌then◌, first_row, ◌when◌otherwise◌, ◌or_else◌}
use Rattle.lines.specs.declared.Line.{Line}
use Rattle.lines.specs.Naming.{from_line, to_line}
use Rattle.listing.specs.Faults.{says_this, line_fault, end_fault, node_lines, edge_lines, count_fault, lines_fault}

abbrev missing_end_first : List Line → Refusal
missing_end_first ls = first_row 0 (end_fault ls) 0 (length ls) then first_row 0 (line_fault ls) 0 (length ls) then refuse (count_fault ls) 0 0 none

-- in 11 21
abbrev in_line : Line
in_line = record { fault = 0; form = 5; first = 11; second = 21; third = 0 }

-- "after the last line 43": in 11 21 twice is refused by 42 at line 1, and not by the ends that line 0 lacks
pub missing-end-first : (missing_end_first (in_line ∷ in_line ∷ []) ≡ record { number = 43; sheet = 0; row = 0 }) × (lines_fault (in_line ∷ in_line ∷ []) ≡ record { number = 42; sheet = 0; row = 1 })
unfolding lines_fault line_fault end_fault count_fault node_lines edge_lines says_this from_line to_line refuse ◌then◌ first_row ◌when◌otherwise◌ ◌or_else◌ how_many some_row
missing-end-first = (refl, refl)
