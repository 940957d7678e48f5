-- One half of two sheets: the rows of both that a walk takes at the next key, and how far it comes by that.
-- Assumes nothing.
use Rattle.std.specs.Prelude.{ℕ, ◌+◌, ◌<◌, ◌≤◌, ◌≡◌, List, Option, Some, None, set}
use Rattle.tables.specs.Table.{Row}
use Rattle.sheet.specs.declared.Cells.{Cells}
use Rattle.sheet.specs.Rows.{count_in, cells_at}
use Rattle.sheet.specs.Named.{row_at}
use Rattle.combine.specs.declared.halves.Halves.{Halves}
use Rattle.combine.specs.declared.meeting.Meeting.{Meeting}
use Rattle.combine.specs.declared.meeting.Meeting.TheVariants.{First, Second, Both}
use Rattle.combine.specs.Rules.{makes}
use Rattle.combine.specs.Halves.{Moves, spelled, kept_rows, Surveyed, Written}

-- how many rows both have
abbrev pub first_count : Halves → ℕ
first_count H = count_in H.half H.first.now.header

abbrev pub second_count : Halves → ℕ
second_count H = count_in H.half H.second.now.header

-- the rows
abbrev pub first_at : Halves → ℕ → Row
first_at H = row_at H.half H.first.now.words.now

abbrev pub second_at : Halves → ℕ → Row
second_at H = row_at H.half H.second.now.words.now

-- ---- a step

-- the first table's row, and the second's, where it has one
abbrev pub first_met : Meeting → Option ℕ
first_met (First i) = Some i
first_met (Second j) = None
first_met (Both i j) = Some i

abbrev pub second_met : Meeting → Option ℕ
second_met (First i) = None
second_met (Second j) = Some j
second_met (Both i j) = Some j

-- how many rows of each are passed then, of which i and j were before
abbrev pub first_after : ℕ → Meeting → ℕ
first_after i (First x) = i + 1
first_after i (Second y) = i
first_after i (Both x y) = i + 1

abbrev pub second_after : ℕ → Meeting → ℕ
second_after j (First x) = j
second_after j (Second y) = j + 1
second_after j (Both x y) = j + 1

-- the rows are the next after these
abbrev pub AreNext : ℕ → ℕ → Meeting → Type 0
AreNext i j (First x) = x ≡ i
AreNext i j (Second y) = y ≡ j
AreNext i j (Both x y) = (x ≡ i) × (y ≡ j)

-- the rows are rows of the half
abbrev pub AreRows : Halves → Meeting → Type 0
AreRows H (First x) = x < first_count H
AreRows H (Second y) = y < second_count H
AreRows H (Both x y) = (x < first_count H) × (y < second_count H)

-- a step after i rows and j
pub record Meets (H : Halves) (i j : ℕ) (step : Meeting) : Type 0 where
  pub rows : AreRows H step
  pub next : AreNext i j step
  pub moves : Moves (first_count H) (first_at H) (second_count H) (second_at H) i j (first_after i step) (second_after j step)

-- .. or none, where all rows are passed
abbrev pub StepFrom : Halves → ℕ → ℕ → Option Meeting → Type 0
StepFrom H i j (Some step) = Meets H i j step
StepFrom H i j None = first_count H + second_count H ≤ i + j

-- how far the walk comes
abbrev pub Comes : ℕ → ℕ → Option Meeting → ℕ → ℕ → Type 0
Comes i j (Some step) i' j' = (i' ≡ first_after i step) × (j' ≡ second_after j step)
Comes i j None i' j' = (i' ≡ i) × (j' ≡ j)

-- the marks that the rule makes of those of the rows
abbrev pub marks_made : Halves → Meeting → ℕ
marks_made H (First x) = makes H.rule (first_at H x).marks 0
marks_made H (Second y) = makes H.rule 0 (second_at H y).marks
marks_made H (Both x y) = makes H.rule (first_at H x).marks (second_at H y).marks

-- the row under such marks, by the first sheet's words where it has one
abbrev pub row_made : Halves → List ℕ → List ℕ → Meeting → Cells
row_made H ma mb (First x) = spelled ma (cells_at H.half H.first.now.words.now x) (marks_made H (First x))
row_made H ma mb (Second y) = spelled mb (cells_at H.half H.second.now.words.now y) (marks_made H (Second y))
row_made H ma mb (Both x y) = spelled ma (cells_at H.half H.first.now.words.now x) (marks_made H (Both x y))

-- a map after a row's place is noted, where there is a row
abbrev pub place_noted : List ℕ → Option ℕ → ℕ → List ℕ
place_noted spots (Some x) place = set spots x place
place_noted spots None place = spots

-- ---- the whole half

-- how many rows the combination has
abbrev pub rows_kept_in : Halves → ℕ
rows_kept_in H = kept_rows H.rule H.half H.first.now.words.now H.first.now.header H.second.now.words.now H.second.now.header

-- its rows are counted, and where both sheets' stand in it is noted
abbrev pub SurveyedIn : Halves → List ℕ → List ℕ → ℕ → Type 0
SurveyedIn H ma mb k = Surveyed H.rule H.half H.first.now.words.now H.first.now.header H.second.now.words.now H.second.now.header ma mb k

-- its words stand in front of the output
abbrev pub WrittenIn : Halves → List ℕ → List ℕ → List ℕ → List ℕ → Type 0
WrittenIn H ma mb out out' = Written H.rule H.half H.first.now.words.now H.first.now.header H.second.now.words.now H.second.now.header ma mb (rows_kept_in H) out out'
