-- What questions 5 to 10 promise, each in one relation: of the sheet's words, what is asked, the lent output before, the answer, and the output after.
-- Assumes nothing.
use Rattle.std.specs.Prelude.{ℕ, List}
use Rattle.sheet.specs.Refusals.{◌or_else◌}
use Rattle.sheet.specs.Rows.{header_of}
use Rattle.meaning.specs.Questions.{PersonsInCategoryAre, PersonsWithGrantAre, FoliosOutOfReachAre, LeastTripleIs, LeastHolderIs, RedundantEdgesAre}
use Rattle.question.specs.declared.Question.{Question}
use Rattle.question.specs.declared.Answer.{Answer}
use Rattle.question.specs.Asked.{asked, bad_office, after_sheet}
use Rattle.question.specs.Replies.{Shows}
use Rattle.lists.specs.Sought.{unknown_category, unknown_right, bad_pair}

-- question 5: the numbers of the persons in a category, rising
abbrev pub ListsPersonsInCategory : List ℕ → Question → List ℕ → Answer → List ℕ → Type 0
ListsPersonsInCategory s q out a out' = Shows (after_sheet s (bad_office (header_of s) q.office or_else unknown_category s q)) (PersonsInCategoryAre (asked s q) q.category) out a out'

-- question 6: the numbers of the persons who have a grant path for a deed and folio, rising
abbrev pub ListsPersonsWithGrant : List ℕ → Question → List ℕ → Answer → List ℕ → Type 0
ListsPersonsWithGrant s q out a out' = Shows (after_sheet s (bad_office (header_of s) q.office or_else unknown_right s q)) (PersonsWithGrantAre (asked s q) q.deed q.folio) out a out'

-- question 7: the numbers of the folios to which no person has a grant path by any deed, rising
abbrev pub ListsFoliosOutOfReach : List ℕ → Question → List ℕ → Answer → List ℕ → Type 0
ListsFoliosOutOfReach s q out a out' = Shows (after_sheet s (bad_office (header_of s) q.office)) (FoliosOutOfReachAre (asked s q)) out a out'

-- question 8: the least triple that is Both
abbrev pub ShowsLeastTriple : List ℕ → Question → List ℕ → Answer → List ℕ → Type 0
ShowsLeastTriple s q out a out' = Shows (after_sheet s (bad_office (header_of s) q.office)) (LeastTripleIs (asked s q)) out a out'

-- question 9: the least person and folio with a grant path for each of two deeds
abbrev pub ShowsLeastHolder : List ℕ → Question → List ℕ → Answer → List ℕ → Type 0
ShowsLeastHolder s q out a out' = Shows (after_sheet s (bad_office (header_of s) q.office or_else bad_pair s q)) (LeastHolderIs (asked s q) q.deed q.other) out a out'

-- question 10: the redundant edges at an office, as edge row indices, rising
abbrev pub ListsRedundantEdges : List ℕ → Question → List ℕ → Answer → List ℕ → Type 0
ListsRedundantEdges s q out a out' = Shows (after_sheet s (bad_office (header_of s) q.office)) (RedundantEdgesAre s q.office) out a out'
