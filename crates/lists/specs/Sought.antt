-- What questions 5 to 10 refuse, in the table's order, and what each gives.
-- Assumes nothing.
use Rattle.std.specs.Prelude.{ℕ, ◌<◌, ◌≡◌, true, false, not, List, Option, Result, Ok, Err}
use Rattle.sheet.specs.Kinds.{category_type, deed_type, folio_type}
use Rattle.sheet.specs.Refusals.{◌is◌, ◌when◌otherwise◌, ◌or_else◌}
use Rattle.sheet.specs.Rows.{header_of}
use Rattle.sheet.specs.declared.fault.Fault.{Fault}
use Rattle.sheet.specs.FaultNumbers.{fault_number}
use Rattle.meaning.specs.Questions.{PersonsInCategoryAre, PersonsWithGrantAre, FoliosOutOfReachAre, LeastTripleIs, LeastHolderIs, RedundantEdgesAre}
use Rattle.question.specs.declared.Question.{Question}
use Rattle.question.specs.declared.office.OfficeSheet.{OfficeSheet}
use Rattle.question.specs.Asked.{asked, stands, known, bad_office}
use Rattle.reach.specs.Finds.{Finds}
use Rattle.lists.specs.declared.Search.{Search}
use Rattle.lists.specs.declared.Search.TheVariants.{PersonsInCategory, PersonsWithGrant, FoliosOutOfReach, LeastTriple, LeastHolder, RedundantEdges}

-- question 5: 24 unknown category
unfoldable pub unknown_category : List ℕ → Question → ℕ
unknown_category s q = 24 when not (known s false q.office category_type q.category) otherwise 0

-- question 6: 22 unknown deed, 23 unknown folio
unfoldable pub unknown_right : List ℕ → Question → ℕ
unknown_right s q = 22 when not (known s false q.office deed_type q.deed) otherwise 23 when not (known s false q.office folio_type q.folio) otherwise 0

-- question 9: 22 for either deed, then 31 for equal deeds
unfoldable pub bad_pair : List ℕ → Question → ℕ
bad_pair s q = 22 when not (known s false q.office deed_type q.deed) otherwise 22 when not (known s false q.office deed_type q.other) otherwise 31 when q.deed is q.other otherwise 0

-- what each question refuses of what it names
abbrev pub asked_fault : Search → List ℕ → Question → ℕ
asked_fault PersonsInCategory s q = unknown_category s q
asked_fault PersonsWithGrant s q = unknown_right s q
asked_fault FoliosOutOfReach s q = 0
asked_fault LeastTriple s q = 0
asked_fault LeastHolder s q = bad_pair s q
asked_fault RedundantEdges s q = 0

-- .. after the office's number
abbrev pub sought_fault : Search → List ℕ → Question → ℕ
sought_fault PersonsInCategory s q = bad_office (header_of s) q.office or_else unknown_category s q
sought_fault PersonsWithGrant s q = bad_office (header_of s) q.office or_else unknown_right s q
sought_fault FoliosOutOfReach s q = bad_office (header_of s) q.office
sought_fault LeastTriple s q = bad_office (header_of s) q.office
sought_fault LeastHolder s q = bad_office (header_of s) q.office or_else bad_pair s q
sought_fault RedundantEdges s q = bad_office (header_of s) q.office

-- what each question gives
abbrev pub sought_is : Search → List ℕ → Question → List ℕ → Type 0
sought_is PersonsInCategory s q = PersonsInCategoryAre (asked s q) q.category
sought_is PersonsWithGrant s q = PersonsWithGrantAre (asked s q) q.deed q.folio
sought_is FoliosOutOfReach s q = FoliosOutOfReachAre (asked s q)
sought_is LeastTriple s q = LeastTripleIs (asked s q)
sought_is LeastHolder s q = LeastHolderIs (asked s q) q.deed q.other
sought_is RedundantEdges s q = RedundantEdgesAre s q.office

-- ---- as the code tells it

-- what refuses, by its number; 0 where nothing does
abbrev pub fault_in : {A : Type 0} → Result A Fault → ℕ
fault_in (Ok x) = 0
fault_in (Err f) = fault_number f

-- a row of a type and number that the office knows, or the fault that it knows none
abbrev pub StandsOr : OfficeSheet → ℕ → ℕ → Fault → Result ℕ Fault → Type 0
StandsOr o class number fault (Ok i) = (known o.sheet.words.now false o.seat.office class number ≡ true) × (i < o.sheet.header.nodes) × (stands o.sheet.words.now false o.seat.office class number i ≡ true)
StandsOr o class number fault (Err f) = (known o.sheet.words.now false o.seat.office class number ≡ false) × (f ≡ fault)

-- words of which R holds in front of a list, none where there is nothing, or what refuses the question
abbrev pub FindsOr : ℕ → (List ℕ → Type 0) → List ℕ → Result (Option ℕ) Fault → Type 0
FindsOr number R list (Ok found) = (number ≡ 0) × Finds R list found
FindsOr number R list (Err f) = fault_number f ≡ number
