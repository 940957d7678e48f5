-- What questions 1 to 4 refuse, in the table's order.
-- Assumes nothing.
use Rattle.std.specs.Prelude.{ℕ, zero, suc, ◌<◌, ◌≡◌, Bool, true, false, not, ◌&&◌, ◌||◌, List, Result, Ok, Err}
use Rattle.tables.specs.Count.{some_row, FirstStanding}
use Rattle.tables.specs.Key.{identity}
use Rattle.tables.specs.Marks.{marked}
use Rattle.tables.specs.Office.{View}
use Rattle.sheet.specs.Kinds.{person_type, deed_type, folio_type}
use Rattle.sheet.specs.declared.Refusal.{Refusal}
use Rattle.sheet.specs.declared.Header.{Header}
use Rattle.sheet.specs.declared.Seat.{Seat}
use Rattle.sheet.specs.Found.{PlaceIs}
use Rattle.sheet.specs.Refusals.{◌is◌, ◌below◌, ◌when◌otherwise◌, ◌or_else◌, none, refuse, ◌then◌}
use Rattle.sheet.specs.Rows.{header_of, node_at, node_key_at}
use Rattle.sheet.specs.Seats.{seat_at, seen_from}
use Rattle.sheet.specs.Verdict.{verdict}
use Rattle.meaning.specs.Paths.{Side, grant, ban}
use Rattle.meaning.specs.Answers.{grant_first_rule, first_applicable_rule}
use Rattle.question.specs.declared.Question.{Question}

-- kind 0 asks for a grant and any other for a ban
unfoldable pub side_of : ℕ → Side
side_of zero = grant
side_of (suc k) = ban

-- the seat from which a question is asked
abbrev pub seat_for : Question → Seat
seat_for q = seat_at q.office

-- what is seen from there: what the question is about
abbrev pub asked : List ℕ → Question → View
asked s q = seen_from s (seat_for q)

-- node row i has the type and the number, and the office's mark, or any where `any` says so
unfoldable pub stands : List ℕ → Bool → ℕ → ℕ → ℕ → ℕ → Bool
stands s any office class number i = (node_at s i).class is class && ((node_at s i).number is number && (any || marked (node_at s i).offices office))

-- of n node rows, what a search tells: the first that stands, or, where none does, the place of the type and the number without a variant
abbrev pub SoughtIn : List ℕ → Bool → ℕ → ℕ → ℕ → ℕ → Result ℕ ℕ → Type 0
SoughtIn s any office class number n (Ok i) = (i < n) × FirstStanding (stands s any office class number) n i
SoughtIn s any office class number n (Err i) = (some_row (stands s any office class number) n ≡ false) × PlaceIs (node_key_at s) n (identity class number 0) i

-- there is a row of this type and number marked with the office; or, for a joint answer, with any office
unfoldable pub known : List ℕ → Bool → ℕ → ℕ → ℕ → Bool
known s any office class number = some_row (stands s any office class number) (header_of s).nodes

-- 21, 22, 23 unknown person, deed, folio
unfoldable pub unknown : List ℕ → Bool → ℕ → Question → ℕ
unknown s any office q =
    21 when not (known s any office person_type q.person) otherwise
    22 when not (known s any office deed_type q.deed) otherwise
    23 when not (known s any office folio_type q.folio) otherwise
    0

-- 20 office number not 1 to the count
unfoldable pub bad_office : Header → ℕ → ℕ
bad_office h office = 20 when office below 1 || h.offices below office otherwise 0

-- 20, then the unknown to the office: questions 1 and 3
unfoldable pub ask_fault : List ℕ → Question → ℕ
ask_fault s q = bad_office (header_of s) q.office or_else unknown s false q.office q

-- 27 rule number, then the unknown to any office, whichever is named: question 2
unfoldable pub joint_fault : List ℕ → Question → ℕ
joint_fault s q = 27 when q.rule below grant_first_rule || first_applicable_rule below q.rule otherwise unknown s true 1 q

-- a number at place 0, 0
abbrev pub plain : ℕ → Refusal
plain k = refuse k 0 0 none

-- the sheet's own refusal, then the question's
unfoldable pub after_sheet : List ℕ → ℕ → Refusal
after_sheet s k = verdict 1 s then plain k
