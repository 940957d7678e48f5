-- The duty desk over a sheet: whose answer a question gets, and what refuses a row or a trace.
-- Assumes nothing.
use Rattle.std.specs.Prelude.{ℕ, zero, suc, ◌≡◌, List, [], ◌∷◌}
use Rattle.tables.specs.Office.{View}
use Rattle.sheet.specs.declared.Refusal.{Refusal}
use Rattle.sheet.specs.Refusals.{◌below◌, ◌when◌otherwise◌, none, refuse, ◌then◌}
use Rattle.sheet.specs.Rows.{header_of}
use Rattle.sheet.specs.Verdict.{verdict}
use Rattle.meaning.specs.Answers.{undetermined_answer, AnswerIs}
use Rattle.question.specs.Asked.{plain}
use Rattle.watch.specs.declared.TraceRow.{TraceRow}
use Rattle.watch.specs.Trace.{TraceQuestion}

-- the offices that a question goes to, in order, by how many they are: office 2, then office 1; or office 1 alone
abbrev pub in_turn : ℕ → List ℕ
in_turn zero = []
in_turn (suc zero) = 1 ∷ []
in_turn (suc (suc n)) = 2 ∷ 1 ∷ []

-- the answer of the first of the offices whose answer is not undetermined; undetermined where none is. An office that does not know an identity has no path, so its answer is undetermined
pub data DeskAnswer (at : ℕ → View) (p d f : ℕ) : List ℕ → ℕ → Type 0 where
  nobody : DeskAnswer at p d f [] undetermined_answer
  determined : (k : ℕ) (ks : List ℕ) (r : ℕ) → AnswerIs (at k) p d f r → (r ≡ undetermined_answer → ⊥) → DeskAnswer at p d f (k ∷ ks) r
  passed_on : (k : ℕ) (ks : List ℕ) (r : ℕ) → AnswerIs (at k) p d f undetermined_answer → DeskAnswer at p d f ks r → DeskAnswer at p d f (k ∷ ks) r

-- the answer to a row's question that goes to n offices
abbrev pub RowAnswer : (ℕ → View) → TraceRow → ℕ → ℕ → Type 0
RowAnswer at r n v = DeskAnswer at r.person r.deed r.folio (in_turn n) v

-- one answer for each question of a trace
pub data TraceAnswers (at : ℕ → View) : List TraceQuestion → List ℕ → Type 0 where
  no_more : TraceAnswers at [] []
  one_more : (q : TraceQuestion) (v : ℕ) (qs : List TraceQuestion) (vs : List ℕ) → RowAnswer at q.row q.offices v → TraceAnswers at qs vs → TraceAnswers at (q ∷ qs) (v ∷ vs)

-- the sheet's own refusal, then 3 where it has no office 2
unfoldable pub desk_fault : List ℕ → Refusal
desk_fault s = verdict 1 s then refuse (3 when (header_of s).offices below 2 otherwise 0) 1 0 none

-- .. then the row's or the trace's
unfoldable pub after_desk : List ℕ → ℕ → Refusal
after_desk s k = desk_fault s then plain k
