-- What the desks were promised of question 10 (request 2026-02): any one listed edge can go and no answer changes; and what was not promised.
-- Assumes nothing.
use Rattle.std.specs.Prelude.{ℕ, ◌-◌, ◌^◌, ◌<◌, ◌≡◌, true, false, List, [], ◌∷◌, ◌++◌, ◌↔◌}
use Rattle.tables.specs.Key.{Key}
use Rattle.tables.specs.Marks.{marked}
use Rattle.tables.specs.Office.{View, Same}
use Rattle.sheet.specs.Rows.{header_of, edge_table}
use Rattle.sheet.specs.Accepted.{Accepted}
use Rattle.sheet.specs.Named.{edge_row, held_at, seen_at}
use Rattle.paths.specs.Leads.{among}
use Rattle.meaning.specs.Paths.{Side, grant, HasPath}
use Rattle.meaning.specs.Answers.{undetermined_answer, granted_answer, banned_answer, AnswerIs}
use Rattle.meaning.specs.Questions.{AlsoMember, Redundant, RedundantRow, RedundantEdgesAre}
use Rattle.meaning.specs.Removed.{IsRemoved, LacksAtMost}
use Rattle.question.specs.declared.Question.{Question}
use Rattle.question.specs.declared.Answer.{Answer}
use Rattle.question.specs.Asked.{after_sheet}
use Rattle.ask.specs.Promises.{AnswersAtOffice, AnswersJointly}
use Rattle.lists.specs.Promises.{ListsRedundantEdges}
use Rattle.demands.specs.Demands.{front}

-- a row of the sheet that is marked with the office
pub record HeldRow (s : List ℕ) (office j : ℕ) : Type 0 where
  pub accepted : Accepted s
  pub inside : j < (header_of s).edges
  pub bears : marked (edge_row s (edge_table s) j).marks office ≡ true

-- question 10 lists edge row j
pub record Lists (s : List ℕ) (q : Question) (j : ℕ) : Type 0 where
  pub out : List ℕ
  pub answer : Answer
  pub written : List ℕ
  pub replies : ListsRedundantEdges s q out answer written
  pub not-refused : answer.number ≡ 0
  pub listed : among j (front answer written) ≡ true

pub record Pruning : Type 0 where
  -- a marked row can be removed at its office, in one way
  pub can-go : (s : List ℕ) (office j : ℕ) → HeldRow s office j → (t : List ℕ) × IsRemoved s office j t
  pub one_way : (s : List ℕ) (office j : ℕ) (t t' : List ℕ) → IsRemoved s office j t → IsRemoved s office j t' → t ≡ t'
  -- the row goes with its last mark: where no other office marks it, no row of the sheet that is left names its relation
  pub with-last-mark : (s : List ℕ) (office j : ℕ) (t : List ℕ) → HeldRow s office j → IsRemoved s office j t → (edge_row s (edge_table s) j).marks ≡ 2 ^ (office - 1)
      → (u : ℕ) → u < (header_of t).edges → (edge_row t (edge_table t) u).key ≡ (edge_row s (edge_table s) j).key → ⊥
  -- the office then holds the row no more, and every other office sees what it saw
  pub is-gone : (s : List ℕ) (office j : ℕ) (t : List ℕ) → HeldRow s office j → IsRemoved s office j t → (held_at t office).edge (edge_row s (edge_table s) j).key ≡ false
  pub others-see-on : (s : List ℕ) (office j : ℕ) (t : List ℕ) → HeldRow s office j → IsRemoved s office j t → (other : ℕ) → (other ≡ office → ⊥) → Same (seen_at t other) (seen_at s other)
  -- it sees the same identities, and all relations but at most the row's
  pub one_less : (s : List ℕ) (office j : ℕ) (t : List ℕ) → HeldRow s office j → IsRemoved s office j t
      → ((k : Key) → (seen_at t office).node k ≡ (seen_at s office).node k) × LacksAtMost (seen_at s office) (edge_row s (edge_table s) j).key (seen_at t office)
  -- who sees at most a redundant relation less has the same paths
  pub spared : (g h : View) (k : Key) → LacksAtMost g k h → Redundant g k → (side : Side) (p d f : ℕ) → HasPath g side p d f ↔ HasPath h side p d f
  -- so removing any one edge that question 10 lists at an office changes no answer to question 1, at any office, for any person, deed and folio ..
  pub no-answer-changes : (s t : List ℕ) (q : Question) (j : ℕ) → Lists s q j → IsRemoved s q.office j t → (r : Question) {x y : Answer} → AnswersAtOffice (after_sheet s) s r x → AnswersAtOffice (after_sheet t) t r y → x ≡ y
  -- .. and no joint answer
  pub no-joint-answer-changes : (s t : List ℕ) (q : Question) (j : ℕ) → Lists s q j → IsRemoved s q.office j t → (r : Question) {x y : Answer} → AnswersJointly (after_sheet s) s r x → AnswersJointly (after_sheet t) t r y → x ≡ y

-- ==== the request's own case: 11 in 21 and in 22, 21 within 22, a ban on 22

-- person 11, category 21, category 22, deed 31, folio 41
abbrev five_nodes : List ℕ
five_nodes = 1 ∷ 11 ∷ 0 ∷ 1 ∷ 2 ∷ 21 ∷ 0 ∷ 1 ∷ 2 ∷ 22 ∷ 0 ∷ 1 ∷ 3 ∷ 31 ∷ 0 ∷ 1 ∷ 4 ∷ 41 ∷ 0 ∷ 1 ∷ []

unfoldable pub sheet_ban : List ℕ
sheet_ban = 1 ∷ 1 ∷ 5 ∷ 5 ∷ 6 ∷ 26 ∷ (five_nodes ++ (1 ∷ 0 ∷ 1 ∷ 1 ∷ 1 ∷ 0 ∷ 2 ∷ 1 ∷ 2 ∷ 1 ∷ 2 ∷ 1 ∷ 4 ∷ 2 ∷ 3 ∷ 1 ∷ 5 ∷ 3 ∷ 4 ∷ 1 ∷ []))

-- without row 1, 11's membership of 22
unfoldable pub sheet_lost : List ℕ
sheet_lost = 1 ∷ 1 ∷ 5 ∷ 4 ∷ 6 ∷ 26 ∷ (five_nodes ++ (1 ∷ 0 ∷ 1 ∷ 1 ∷ 2 ∷ 1 ∷ 2 ∷ 1 ∷ 4 ∷ 2 ∷ 3 ∷ 1 ∷ 5 ∷ 3 ∷ 4 ∷ 1 ∷ []))

pub record OwnCase : Type 0 where
  -- the old rule lists it, as 11 is in 21 and 21 is within 22
  pub old-rule : AlsoMember (seen_at sheet_ban 1) grant 11 22
  -- .. and loses the ban
  pub removed : IsRemoved sheet_ban 1 1 sheet_lost
  pub before : AnswerIs (seen_at sheet_ban 1) 11 31 41 banned_answer
  pub after : AnswerIs (seen_at sheet_lost 1) 11 31 41 undetermined_answer
  -- the new rule does not list it, nor any other row
  pub new-rule : RedundantEdgesAre sheet_ban 1 []

-- ==== what is not promised: of two listed edges each may be the reason for the other

-- 11 in 21 and in 22, which are within each other, and a grant to 21
unfoldable pub sheet_ring : List ℕ
sheet_ring = 1 ∷ 1 ∷ 5 ∷ 6 ∷ 6 ∷ 26 ∷ (five_nodes ++ (1 ∷ 0 ∷ 1 ∷ 1 ∷ 1 ∷ 0 ∷ 2 ∷ 1 ∷ 2 ∷ 1 ∷ 2 ∷ 1 ∷ 2 ∷ 2 ∷ 1 ∷ 1 ∷ 3 ∷ 1 ∷ 3 ∷ 1 ∷ 5 ∷ 3 ∷ 4 ∷ 1 ∷ []))

-- without 11's membership of 21, and then without that of 22
unfoldable pub sheet_one : List ℕ
sheet_one = 1 ∷ 1 ∷ 5 ∷ 5 ∷ 6 ∷ 26 ∷ (five_nodes ++ (1 ∷ 0 ∷ 2 ∷ 1 ∷ 2 ∷ 1 ∷ 2 ∷ 1 ∷ 2 ∷ 2 ∷ 1 ∷ 1 ∷ 3 ∷ 1 ∷ 3 ∷ 1 ∷ 5 ∷ 3 ∷ 4 ∷ 1 ∷ []))

unfoldable pub sheet_none : List ℕ
sheet_none = 1 ∷ 1 ∷ 5 ∷ 4 ∷ 6 ∷ 26 ∷ (five_nodes ++ (2 ∷ 1 ∷ 2 ∷ 1 ∷ 2 ∷ 2 ∷ 1 ∷ 1 ∷ 3 ∷ 1 ∷ 3 ∷ 1 ∷ 5 ∷ 3 ∷ 4 ∷ 1 ∷ []))

pub record NotBoth : Type 0 where
  pub listed : RedundantRow sheet_ring 1 0 × RedundantRow sheet_ring 1 1
  pub first_goes : IsRemoved sheet_ring 1 0 sheet_one
  pub second-goes : IsRemoved sheet_one 1 0 sheet_none
  pub before : AnswerIs (seen_at sheet_ring 1) 11 31 41 granted_answer
  pub between : AnswerIs (seen_at sheet_one 1) 11 31 41 granted_answer
  pub after : AnswerIs (seen_at sheet_none 1) 11 31 41 undetermined_answer
