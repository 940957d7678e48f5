-- What questions 1 to 3 promise, each in one relation. `after` is what is refused before the question's own refusal: a sheet's, or its file's.
-- Assumes nothing.
use Rattle.std.specs.Prelude.{ℕ, ◌≡◌, List}
use Rattle.sheet.specs.declared.Refusal.{Refusal}
use Rattle.sheet.specs.Rows.{header_of}
use Rattle.sheet.specs.Named.{seen_at}
use Rattle.meaning.specs.Answers.{AnswerIs, JointAnswerIs}
use Rattle.meaning.specs.Questions.{WitnessIs}
use Rattle.question.specs.declared.Question.{Question}
use Rattle.question.specs.declared.Answer.{Answer}
use Rattle.question.specs.Asked.{asked, ask_fault, joint_fault, after_sheet, side_of}
use Rattle.question.specs.Replies.{Replies, Shows}

-- question 1: the answer at an office, as a number
abbrev pub AnswersAtOffice : (ℕ → Refusal) → List ℕ → Question → Answer → Type 0
AnswersAtOffice after s q a = Replies (after (ask_fault s q)) (λ value count. AnswerIs (asked s q) q.person q.deed q.folio value × (count ≡ 0)) a

-- question 2: the joint answer, and the deciding office
abbrev pub AnswersJointly : (ℕ → Refusal) → List ℕ → Question → Answer → Type 0
AnswersJointly after s q a = Replies (after (joint_fault s q)) (λ value count. JointAnswerIs (seen_at s) (header_of s).offices q.rule q.person q.deed q.folio (record { answer = value; office = count })) a

-- question 3: the words of the witness of a grant or a ban
abbrev pub WitnessOf : List ℕ → Question → List ℕ → Type 0
WitnessOf s q ws = WitnessIs (asked s q) (side_of q.kind) q.person q.deed q.folio ws

-- .. which are shown in the lent output
abbrev pub Witnesses : List ℕ → Question → List ℕ → Answer → List ℕ → Type 0
Witnesses s q out a out' = Shows (after_sheet s (ask_fault s q)) (WitnessOf s q) out a out'
