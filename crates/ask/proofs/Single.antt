-- Any two answers that a statement allows are equal, and so is what they leave in the output.
-- Assumes nothing.
use Prim.Native.Nat.{ℕ}
use mathlib.Core.Path.{◌≡◌, sym, ap, ap₂, ◌∙◌}
use mathlib.Core.List.{List}
use Rattle.sheet.specs.declared.Refusal.{Refusal}
use Rattle.tables.specs.Office.{View}
use Rattle.meaning.specs.Paths.{Side}
use Rattle.meaning.specs.Answers.{AnswerIs, Joint, JointAnswerIs}
use Rattle.meaning.specs.Questions.{WitnessIs}
use Rattle.meaning.proofs.Unique.{answer-one, joint-answer-one, witness-one}
use Rattle.question.specs.declared.Answer.{Answer}
use Rattle.question.proofs.Single.{shows-one}
use Rattle.question.specs.Replies.{tells, Shows}

-- question 1
pub answer-single : (g : View) (p d f : ℕ) (v c v' c' : ℕ) → AnswerIs g p d f v × (c ≡ 0) → AnswerIs g p d f v' × (c' ≡ 0) → tells v c ≡ tells v' c'
answer-single g p d f v c v' c' a b = ap₂ tells (answer-one g p d f v v' a.0 b.0) (a.1 ∙ sym b.1)

-- question 2
pub joint-single : (at : ℕ → View) (n rule p d f : ℕ) (v c v' c' : ℕ) → JointAnswerIs at n rule p d f (record { answer = v; office = c }) → JointAnswerIs at n rule p d f (record { answer = v'; office = c' }) → tells v c ≡ tells v' c'
joint-single at n rule p d f v c v' c' a b = ap (λ (j : Joint). tells j.answer j.office) (joint-answer-one at n rule p d f (record { answer = v; office = c }) (record { answer = v'; office = c' }) a b)

-- question 3
pub witness-single : (g : View) (side : Side) (p d f : ℕ) (r : Refusal) (out : List ℕ) {a b : Answer} {o o' : List ℕ} → Shows r (WitnessIs g side p d f) out a o → Shows r (WitnessIs g side p d f) out b o' → (a ≡ b) × (o ≡ o')
witness-single g side p d f r out = shows-one r (WitnessIs g side p d f) (witness-one g side p d f) out
