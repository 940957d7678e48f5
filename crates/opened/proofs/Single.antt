-- Any two answers that a question's statement allows are equal, and so is what they leave in the output; an opened sheet answers as the bare words do.
-- Assumes nothing.
use Prim.Native.Nat.{ℕ}
use mathlib.Core.Path.{◌≡◌, sym, subst, ◌∙◌}
use mathlib.Core.List.{List}
use denote.Ref.{Bor}
use Rattle.sheet.specs.Rows.{header_of}
use Rattle.sheet.specs.Named.{seen_at}
use Rattle.question.specs.declared.Question.{Question}
use Rattle.question.specs.declared.Answer.{Answer}
use Rattle.question.specs.Asked.{asked, side_of}
use Rattle.claim.specs.Promises.{TellsPath}
use Rattle.question.proofs.Single.{replies-one}
use Rattle.ask.proofs.Single.{answer-single, joint-single, witness-single}
use Rattle.claim.proofs.Single.{listed-single}
use Rattle.lists.proofs.Single.{persons-single, holders-single, unreached-single, triple-single, pair-single, redundant-single}
use Rattle.opened.specs.declared.Opened.{Opened}
use Rattle.opened.specs.declared.Which.{Which}
use Rattle.opened.specs.declared.Which.TheVariants.{AnswerAtOffice, JointAnswer, Witness, PersonsInCategory, PersonsWithGrant, FoliosOutOfReach, LeastTriple, LeastHolder, RedundantEdges}
use Rattle.opened.specs.Asking.{question_of, Promised}

-- every question but question 4
pub answers_one : (which : Which) (s : List ℕ) (q : Question) (before : List ℕ) {a b : Answer} {after after' : List ℕ} → Promised (question_of which) s q before a after → Promised (question_of which) s q before b after' → (a ≡ b) × (after ≡ after')
unfolding question_of Promised
answers_one AnswerAtOffice s q before x y = (replies-one _ _ (answer-single (asked s q) q.person q.deed q.folio) x.0 y.0, x.1 ∙ sym y.1)
answers_one JointAnswer s q before x y = (replies-one _ _ (joint-single (seen_at s) (header_of s).offices q.rule q.person q.deed q.folio) x.0 y.0, x.1 ∙ sym y.1)
answers_one Witness s q before x y = witness-single (asked s q) (side_of q.kind) q.person q.deed q.folio _ before x y
answers_one PersonsInCategory s q before x y = persons-single (asked s q) _ before q.category x y
answers_one PersonsWithGrant s q before x y = holders-single (asked s q) _ before q.deed q.folio x y
answers_one FoliosOutOfReach s q before x y = unreached-single (asked s q) _ before x y
answers_one LeastTriple s q before x y = triple-single (asked s q) _ before x y
answers_one LeastHolder s q before x y = pair-single (asked s q) _ before q.deed q.other x y
answers_one RedundantEdges s q before x y = redundant-single s q.office _ before x y

-- question 4
pub list-one : (s : List ℕ) (q : Question) (list : List ℕ) {a b : Answer} → TellsPath s q list a → TellsPath s q list b → a ≡ b
list-one s q list x y = replies-one _ _ (listed-single _) x y

-- an opened sheet, made up by hand or not, answers as the words that it holds
pub opened-answers : (which : Which) (o : Opened) (words : Bor (List ℕ)) (q : Question) (before : List ℕ) {a b : Answer} {after after' : List ℕ} → o.words ≡ words → Promised (question_of which) o.words.now q before a after → Promised (question_of which) words.now q before b after' → (a ≡ b) × (after ≡ after')
opened-answers which o words q before {a} {b} {after} {after'} e x = answers_one which words.now q before (subst (λ (r : Bor (List ℕ)). Promised (question_of which) r.now q before a after) e x)

pub opened-list : (o : Opened) (words : Bor (List ℕ)) (q : Question) (list : List ℕ) {a b : Answer} → o.words ≡ words → TellsPath o.words.now q list a → TellsPath words.now q list b → a ≡ b
opened-list o words q list {a} {b} e x = list-one words.now q list (subst (λ (r : Bor (List ℕ)). TellsPath r.now q list a) e x)
