-- What a question promises, by the document's number of it.
-- Assumes nothing.
use Rattle.std.specs.Prelude.{ℕ, ◌≡◌, Bool, true, false, List}
use Rattle.sheet.specs.Refusals.{◌is◌}
use Rattle.question.specs.declared.Question.{Question}
use Rattle.question.specs.declared.Answer.{Answer}
use Rattle.question.specs.Asked.{after_sheet}
use Rattle.ask.specs.Promises.{AnswersAtOffice, AnswersJointly, Witnesses}
use Rattle.lists.specs.Promises.{ListsPersonsInCategory, ListsPersonsWithGrant, ListsFoliosOutOfReach, ShowsLeastTriple, ShowsLeastHolder, ListsRedundantEdges}
use Rattle.opened.specs.declared.Which.{Which}
use Rattle.opened.specs.declared.Which.TheVariants.{AnswerAtOffice, JointAnswer, Witness, PersonsInCategory, PersonsWithGrant, FoliosOutOfReach, LeastTriple, LeastHolder, RedundantEdges}

-- a choice by a test
abbrev pub chosen : {A : Type 1} → Bool → A → A → A
chosen true a b = a
chosen false a b = b

-- the document's number of each question
unfoldable pub question_of : Which → ℕ
question_of AnswerAtOffice = 1
question_of JointAnswer = 2
question_of Witness = 3
question_of PersonsInCategory = 5
question_of PersonsWithGrant = 6
question_of FoliosOutOfReach = 7
question_of LeastTriple = 8
question_of LeastHolder = 9
question_of RedundantEdges = 10

-- what the question of a number promises of the words s, of the output before and of the output after
unfoldable pub Promised : ℕ → List ℕ → Question → List ℕ → Answer → List ℕ → Type 0
Promised number s q before a after =
    chosen (number is 1) (AnswersAtOffice (after_sheet s) s q a × (after ≡ before))
    (chosen (number is 2) (AnswersJointly (after_sheet s) s q a × (after ≡ before))
    (chosen (number is 3) (Witnesses s q before a after)
    (chosen (number is 5) (ListsPersonsInCategory s q before a after)
    (chosen (number is 6) (ListsPersonsWithGrant s q before a after)
    (chosen (number is 7) (ListsFoliosOutOfReach s q before a after)
    (chosen (number is 8) (ShowsLeastTriple s q before a after)
    (chosen (number is 9) (ShowsLeastHolder s q before a after)
    (ListsRedundantEdges s q before a after))))))))
