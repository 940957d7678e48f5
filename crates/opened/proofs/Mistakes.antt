-- The wrong numbers that a must-fail edit tries, under the edit's name, and what the document says otherwise.
-- Assumes nothing.
use Prim.Native.Nat.{ℕ}
use mathlib.Core.Path.{◌≡◌, refl}
use Rattle.opened.specs.declared.Which.{Which}
use Rattle.opened.specs.declared.Which.TheVariants.{AnswerAtOffice, JointAnswer, Witness, PersonsInCategory, PersonsWithGrant, FoliosOutOfReach, LeastTriple, LeastHolder, RedundantEdges}
use Rattle.opened.specs.Asking.{question_of}

abbrev numbers_swapped : Which → ℕ
numbers_swapped AnswerAtOffice = 2
numbers_swapped JointAnswer = 1
numbers_swapped Witness = 3
numbers_swapped PersonsInCategory = 5
numbers_swapped PersonsWithGrant = 6
numbers_swapped FoliosOutOfReach = 7
numbers_swapped LeastTriple = 8
numbers_swapped LeastHolder = 9
numbers_swapped RedundantEdges = 10

-- "1. Answer at an office. 2. JointAnswer answer and deciding office."
pub numbers-swapped : (numbers_swapped AnswerAtOffice ≡ 2) × (numbers_swapped JointAnswer ≡ 1) × (question_of AnswerAtOffice ≡ 1) × (question_of JointAnswer ≡ 2)
unfolding question_of
numbers-swapped = (refl, refl, refl, refl)
