-- A case of `Which` and the document's number: what holds of the question of the number holds of the case.
-- Assumes nothing.
use Prim.Native.Nat.{ℕ}
use mathlib.Core.Path.{◌≡◌, sym, subst}
use mathlib.Core.List.{List}
use Rattle.question.specs.declared.Question.{Question}
use Rattle.question.specs.declared.Answer.{Answer}
use Rattle.opened.specs.declared.Which.{Which}
use Rattle.opened.specs.Asking.{question_of, Promised}

pub as-named : (which case : Which) (s : List ℕ) (q : Question) (before : List ℕ) (a : Answer) (after : List ℕ) → which ≡ case → Promised (question_of case) s q before a after → Promised (question_of which) s q before a after
as-named which case s q before a after e = subst (λ (w : Which). Promised (question_of w) s q before a after) (sym e)
