-- The wrong order that a must-fail edit tries, under the edit's name, and what the document says otherwise.
-- Assumes nothing.
use Prim.Native.Nat.{ℕ}
use mathlib.Core.Path.{◌≡◌, refl}
use mathlib.Core.List.{List, [], ◌∷◌}
use Rattle.sheet.specs.declared.Refusal.{Refusal}
use Rattle.sheet.specs.Refusals.{◌when◌otherwise◌, ◌or_else◌, refuse, ◌then◌}
use Rattle.sheet.specs.Verdict.{sheet_fault, rows_verdict, verdict}
use Rattle.files.specs.Bytes.{words_of, bytes_fault, bytes_verdict}
use Rattle.question.specs.Asked.{after_sheet}
use Rattle.counter.specs.Filed.{after_file}

abbrev words_judged_before33 : List ℕ → ℕ → Refusal
words_judged_before33 file k = after_sheet (words_of file) k then bytes_verdict 1 file

-- the table's order: a file of one byte is refused by 33, and not by 1 for its words, of which it has none
pub words-judged-before-33 : ((words_judged_before33 (0 ∷ []) 0).number ≡ 1) × ((after_file (0 ∷ []) 0).number ≡ 33)
unfolding after_file after_sheet bytes_verdict bytes_fault words_of verdict rows_verdict sheet_fault refuse ◌then◌ ◌or_else◌ ◌when◌otherwise◌
words-judged-before-33 = (refl, refl)
