-- How what was found becomes the answer of a question.
-- Assumes nothing.
use Prim.Native.Nat.{ℕ, ◌≤◌}
use mathlib.Core.Path.{◌≡◌, refl, ap}
use mathlib.Core.List.{List}
use lib.ListN.{length, take}
use Rattle.std.specs.Prelude.{Result, Ok, Err, Option, Some, None}
use Rattle.sheet.specs.declared.fault.Fault.{Fault}
use Rattle.sheet.specs.FaultNumbers.{fault_number}
use Rattle.sheet.specs.Refusals.{none}
use Rattle.question.specs.declared.Answer.{Answer}
use Rattle.question.specs.declared.reply.Told.{Told}
use Rattle.question.specs.Replies.{refused_by, tells, Shows}
use Rattle.question.proofs.Telling.{show-short, show-written, show-missing}
use Rattle.lists.specs.Handed.{Handed, short, written}
use Rattle.sheet.specs.declared.fault.Fault.TheVariants.{NothingFound}
use Rattle.reach.specs.Finds.{Finds}

-- what is told, or refused at place 0, 0
abbrev pub handed_answer : Result Told Fault → Answer
handed_answer (Ok t) = tells t.value t.count
handed_answer (Err f) = refused_by (record { number = fault_number f; sheet = 0; row = 0 })

-- what is handed over is shown
pub handed-shows : (R : List ℕ → Type 0) (found out : List ℕ) → R found → {r : Result Told Fault} {out' : List ℕ} → Handed found out r out' → Shows none R out (handed_answer r) out'
handed-shows R found out x (short l) = show-short R out _ _ found (length found) x refl l refl refl
handed-shows R found out x (written l) = show-written R out _ _ found (length found) x refl l refl refl

-- what was found fits the list
pub finds-room : (R : List ℕ → Type 0) (list : List ℕ) (n : ℕ) → Finds R list (Some n) → n ≤ length list
finds-room R list n x = x.0

-- what a search found in a list is handed over: 26 where it found nothing, and then the output stays as it is
abbrev pub HandedOver : List ℕ → Option ℕ → List ℕ → Result Told Fault → List ℕ → Type 0
HandedOver list (Some n) out r out' = Handed (take n list) out r out'
HandedOver list None out r out' = (r ≡ Err NothingFound) × (out' ≡ out)

-- .. and shown
pub found-shows : (R : List ℕ → Type 0) (list : List ℕ) (found : Option ℕ) (out : List ℕ) (r : Result Told Fault) (out' : List ℕ) → Finds R list found → HandedOver list found out r out' → Shows none R out (handed_answer r) out'
found-shows R list (Some n) out r out' x h = handed-shows R (take n list) out x.1 h
found-shows R list None out r out' x h = show-missing R out (handed_answer r) out' x (ap handed_answer h.0) h.1
