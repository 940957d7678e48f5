-- How what was found is handed over.
-- Assumes nothing.
use Rattle.std.specs.Prelude.{ℕ, ◌<◌, ◌≤◌, List, ◌++◌, length, drop, Result, Ok, Err}
use Rattle.sheet.specs.declared.fault.Fault.{Fault}
use Rattle.sheet.specs.declared.fault.Fault.TheVariants.{OutputShort}
use Rattle.question.specs.declared.reply.Told.{Told}

-- the words found go to the front of the output: 25 where the output is shorter, and then it stays as it is
pub data Handed (found out : List ℕ) : Result Told Fault → List ℕ → Type 0 where
  short : length out < length found → Handed found out (Err OutputShort) out
  written : length found ≤ length out → Handed found out (Ok (record { value = 0; count = length found })) (found ++ drop (length found) out)
