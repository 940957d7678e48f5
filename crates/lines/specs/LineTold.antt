-- A line as it was read, or its fault: as the code tells it, and as C takes it.
-- Assumes nothing.
use Rattle.std.specs.Prelude.{◌≡◌, Result, Ok, Err, IfOk}
use Rattle.sheet.specs.declared.fault.Fault.{Fault}
use Rattle.sheet.specs.FaultNumbers.{fault_number}
use Rattle.lines.specs.declared.Line.{Line}
use Rattle.lines.specs.Nine.{faulty}

-- a line, or a refused line by its fault's number
abbrev pub line_told : Result Line Fault → Line
line_told (Ok l) = l
line_told (Err f) = faulty (fault_number f)

-- what is told of a line: its words where it has no fault, else the fault
pub record TellsLine (l : Line) (r : Result Line Fault) : Type 0 where
  pub line : line_told r ≡ l
  pub good : IfOk r (λ k. k.fault ≡ 0)
