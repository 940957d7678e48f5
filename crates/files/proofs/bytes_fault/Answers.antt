-- `files::bytes_fault` meets its contract: the test is the table's line.
use native.Mathlib.Omega.{arith}
use Rattle.files.specs.Bytes.{bytes_fault}
use Rattle.sheet.proofs.Refusing.{lines}
use Rattle.files.proofs.bytes_fault.Goals as goal

pub returns-then-n-ne0 : goal.returns-then-n-ne0
unfolding bytes_fault
returns-then-n-ne0 c = grind (arith, lines)

pub returns : goal.returns
unfolding bytes_fault
returns c = search lines depth 10
