-- `combine::under` meets its contract: both ends go through the map, and nothing else changes but the marks.
use Prim.Native.Nat.{ℕ}
use mathlib.Core.Path.{ap₂}
use Rattle.sheet.specs.declared.Cells.{Cells}
use Rattle.combine.specs.Halves.{spelled}
use Rattle.combine.proofs.under.Goals as goal

pub returns : goal.returns
unfolding spelled
returns c =
    let row : ℕ → ℕ → Cells = λ x y. record { first = c.args.c.first; second = x; third = y; offices = c.args.marks } in
    ap₂ row c.entry_of.ensures c.entry_of-2.ensures
