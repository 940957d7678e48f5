-- `listing::LineTable::first_repeated` meets its contract. The loop's invariant: no line passed repeats an earlier one. The first line that says the same stands before it, or is the line itself.
use Prim.Native.Nat.{ℕ}
use mathlib.Core.Bool.{false}
use mathlib.Core.Path.{◌≡◌}
use Rattle.listing.specs.Cut.{lines_said, line_at}
use Rattle.listing.specs.Faults.{says_this}
use Rattle.listing.proofs.Cutting.{PassedBy}
use Rattle.listing.proofs.table.LineTable.first_repeated.Given as goal

abbrev pub invariant-loop-i : goal.invariant-loop-i
invariant-loop-i l = PassedBy l.self.text.now (λ (j : ℕ). says_this (lines_said l.self.text.now) j (line_at (lines_said l.self.text.now) j) ≡ false) l.i l.at
