-- `listing::LineTable::first_lacking` meets its contract. The loop's invariant: no line passed lacks an end.
use Prim.Native.Nat.{ℕ}
use mathlib.Core.Bool.{false}
use mathlib.Core.Path.{◌≡◌}
use Rattle.listing.specs.Cut.{lines_said, line_at}
use Rattle.listing.specs.LineByLine.{lacks_end}
use Rattle.listing.proofs.Cutting.{PassedBy}
use Rattle.listing.proofs.table.LineTable.first_lacking.Given as goal

abbrev pub invariant-loop-i : goal.invariant-loop-i
invariant-loop-i l = PassedBy l.self.text.now (λ (j : ℕ). lacks_end (lines_said l.self.text.now) l.self.count (line_at (lines_said l.self.text.now) j) ≡ false) l.i l.at
