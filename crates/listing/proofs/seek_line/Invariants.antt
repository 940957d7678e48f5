-- `listing::seek_line` meets its contract. The loop's invariant: no line passed says this.
use Prim.Native.Nat.{ℕ}
use mathlib.Core.Bool.{false}
use mathlib.Core.Path.{◌≡◌}
use Rattle.lines.specs.Naming.{same_line}
use Rattle.listing.specs.Cut.{lines_said, line_at}
use Rattle.listing.proofs.Cutting.{PassedBy}
use Rattle.listing.proofs.seek_line.Given as goal

abbrev pub invariant-loop-i : goal.invariant-loop-i
invariant-loop-i l = PassedBy l.text (λ (j : ℕ). same_line (line_at (lines_said l.text) j) l.l ≡ false) l.i l.at
