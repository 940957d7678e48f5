-- `listing::look_through` meets its contract. The loop's invariant: no line passed has a fault of its own.
use Prim.Native.Nat.{ℕ, ◌-◌}
use mathlib.Core.Path.{◌≡◌}
use lib.ListN.{length}
use Rattle.listing.specs.Cut.{lines_said, line_at}
use Rattle.listing.specs.LineByLine.{own_fault}
use Rattle.listing.proofs.Cutting.{PassedBy}
use Rattle.listing.proofs.look_through.Given as goal

abbrev pub invariant-loop-at : goal.invariant-loop-at
invariant-loop-at l = PassedBy l.text (λ (j : ℕ). own_fault (line_at (lines_said l.text) j) ≡ 0) l.count l.at

abbrev pub decreases-loop-at : goal.decreases-loop-at
decreases-loop-at l = length l.text - l.at
