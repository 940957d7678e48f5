-- `redundant::prune` meets its contract. The loop's invariant: the redundant rows of those passed are in the list.
use Prim.Native.Nat.{◌≤◌}
use mathlib.Core.Path.{◌≡◌}
use lib.ListN.{length, take}
use Rattle.sheet.specs.Limits.{most_edges}
use Rattle.meaning.specs.Questions.{RedundantRow}
use Rattle.reach.proofs.Collecting.{Collected}
use Rattle.redundant.proofs.prune.Given as goal

abbrev pub invariant-loop-j : goal.invariant-loop-j
invariant-loop-j l = (l.n ≤ l.j) × (length l.list ≡ most_edges) × Collected (RedundantRow l.rights.at.sheet.words.now l.rights.at.seat.office) (λ i. i) l.j (take l.n l.list)
