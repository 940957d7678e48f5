-- `lists::numbers_of` meets its contract. The loop's invariant: the list holds the numbers of the rows passed that are picked.
use Rattle.reach.proofs.Collecting.{Collected}
use Rattle.lists.specs.Picked.{Picked}
use Rattle.sheet.specs.Rows.{node_at}
use lib.ListN.{take}
use Prim.Native.Nat.{◌≤◌}
use Rattle.lists.proofs.numbers_of.Given as goal

abbrev pub invariant-loop-i : goal.invariant-loop-i
invariant-loop-i l = (l.n ≤ l.i) × Collected (Picked l.at.sheet.words.now l.at.seat.office l.class l.reached l.d) (λ j. (node_at l.at.sheet.words.now j).number) l.i (take l.n l.list)
