-- `watch::twice_named` meets its contract. The loop's invariant: whether a folio is named twice is told by the places from `i` on.
use mathlib.Core.Path.{◌≡◌}
use lib.ListN.{drop}
use Rattle.watch.specs.WatchTable.{doubled}
use Rattle.watch.proofs.twice_named.Given as goal

abbrev pub invariant-loop-i : goal.invariant-loop-i
invariant-loop-i l = doubled l.places ≡ doubled (drop l.i l.places)
