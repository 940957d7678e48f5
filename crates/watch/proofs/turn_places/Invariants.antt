-- `watch::turn_places` meets its contract. The loop's invariant: the places before `p` are changed, and those from it on are as they were.
use mathlib.Core.Path.{◌≡◌}
use mathlib.Core.List.{◌++◌}
use lib.ListN.{drop, take}
use Rattle.watch.specs.History.{changed}
use Rattle.watch.specs.WatchTable.{place_after}
use Rattle.watch.proofs.turn_places.Given as goal

abbrev pub invariant-loop-p : goal.invariant-loop-p
invariant-loop-p l = l.places ≡ changed (place_after l.row l.timeout) (take l.p-index l.fn.places) ++ drop l.p-index l.fn.places
