-- `lists::note_reaching` meets its contract. The loop's invariant: the numbers of the persons' rows passed tell.
use Rattle.reach.specs.Reaching.{Tells}
use Rattle.sheet.specs.Kinds.{person_type}
use Rattle.sheet.specs.Rows.{node_at}
use Rattle.sheet.specs.Limits.{max_nodes}
use Rattle.lists.specs.ListWalks.{LeadsBy}
use lib.ListN.{length, get_or}
use mathlib.Core.Path.{◌≡◌}
use Prim.Native.Nat.{ℕ, ◌<◌}
use Rattle.lists.proofs.note_reaching.Given as goal

abbrev pub invariant-loop-from : goal.invariant-loop-from
invariant-loop-from l = (length l.reaching ≡ max_nodes) × ((j : ℕ) → j < l.from → (node_at l.tour.walker.sheet.words.now j).class ≡ person_type → Tells (get_or l.reaching j 0) (LeadsBy l.tour.walker j l.to))
