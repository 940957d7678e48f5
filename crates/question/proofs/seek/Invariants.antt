-- `question::seek` meets its contract. The loop's invariant: no row passed has the type, the number and the mark; none before the place has.
use Prim.Native.Nat.{ℕ, ◌<◌}
use mathlib.Core.Bool.{false}
use mathlib.Core.Path.{◌≡◌}
use Rattle.question.specs.Asked.{stands}
use Rattle.sheet.specs.Found.{PlaceIs}
use Rattle.sheet.specs.Rows.{node_key_at}
use Rattle.tables.specs.Key.{identity}
use Rattle.question.proofs.seek.Given as goal

abbrev pub invariant-loop-i : goal.invariant-loop-i
invariant-loop-i l = record {
  placed : PlaceIs (node_key_at l.sheet) l.fn.h.nodes (identity l.class l.number 0) l.place;
  none : (j : ℕ) → j < l.i → stands l.sheet l.any l.seat.office l.class l.number j ≡ false;
}
