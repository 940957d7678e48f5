-- `redundant::has_ban_row` meets its contract. The loop's invariant: no row passed is a ban of the office.
use Prim.Native.Nat.{ℕ, ◌<◌}
use mathlib.Core.Bool.{false}
use mathlib.Core.Path.{◌≡◌}
use Rattle.redundant.specs.Pruned.{ban_at}
use Rattle.redundant.proofs.has_ban_row.Given as goal

abbrev pub invariant-loop-j : goal.invariant-loop-j
invariant-loop-j l = (i : ℕ) → i < l.j → ban_at l.at.sheet.edges.now l.at.sheet.header l.at.seat i ≡ false
