-- `least::first_common` meets its contract. The loop's invariant: no row passed is a folio's that both have.
use Prim.Native.Nat.{ℕ, ◌<◌}
use mathlib.Core.Bool.{false}
use mathlib.Core.Path.{◌≡◌}
use Rattle.least.specs.Least.{common}
use Rattle.least.proofs.first_common.Given as goal

abbrev pub invariant-loop-f : goal.invariant-loop-f
invariant-loop-f l = (j : ℕ) → j < l.f → common l.sheet.words.now l.one l.two j ≡ false
