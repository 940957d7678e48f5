-- `claim::has_second` meets its contract. The loop's invariant: one of the words will do exactly if one of those that are left will.
use Prim.Native.Nat.{◌+◌, ◌-◌, ◌*◌}
use mathlib.Core.Path.{◌≡◌}
use Rattle.claim.specs.Listed.{has_second}
use Rattle.claim.proofs.has_second.Given as goal

abbrev pub invariant-loop-k : goal.invariant-loop-k
invariant-loop-k l = has_second l.list l.c l.same l.from l.m ≡ has_second l.list l.c l.same (l.from + 2 * l.k) (l.m - l.k)
