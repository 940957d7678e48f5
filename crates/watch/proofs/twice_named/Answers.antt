use Prim.Native.Nat.{◌+◌}
use native.Mathlib.Omega.{arith}
use mathlib.Core.Path.{sym, ◌∙◌}
use Rattle.watch.proofs.Loops.{doubled-hit, doubled-miss, doubled-skip, doubled-end, rest-is}
use Rattle.watch.proofs.twice_named.Goals.{else-p-ne0-via-then-p-ne0+else-is_named, else-p-ne0-via-else-p-ne0}
use Rattle.watch.proofs.twice_named.Goals as goal

pub returns-then-is_named : goal.returns-then-is_named
returns-then-is_named c = sym (c.loop-i.invariant ∙ doubled-hit c.args.places.now c.loop-i.i _ (omega arith) c.if-p-ne0.true (rw (rest-is c.args.places.now (c.loop-i.i + 1) c.told-places) at (sym c.is_named.ensures ∙ c.if-is_named.true)))

pub loop-i-preserved : goal.loop-i-preserved
loop-i-preserved c =
    elim c.else-p-ne0.branch [
      | else-p-ne0-via-then-p-ne0+else-is_named w ↦ c.loop-i.invariant ∙ doubled-miss c.args.places.now c.loop-i.i _ (omega arith) w.if-p-ne0.true (rw (rest-is c.args.places.now (c.loop-i.i + 1) c.told-places) at (sym w.is_named.ensures ∙ w.if-is_named.false))
      | else-p-ne0-via-else-p-ne0 w ↦ c.loop-i.invariant ∙ doubled-skip c.args.places.now c.loop-i.i _ (omega arith) w.if-p-ne0.false
    ]

pub returns : goal.returns
returns c = sym (c.loop-i.invariant ∙ doubled-end c.args.places.now c.loop-i.i (omega arith))
