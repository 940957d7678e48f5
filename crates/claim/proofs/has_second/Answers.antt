use Prim.Native.Nat.{◌+◌, ◌-◌, ◌*◌}
use mathlib.Core.Path.{◌≡◌, refl, sym, ◌∙◌}
use native.Mathlib.Omega.{arith}
use Rattle.claim.proofs.Listing.{second_next}
use Rattle.claim.proofs.has_second.Goals as goal

pub loop-k-init : goal.loop-k-init
loop-k-init c =
    let a : c.args.from + 2 * 0 ≡ c.args.from = omega arith in
    let b : c.args.m - 0 ≡ c.args.m = omega arith in
    rw (a, b) refl

pub returns-then-c-list : goal.returns-then-c-list
returns-then-c-list c = sym (c.loop-k.invariant ∙ second_next _ _ _ _ _ _ _ c.loop-k-test.true c.if-c-list.true)

pub loop-k-preserved : goal.loop-k-preserved
loop-k-preserved c = c.loop-k.invariant ∙ second_next _ _ _ _ _ _ _ c.loop-k-test.true c.if-c-list.false

pub returns : goal.returns
returns c = let z : c.args.m - c.loop-k.k ≡ 0 = omega (arith, c.loop-k-test.false) in sym (rw z at c.loop-k.invariant)
