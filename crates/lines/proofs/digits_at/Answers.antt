use Prim.Native.Nat.{ℕ}
use mathlib.Core.Path.{◌≡◌, sym, subst, ◌∙◌}
use native.Mathlib.Omega.{arith}
use lib.ListN.{length}
use Rattle.lines.specs.Fitting.{DigitsAre}
use Rattle.lines.proofs.Counting.{digits-begin, digits_more, digits-done, digits-out}
use Rattle.lines.proofs.digits_at.Goals as goal

pub loop-end-init : goal.loop-end-init
loop-end-init c = digits-begin _ _ c.requires

pub returns-then-not-is_digit : goal.returns-then-not-is_digit
returns-then-not-is_digit c = digits-done _ _ _ _ c.loop-end.invariant c.loop-end-test.true (sym c.is_digit.ensures ∙ c.if-not-is_digit.true)

pub loop-end-preserved : goal.loop-end-preserved
loop-end-preserved c = digits_more _ _ _ _ c.loop-end.invariant _ c.loop-end-test.true (sym c.is_digit.ensures ∙ c.if-not-is_digit.false) c.with_digit-number.ensures

pub returns : goal.returns
returns c =
    let e : c.loop-end.end ≡ length c.args.line.now = omega arith in
    subst (λ (i : ℕ). DigitsAre c.args.line.now c.args.at (record { end = i; number = c.loop-end.number })) e (digits-out _ _ _ _ c.loop-end.invariant (omega arith))
