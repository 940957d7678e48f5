use native.Mathlib.Omega.{arith}
use Rattle.std.proofs.lemmas.Result.{err_from_is_err_and}
use Rattle.lines.proofs.Fitting.{middle-begin, middle-room, middle-unlike, middle-more, middle-over, middle-done}
use Rattle.lines.proofs.by_pattern.Goals as goal

pub loop-mark-init : goal.loop-mark-init
loop-mark-init c = middle-begin _ _ c.requires

pub pass_one-requires : goal.pass_one-requires
pass_one-requires c = (c.loop-mark.invariant.inside, middle-room _ _ _ _ _ c.loop-mark.invariant c.loop-mark-test.true)

pub returns-in_err-passed : goal.returns-in_err-passed
returns-in_err-passed c =
    let p = err_from_is_err_and c.from_residual.result c.from_residual.ensures.1 in
    rw (p.1, p.2) (middle-unlike _ _ _ _ _ c.loop-mark.invariant c.loop-mark-test.true _ c.in_err-passed.ensures _)

pub loop-mark-preserved : goal.loop-mark-preserved
loop-mark-preserved c = middle-more _ _ _ _ _ c.loop-mark.invariant c.loop-mark-test.true _ c.in_ok-passed.ensures

pub returns-then-i-line : goal.returns-then-i-line
returns-then-i-line c = middle-over _ _ _ _ _ c.loop-mark.invariant _ c.loop-mark-test.false (omega arith)

pub returns : goal.returns
returns c = middle-done _ _ _ _ _ c.loop-mark.invariant _ c.loop-mark-test.false (omega arith) _ c.line_of.ensures
