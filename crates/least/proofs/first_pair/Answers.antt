use native.Mathlib.Omega.{arith}
use Rattle.least.proofs.Searching.{none_more, none_row}
use Rattle.least.proofs.Leasts.{pair-least, pair-none}
use Rattle.least.proofs.first_pair.Goals as goal

pub returns-in-Some : goal.returns-in-Some
returns-in-Some c =
    let F = c.in-Some.ensures in
    rw (c.node-person.ensures, c.node.ensures) (pair-least _ _ _ c.args.at.now.sheet.formed _ _ _ _ _ c.loop-i-test.true F.0 F.1 c.loop-i.invariant F.2)

pub loop-i-preserved : goal.loop-i-preserved
loop-i-preserved c = none_more _ c.loop-i.i c.loop-i.invariant (none_row _ _ _ c.in_default.ensures)

pub returns : goal.returns
returns c = pair-none _ _ _ c.args.at.now.sheet.formed _ _ _ (λ j l. c.loop-i.invariant j (omega (arith, l, c.loop-i-test.false)))
