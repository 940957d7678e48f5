use mathlib.Core.Path.{sym, ◌∙◌}
use native.Mathlib.Omega.{arith}
use Rattle.claim.proofs.Listing.{way-first, way-none, way-stops, way_next, way-done}
use Rattle.claim.proofs.Claim.is_way.Goals as goal

pub returns-then-not-is_carried : goal.returns-then-not-is_carried
returns-then-not-is_carried c = way-none _ _ _ _ _ _ _ (sym c.is_carried.ensures ∙ c.if-not-is_carried.true)

pub loop-n-init : goal.loop-n-init
loop-n-init c = way-first _ _ _ _ _ _ _ (sym c.is_carried.ensures ∙ c.if-not-is_carried.false)

pub returns-then-not-is_onward : goal.returns-then-not-is_onward
returns-then-not-is_onward c = way-stops _ _ _ _ _ _ _ _ c.loop-n-test.true (sym c.is_onward.ensures ∙ c.if-not-is_onward.true)

pub loop-n-preserved : goal.loop-n-preserved
loop-n-preserved c = way_next _ _ _ _ _ _ _ _ c.loop-n-test.true (sym c.is_onward.ensures ∙ c.if-not-is_onward.false) c.loop-n.invariant

pub returns : goal.returns
returns c = way-done _ _ _ _ _ _ _ _ (omega arith) c.loop-n-test.false c.loop-n.invariant
