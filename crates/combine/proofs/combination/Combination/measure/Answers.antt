-- `Combination::measure` meets its contract: the node rows' places are noted, the edge rows only counted.
use native.Mathlib.Omega.{arith}
use Rattle.combine.proofs.Whole.{half-surveyed}
use Rattle.combine.proofs.combination.Combination.measure.Goals as goal

pub returns : goal.returns
returns c =
    let N = half-surveyed _ _ _ c.half.ensures _ _ _ c.survey-nodes.ensures in
    let E = half-surveyed _ _ _ c.half-2.ensures _ _ _ c.survey-edges.ensures in
    record { first-long = omega (arith, c.survey-nodes.auto.firstplaces); second-long = omega (arith, c.survey-nodes.auto.secondplaces); node-rows = N; edge-rows = E.count }
