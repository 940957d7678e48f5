use Rattle.tables.specs.Count.{number_of}
use Rattle.reach.proofs.Marking.{starts_none, starts_more, starts-all}
use Rattle.sheet.specs.declared.Node.{Node}
use Rattle.walk.proofs.Starting.{blank-all}
use native.Mathlib.Omega.{arith}
use mathlib.Core.Path.{ap, ◌∙◌}
use lib.Dec.{eqb}
use Rattle.sheet.specs.Rows.{node_at}
use Rattle.lists.proofs.Starting.{byte-number}
use Rattle.lists.proofs.person_starts.Goals as goal

pub loop-i-init : goal.loop-i-init
loop-i-init c = starts_none _ _ (blank-all _)

pub loop-i-preserved : goal.loop-i-preserved
loop-i-preserved c =
    let L = c.loop-i in
    starts_more (λ j. eqb (node_at c.args.sheet.now.words.now j).class 1) L.i c.from.result L.starts L.invariant (omega (arith, L.invariant.long, c.loop-i-test.true, c.count-i-end.ensures, c.args.sheet.now.formed.nodes.header.nodes)) (c.from.ensures ∙ byte-number _ ∙ ap (λ (x : Node). number_of (eqb x.class 1)) c.node.ensures)

pub returns : goal.returns
returns c = starts-all _ c.loop-i.i _ c.loop-i.starts c.loop-i.invariant (omega (arith, c.loop-i.auto.i-end, c.count-i-end.ensures)) (omega (arith, c.loop-i-test.false, c.count-i-end.ensures))
