use Rattle.lists.proofs.Picking.{picked-yes, picked-no, picked_all}
use Rattle.reach.proofs.Rows.{numbers-rise}
use Rattle.reach.proofs.Collecting.{collected-none, collected-puts, puts-more}
use Rattle.sheet.specs.declared.Node.{Node}
use native.Mathlib.Omega.{arith}
use mathlib.Core.Path.{ap}
use Rattle.lists.proofs.numbers_of.Goals as goal

pub loop-i-init : goal.loop-i-init
loop-i-init c = (omega arith, collected-none _ _)

pub loop-i-preserved : goal.loop-i-preserved
loop-i-preserved c =
    let L = c.loop-i in
    let P = c.put-n.ensures in
    let E = c.node-row.ensures in
    let T = c.is_picked-good.ensures in
    let f = c.args.at.now.sheet.formed.nodes in (
      omega (arith, puts-more _ _ _ _ _ _ P, L.invariant.0),
      collected-puts _ _ L.i _ _ _ _ _ _ (omega arith) (ap (λ (x : Node). x.number) E) P L.invariant.1 (picked-yes _ _ _ _ _ _ _ _ E T) (picked-no _ _ _ _ _ _ _ _ E T)
          (λ i l p q. numbers-rise _ _ f _ i L.i c.requires.0 l (omega arith) p.is-class q.is-class),
    )

pub returns : goal.returns
returns c =
    let L = c.loop-i in
    let f = c.args.at.now.sheet.formed.nodes.header in (
      omega (arith, L.invariant.0, L.auto.i-end, c.count-i-end.ensures, f.nodes),
      picked_all _ _ _ _ _ _ _ _ (omega (arith, L.auto.i-end, c.count-i-end.ensures)) (omega (arith, c.loop-i-test.false, c.count-i-end.ensures)) L.invariant.1,
    )
