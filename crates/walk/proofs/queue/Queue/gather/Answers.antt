use native.Mathlib.Omega.{arith}
use Rattle.paths.proofs.Queues.{gathered-skip, gathered-put, gathered-all}
use Rattle.walk.proofs.queue.Queue.gather.Goals as goal
use Rattle.walk.proofs.queue.Queue.gather.Goals.{then-d-node-eq1, else-d-node-eq1}

pub loop-node-preserved : goal.loop-node-preserved
loop-node-preserved c =
    elim c.if-d-node-eq1.branch [
      | then-d-node-eq1 w ↦ rw (w.self-is, w.push.ensures.0, w.push.ensures.1) (gathered-put _ _ _ _ c.loop-node.invariant (omega arith) (omega (arith, c.loop-node.invariant.few, c.loop-node.self.long)) w.if-d-node-eq1.true)
      | else-d-node-eq1 w ↦ rw w.self-is (gathered-skip _ _ _ _ c.loop-node.invariant (omega arith) w.if-d-node-eq1.false)
    ]

pub returns : goal.returns
returns c =
    gathered-all _ _ _ _ _ c.loop-node.auto.node-end c.loop-node-test.false c.requires.0 (omega (arith, c.loop-node.self.long)) c.loop-node.invariant
