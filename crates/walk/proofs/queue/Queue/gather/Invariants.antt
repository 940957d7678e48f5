-- `walk::Queue::gather` meets its contract. The loop's invariant: the nodes passed that are numbered 1 are in the queue.
use Rattle.paths.proofs.Queues.{Gathered}
use Rattle.walk.proofs.queue.Queue.gather.Given as goal

abbrev pub invariant-loop-node : goal.invariant-loop-node
invariant-loop-node l = Gathered l.d l.self.nodes l.node l.self.len
