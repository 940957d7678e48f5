-- `lists::hand_over` meets its contract: each return is one of the two cases.
use Rattle.lists.specs.Handed.{short, written}
use Rattle.lists.proofs.hand_over.Goals as goal

pub returns-then-out-size : goal.returns-then-out-size
returns-then-out-size c = short c.if-out-size.true

pub returns : goal.returns
returns c = rw c.copy_from_slice.ensures.after (written c.if-out-size.false)
