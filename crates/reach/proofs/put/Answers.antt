-- `reach::put` meets its contract: a word that is not wanted leaves the list, any other stands behind the first n.
use Rattle.reach.specs.Finds.{left, added}
use Rattle.reach.proofs.put.Goals as goal

pub returns-then-not-good : goal.returns-then-not-good
returns-then-not-good c = left c.if-not-good.true

pub returns : goal.returns
returns c = added c.if-not-good.false
