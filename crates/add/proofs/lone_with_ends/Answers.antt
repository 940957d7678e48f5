-- `add::lone_with_ends` meets its contract: the lower end first.
use borrow.Author.Tests.{lt-ltb, le-ltb}
use Rattle.add.specs.Lone.{lone_with_ends}
use Rattle.add.proofs.lone_with_ends.Goals as goal

pub returns-then-from-to : goal.returns-then-from-to
unfolding lone_with_ends
returns-then-from-to c = rw (lt-ltb _ _ c.if-from-to.true) c.lone_edge.ensures

pub returns : goal.returns
unfolding lone_with_ends
returns c = rw (le-ltb _ _ c.if-from-to.false) c.lone_edge-2.ensures
