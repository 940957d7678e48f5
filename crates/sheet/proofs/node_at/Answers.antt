-- `sheet::node_at` meets its contract: the row's words are the cells from its place on.
use Rattle.sheet.specs.Rows.{node_at, cells_from}
use Rattle.sheet.proofs.node_at.Goals as goal

pub returns : goal.returns
unfolding node_at cells_from
returns c = rw c.cells_from-w.ensures
