-- `sheet::cells_from` meets its contract: the words stand where the definition reads them.
use borrow.Author.Rules.{rules}
use Rattle.sheet.specs.Rows.{cells_from}
use Rattle.sheet.proofs.cells_from.Goals as goal

pub returns : goal.returns
unfolding cells_from
returns c = search rules
