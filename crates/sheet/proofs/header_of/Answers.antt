-- `sheet::header_of` meets its contract: the six words stand where the header's definition reads them.
use borrow.Author.Rules.{rules}
use Rattle.sheet.specs.Rows.{header_of}
use Rattle.sheet.proofs.header_of.Goals as goal

pub returns : goal.returns
unfolding header_of
returns c = search rules
