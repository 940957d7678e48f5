-- `listing::LineTable::line_with` meets its contract: of few lines by their order; of more the search through the text has the same statement.
use native.Mathlib.Omega.{arith}
use Rattle.listing.proofs.Tabling.{found-in-order}
use Rattle.listing.proofs.table.LineTable.line_with.Goals as goal

pub returns : goal.returns
returns c = found-in-order _ _ _ _ c.args.self.now.tabled (omega arith) c.args.l _ _ c.four_of.ensures c.first_of.ensures
