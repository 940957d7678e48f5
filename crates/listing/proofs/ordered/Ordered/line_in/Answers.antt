-- `listing::Ordered::line_in` meets its contract: the row's four words are the line's form and numbers.
use Rattle.listing.proofs.Laying.{row-line}
use Rattle.listing.proofs.ordered.Ordered.line_in.Goals as goal

pub returns : goal.returns
returns c = row-line _ _ _ c.four_in-w.ensures
