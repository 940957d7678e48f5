-- `listing::Ordered::row_of` meets its contract: the place of the line's words in the order, and it fits a word.
use Rattle.sorting.proofs.Orders.{place-four}
use Rattle.listing.proofs.ordered.Ordered.row_of.Goals as goal

pub returns : goal.returns
returns c = rw c.four_of.ensures at (place-four c.args.self.now.rows.now c.args.self.now.order.now _ _ _ c.place_in_order.ensures)
