-- `listing::Ordered::lay_rows` meets its contract. The loop's invariant: the rows passed are laid, and behind them is what stood there.
use Rattle.listing.proofs.Laying.{LaidTo}
use Rattle.listing.proofs.ordered.Ordered.lay_rows.Given as goal

abbrev pub invariant-loop-k : goal.invariant-loop-k
invariant-loop-k l = LaidTo l.half l.self.rows.now l.self.order.now l.from l.initial.table l.k l.table
