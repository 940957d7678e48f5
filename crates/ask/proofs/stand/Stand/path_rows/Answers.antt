-- `ask::stand::Stand::path_rows` meets its contract: the numbers of the walk back lead the trace, and the rows that it writes are the witness's.
use native.Mathlib.Omega.{arith}
use Rattle.ask.proofs.Showing.{trace-ready, trace-rows}
use Rattle.ask.proofs.stand.Stand.path_rows.Goals as goal

pub write_path-requires : goal.write_path-requires
write_path-requires c =
    let R = trace-ready c.args.self.now _ c.requires.0 c.walker-walker.result (rw c.from.ensures at c.walker-walker.ensures) c.requires.1 in
    (R.0, R.1, R.2, R.3, omega (arith, R.4, c.requires.2))

pub returns : goal.returns
returns c = trace-rows c.args.self.now _ c.requires.0 c.walker-walker.result (rw c.from.ensures at c.walker-walker.ensures) _ _ _ c.write_path.ensures
