-- `ask::stand::write_nodes` meets its contract. The loop's invariant: the words of the rows passed stand, and behind them what stood there.
use Prim.Native.Nat.{◌*◌}
use mathlib.Core.Path.{◌≡◌}
use Rattle.ask.specs.PathRows.{spelled_rows}
use Rattle.sheet.proofs.Writing.{front_of}
use Rattle.ask.proofs.stand.write_nodes.Given as goal

abbrev pub invariant-loop-i : goal.invariant-loop-i
invariant-loop-i l = l.out ≡ front_of l.fn.out (spelled_rows l.sheet.words.now l.rows) (2 * l.i)
