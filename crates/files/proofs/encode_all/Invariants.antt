-- `files::encode_all` meets its contract. The loop's invariant: the bytes of the first i words stand, and behind them what stood there.
use Prim.Native.Nat.{◌*◌}
use mathlib.Core.Path.{◌≡◌}
use Rattle.files.specs.Bytes.{bytes_of}
use Rattle.sheet.proofs.Writing.{front_of}
use Rattle.files.proofs.encode_all.Given as goal

abbrev pub invariant-loop-i : goal.invariant-loop-i
invariant-loop-i l = l.bytes ≡ front_of l.fn.bytes (bytes_of l.words) (4 * l.i)
