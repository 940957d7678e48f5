-- `files::decode_all` meets its contract. The loop's invariant: the first i words stand, and behind them what stood there.
use mathlib.Core.Path.{◌≡◌}
use Rattle.files.specs.Bytes.{words_of}
use Rattle.sheet.proofs.Writing.{front_of}
use Rattle.files.proofs.decode_all.Given as goal

abbrev pub invariant-loop-i : goal.invariant-loop-i
invariant-loop-i l = l.words ≡ front_of l.fn.words (words_of l.bytes) l.i
