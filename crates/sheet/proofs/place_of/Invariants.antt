-- `sheet::place_of` meets its contract. The loop's invariant: the place lies between the two rows; each turn halves what is between them.
use Rattle.std.proofs.Common.{◌-◌}
use Rattle.sheet.proofs.Places.{Between}
use Rattle.sheet.specs.Rows.{count_in, row_key, row_key_at}
use Rattle.sheet.proofs.place_of.Given as goal

abbrev pub invariant-loop-low : goal.invariant-loop-low
invariant-loop-low l = Between (row_key_at l.half l.sheet) (count_in l.half l.h) (row_key l.wanted) l.low l.high

abbrev pub decreases-loop-low : goal.decreases-loop-low
decreases-loop-low l = l.high - l.low
