-- `listing::put_rows` meets its contract. The loop's invariant: the lines of the rows passed were put.
use Prim.Native.Nat.{◌+◌, ◌*◌, ◌≤◌}
use mathlib.Core.Path.{◌≡◌}
use lib.ListN.{length}
use Rattle.lines.specs.Nine.{line_room}
use Rattle.listing.specs.Printed.{row_line, printed_lines, PutsIfRoom}
use Rattle.listing.proofs.writing.put_rows.Given as goal

abbrev pub invariant-loop-i : goal.invariant-loop-i
invariant-loop-i l = (l.end ≤ l.at + line_room * l.i) × PutsIfRoom l.initial.out l.at (printed_lines (row_line l.half l.sheet.words.now) l.i) l.end l.out × (length l.out ≡ length l.initial.out)
