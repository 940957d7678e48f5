-- `listing::fill_table` meets its contract. The loop's invariant: the lines passed stand in the table, and reading has come to the next.
use mathlib.Core.Path.{◌≡◌}
use lib.ListN.{length}
use Rattle.listing.specs.Cut.{lines_said}
use Rattle.listing.specs.LineByLine.{CameTo, InTable}
use Rattle.listing.proofs.fill_table.Given as goal

abbrev pub invariant-loop-i : goal.invariant-loop-i
invariant-loop-i l = CameTo l.text l.i l.at × (length l.rows ≡ length l.initial.rows) × InTable (lines_said l.text) l.i l.rows
