-- `listing::LineTable::lacks_end` meets its contract: a node line has no end; else either end is among the lines exactly if the search finds it.
use mathlib.Core.Path.{sym, ◌∙◌}
use Rattle.listing.specs.Cut.{lines_said}
use Rattle.listing.proofs.Tabling.{lacks-none, lacks-from, lacks-to, not-swap}
use Rattle.listing.proofs.table.LineTable.lacks_end.Goals as goal

pub returns-then-is_node_line : goal.returns-then-is_node_line
returns-then-is_node_line c = lacks-none (lines_said c.args.self.now.text.now) c.args.self.now.count c.args.l (sym c.is_node_line.ensures ∙ c.if-is_node_line.true)

pub returns-then-is_none : goal.returns-then-is_none
returns-then-is_none c =
    lacks-from (lines_said c.args.self.now.text.now) c.args.self.now.count c.args.l (sym c.is_node_line.ensures ∙ c.if-is_node_line.false) _ c.from_line.ensures _ c.line_with.ensures c.if-is_none.ensures

pub returns : goal.returns
returns c =
    not-swap _ _ c.is_none-2.ensures
    ∙ lacks-to (lines_said c.args.self.now.text.now) c.args.self.now.count c.args.l (sym c.is_node_line.ensures ∙ c.if-is_node_line.false) _ c.from_line.ensures _ c.line_with.ensures c.if-is_none.ensures _ c.to_line.ensures _ c.line_with-2.ensures
