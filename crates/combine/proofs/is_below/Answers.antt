-- `combine::is_below` meets its contract: node rows compare by what they name, which is their words.
use mathlib.Core.Path.{◌≡◌, ap₂, ◌∙◌}
use borrow.Author.Rules.{rules}
use Rattle.tables.specs.Key.{below_key}
use Rattle.sheet.specs.declared.Cells.{Cells}
use Rattle.sheet.specs.Rows.{row_key}
use Rattle.combine.proofs.Reading.{nodes-below}
use Rattle.combine.proofs.is_below.Goals as goal

pub returns-in-Nodes : goal.returns-in-Nodes
returns-in-Nodes c =
    let told : c.lt.result ≡ below_key (row_key c.cells.result) (row_key c.cells-in-Nodes.result) = search rules in
    nodes-below _ _ _ _ _ _ c.in-Nodes.is (told ∙ ap₂ (λ (x y : Cells). below_key (row_key x) (row_key y)) c.cells.ensures c.cells-in-Nodes.ensures)
