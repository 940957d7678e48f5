-- `sheet::sheet_words` meets its contract: header, node rows and edge rows, one behind the other.
use native.Mathlib.Omega.{arith}
use Rattle.sheet.proofs.Widths.{few}
use Rattle.sheet.proofs.sheet_words.Goals as goal

pub edge_place-requires : goal.edge_place-requires
edge_place-requires c = omega (arith, (few _ _ c.requires.1).1)

pub overflow_add-result-2 : goal.overflow_add-result-2
overflow_add-result-2 c = omega (arith, c.edge_place.ensures, (few _ _ c.requires.1).1)
