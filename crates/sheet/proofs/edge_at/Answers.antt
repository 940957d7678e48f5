-- `sheet::edge_at` meets its contract: the row's words are the cells from its place on.
use native.Mathlib.Omega.{arith}
use Rattle.sheet.specs.declared.Half.TheVariants.{Edges}
use Rattle.sheet.specs.Rows.{edge_at, cells_from}
use Rattle.sheet.proofs.Widths.{place-before, words-low}
use Rattle.sheet.proofs.edge_at.Goals as goal

pub edge_place-requires : goal.edge_place-requires
edge_place-requires c = let S = c in omega (arith, place-before Edges S.args.h.form _ _ S.requires.1, S.requires.0)

pub cells_from-w-requires : goal.cells_from-w-requires
cells_from-w-requires c =
    let S = c in
    omega (arith, c.edge_place.ensures, words-low Edges S.args.h.form, place-before Edges S.args.h.form _ _ S.requires.1, S.requires.0)

pub returns : goal.returns
unfolding edge_at cells_from
returns c = rw (c.cells_from-w.ensures, c.edge_place.ensures)
