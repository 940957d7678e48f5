use Rattle.listing.proofs.Laying.{laid_none, laid-long, laid_more, laid-all}
use Rattle.sheet.proofs.Widths.{place-before, place-rises}
use native.Mathlib.Omega.{arith}
use Rattle.listing.proofs.ordered.Ordered.lay_rows.Goals as goal

pub loop-k-init : goal.loop-k-init
loop-k-init c = laid_none _ _ _ _ _

pub put_cells-requires : goal.put_cells-requires
put_cells-requires c =
    omega (arith, laid-long _ _ _ _ _ _ _ c.loop-k.invariant (omega (arith, place-rises c.args.half 1 c.loop-k.k c.args.count (omega arith), c.requires.1)), place-before c.args.half 1 c.loop-k.k c.args.count (omega arith), c.requires.1)

pub loop-k-preserved : goal.loop-k-preserved
loop-k-preserved c = laid_more _ _ _ _ _ _ _ c.loop-k.invariant _ _ (omega (arith, place-before c.args.half 1 c.loop-k.k c.args.count (omega arith), c.requires.1)) c.cells_of-c.ensures c.put_cells.ensures

pub shape_of-table : goal.shape_of-table
shape_of-table c = laid-long _ _ _ _ _ _ _ c.loop-k.invariant (omega (arith, place-rises c.args.half 1 c.loop-k.k c.args.count (omega arith), c.requires.1))

pub returns : goal.returns
returns c = laid-all _ _ _ _ _ _ _ _ c.loop-k.invariant (omega arith)
