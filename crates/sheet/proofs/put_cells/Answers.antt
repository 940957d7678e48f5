-- `sheet::put_cells` meets its contract: four stores are a run.
use native.Mathlib.Omega.{arith}
use Prim.Native.Nat.{ℕ}
use mathlib.Core.Path.{ap, ◌∙◌}
use lib.Seq.{sets}
use lib.ListN.{length-set}
use Rattle.sheet.specs.Stored.{stored}
use Rattle.sheet.proofs.Widths.{words-low}
use Rattle.sheet.proofs.Writing.{four-stores}
use Rattle.sheet.proofs.put_cells.Goals as goal

pub bounds-table-at : goal.bounds-table-at
bounds-table-at c = omega (arith, c.place_in-at.ensures, words-low c.args.half c.args.form, c.requires)

pub bounds-table-at-2 : goal.bounds-table-at-2
bounds-table-at-2 c = simp length-set (omega (arith, c.place_in-at.ensures, words-low c.args.half c.args.form, c.requires))

pub bounds-table-at-3 : goal.bounds-table-at-3
bounds-table-at-3 c = simp length-set (omega (arith, c.place_in-at.ensures, words-low c.args.half c.args.form, c.requires))

pub bounds-table-at-4 : goal.bounds-table-at-4
bounds-table-at-4 c = simp length-set (omega (arith, c.place_in-at.ensures, words-low c.args.half c.args.form, c.requires))

pub returns : goal.returns
unfolding stored
returns c = four-stores c.args.table.now c.place_in-at.result _ _ _ _ ∙ ap (λ (at : ℕ). sets c.args.table.now at (stored c.args.half c.args.form c.args.c)) c.place_in-at.ensures
