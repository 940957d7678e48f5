use Rattle.std.proofs.Common.{◌≡◌, true, false, ap, sym, ◌∙◌, arith, rules}
use Rattle.tables.specs.Key.{below_key}
use Rattle.sheet.specs.declared.Cells.{Cells}
use Rattle.sheet.specs.Rows.{row_key}
use Rattle.sheet.proofs.Places.{raise, sink, half-rises}
use Rattle.sheet.proofs.place_of.Goals as goal

pub loop-low-preserved-then-is_lower : goal.loop-low-preserved-then-is_lower
loop-low-preserved-then-is_lower c =
    let told : below_key (row_key c.cells_at.result) (row_key c.args.wanted) ≡ true = search rules in
    raise _ _ (half-rises c.args.half _ _ c.requires) _ _ _ _ c.loop-low.invariant (omega arith)
    (ap (λ (x : Cells). below_key (row_key x) (row_key c.args.wanted)) (sym c.cells_at.ensures) ∙ told)

pub loop-low-preserved : goal.loop-low-preserved
loop-low-preserved c =
    let told : below_key (row_key c.cells_at.result) (row_key c.args.wanted) ≡ false = search rules in
    sink _ _ (half-rises c.args.half _ _ c.requires) _ _ _ _ c.loop-low.invariant (omega arith) (omega arith)
    (ap (λ (x : Cells). below_key (row_key x) (row_key c.args.wanted)) (sym c.cells_at.ensures) ∙ told)
