-- `sheet::find_row` meets its contract: a key that stands in some row stands at its place.
use Rattle.std.proofs.Common.{◌≡◌, true, false, ap, sym, ◌∙◌, arith, rules}
use borrow.Author.Tests.{le-ltb}
use mathlib.Core.Bool.{true≢false}
use Rattle.tables.specs.Key.{same_key}
use Rattle.sheet.specs.declared.Cells.{Cells}
use Rattle.sheet.specs.Rows.{row_key}
use Rattle.sheet.proofs.Places.{at-its-place, at-no-row, half-rises}
use Rattle.sheet.proofs.find_row.Goals as goal
use Rattle.sheet.proofs.find_row.Goals.{then-i-count_in, else-i-count_in}

pub returns-then-stands : goal.returns-then-stands
returns-then-stands c =
    elim c.if-i-count_in.branch [
      | then-i-count_in w ↦
          (let told : same_key (row_key w.cells_at.result) (row_key c.args.wanted) ≡ true = search rules in
          at-its-place _ _ (half-rises c.args.half _ _ c.requires) _ _ c.place_of-i.ensures (omega (arith, c.count_in.ensures))
          (ap (λ (x : Cells). same_key (row_key x) (row_key c.args.wanted)) (sym w.cells_at.ensures) ∙ told))
      | else-i-count_in w ↦ absurd (true≢false (sym c.if-stands.true ∙ w.stands-is ∙ le-ltb _ _ w.if-i-count_in.false))
    ]

pub returns-else-stands : goal.returns-else-stands
returns-else-stands c =
    at-no-row _ _ (half-rises c.args.half _ _ c.requires) _ _ c.place_of-i.ensures
    (elim c.if-i-count_in.branch [
      | then-i-count_in w ↦
          (let told : same_key (row_key w.cells_at.result) (row_key c.args.wanted) ≡ false = search rules in
          λ l. ap (λ (x : Cells). same_key (row_key x) (row_key c.args.wanted)) (sym w.cells_at.ensures) ∙ told)
      | else-i-count_in w ↦ λ l. absurd (omega (arith, c.count_in.ensures))
    ])
