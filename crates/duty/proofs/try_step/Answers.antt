-- `duty::try_step` meets its contract: what refuses at the desk or refuses the row, or its answer and the table that it leaves.
use mathlib.Core.Path.{refl, sym, ap}
use native.Mathlib.Omega.{arith}
use borrow.Author.Rules.{rules}
use Rattle.watch.specs.WatchTable.{Moved}
use Rattle.watch.proofs.Stepping.{stepped-few, stepped-five}
use Rattle.duty.proofs.Promising.{step-refused, step-told, step-turned-away, step-let-in}
use Rattle.duty.proofs.try_step.Goals as goal

pub returns-in_err-sheet : goal.returns-in_err-sheet
returns-in_err-sheet c = search (rules, step-turned-away _ c.args.timeout c.args.row.now c.args.watch.now _ c.in_err-sheet.ensures.err.0 _ c.in_err-sheet.ensures.err.1 refl)

pub returns-in_err-count : goal.returns-in_err-count
returns-in_err-count c = search (rules, step-let-in _ c.args.timeout c.args.row.now c.args.watch.now _ (sym c.in_ok-sheet.ensures.ok) _ refl _ (step-refused c.args.words.now c.args.timeout c.args.row.now c.args.watch.now c.step_on.new.watch c.in_err-count.field-0.0 _ c.in_err-count.ensures refl))

pub read_row-requires : goal.read_row-requires
read_row-requires c = let e = c.in_ok-count.ensures in omega (arith, stepped-five _ _ _ (sym (ap (λ (m : Moved). m.routed.number) e)))

pub row_answer-value-requires : goal.row_answer-value-requires
row_answer-value-requires c = let e = c.in_ok-count.ensures in omega (arith, ap (λ (m : Moved). m.routed.offices) e, stepped-few c.args.watch.now c.args.timeout c.args.row.now)

pub returns : goal.returns
returns c =
    let k = c.in_ok-sheet.ensures in
    step-let-in _ _ _ _ _ (sym k.ok) _ refl _ (step-told c.args.words.now _ _ _ _ _ _ _ c.in_ok-count.ensures (rw (k.words, c.read_row.ensures) at c.row_answer-value.ensures) refl)
