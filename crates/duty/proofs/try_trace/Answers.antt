-- `duty::try_trace` meets its contract: what refuses at the desk, the rows' refusal, then 25, then the answers.
use mathlib.Core.Path.{refl, sym}
use native.Mathlib.Omega.{arith}
use borrow.Author.Rules.{rules}
use Rattle.duty.proofs.Promising.{run-good, trace-refused, trace-short, trace-written, trace-turned-away, trace-let-in}
use Rattle.duty.proofs.try_trace.Goals as goal

pub returns-in_err-sheet : goal.returns-in_err-sheet
returns-in_err-sheet c = search (rules, trace-turned-away _ c.args.timeout c.args.rows.now c.args.out.now _ c.in_err-sheet.ensures.err.0 _ c.in_err-sheet.ensures.err.1 refl)

pub returns-in_err-count : goal.returns-in_err-count
returns-in_err-count c = search (rules, trace-let-in _ _ _ _ _ (sym c.in_ok-sheet.ensures.ok) _ refl _ (trace-refused c.args.words.now c.args.timeout c.args.rows.now c.args.out.now c.in_err-count.field-0.0 _ c.in_err-count.ensures refl))

pub returns-then-out-count : goal.returns-then-out-count
returns-then-out-count c =
    let g = run-good c.args.words.now c.args.timeout c.args.rows.now c.args.out.now c.in_ok-count.count c.in_ok-count.ensures in
    trace-let-in _ _ _ _ _ (sym c.in_ok-sheet.ensures.ok) _ refl _ (rw c.into.ensures (trace-short c.args.words.now c.args.timeout c.args.rows.now c.args.out.now g.0 _ g.1 c.if-out-count.true _ refl))

pub put_answers-requires : goal.put_answers-requires
put_answers-requires c = let g = run-good c.args.words.now c.args.timeout c.args.rows.now c.args.out.now c.in_ok-count.count c.in_ok-count.ensures in (g.0, omega (arith, g.1, c.if-out-count.false))

pub returns : goal.returns
returns c =
    let k = c.in_ok-sheet.ensures in
    let g = run-good c.args.words.now c.args.timeout c.args.rows.now c.args.out.now c.in_ok-count.count c.in_ok-count.ensures in
    trace-let-in _ _ _ _ _ (sym k.ok) _ refl _ (trace-written c.args.words.now c.args.timeout c.args.rows.now c.args.out.now g.0 _ g.1 c.if-out-count.false _ (rw k.words at c.put_answers.ensures))
