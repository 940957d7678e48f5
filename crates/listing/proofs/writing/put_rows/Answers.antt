use mathlib.Core.Path.{◌≡◌, refl, ap, ◌∙◌}
use native.Mathlib.Omega.{arith}
use Rattle.sheet.specs.Rows.{count_in}
use Rattle.sheet.proofs.Widths.{rows_few}
use Rattle.lines.specs.Nine.{line_text}
use Rattle.listing.specs.Printed.{row_line, printed_lines}
use Rattle.listing.proofs.Printing.{printed-next, puts_none, puts_then, puts-as, line-in}
use Rattle.listing.proofs.writing.put_rows.Goals as goal

pub loop-i-init : goal.loop-i-init
loop-i-init c = (omega arith, puts_none c.args.out.now c.args.at (row_line c.args.half c.args.sheet.now.words.now), refl)

pub put_behind-end-requires : goal.put_behind-end-requires
put_behind-end-requires c =
    let L = c.loop-i in
    let F = rw c.args.sheet.now.formed.table at c.args.sheet.now.formed in
    let f = line-in _ _ F c.args.half L.i _ (omega (arith, c.loop-i-test.true, c.count-i-end.ensures)) c.row_line.ensures in
    (f.0, f.1, omega (arith, c.requires, L.invariant.0, c.loop-i-test.true, c.count-i-end.ensures, rows_few c.args.half _ _ F.nodes.header))

pub loop-i-preserved : goal.loop-i-preserved
loop-i-preserved c =
    let L = c.loop-i in
    let P = c.put_behind-end in
    let f = row_line c.args.half c.args.sheet.now.words.now in
    let p = puts-as (ap line_text c.row_line.ensures) P.ensures.1 in
    (omega (arith, L.invariant.0, P.ensures.0), puts-as (printed-next f L.i) (puts_then L.invariant.1 p L.invariant.2), P.auto.out ∙ L.invariant.2)

pub shape_of-out : goal.shape_of-out
shape_of-out c = c.loop-i.invariant.2

pub returns : goal.returns
returns c =
    let L = c.loop-i in
    let e : L.i ≡ count_in c.args.half c.args.sheet.now.header = omega (arith, c.loop-i-test.false, c.count-i-end.ensures) in
    (omega (arith, L.invariant.0, e), puts-as (ap (printed_lines (row_line c.args.half c.args.sheet.now.words.now)) e) L.invariant.1)
