use mathlib.Core.Path.{sym, ◌∙◌}
use native.Mathlib.Omega.{arith}
use Rattle.lines.specs.Nine.{numbers_of}
use Rattle.lines.proofs.Spelled.{spelling-starts, spelling-mark, spelling-plain, spelling-done, spelling-long}
use Rattle.lines.proofs.put_pattern.Goals as goal
use Rattle.lines.proofs.put_pattern.Goals.{then-of_number, else-of_number}

pub loop-p-init : goal.loop-p-init
loop-p-init c = (omega arith, omega arith, spelling-starts c.args.pattern.now (numbers_of c.args.l) c.args.out.now)

pub put_mark-at-requires : goal.put_mark-at-requires
put_mark-at-requires c =
    omega (arith, c.requires, c.loop-p.invariant.1, c.loop-p-test.true, spelling-long c.args.pattern.now (numbers_of c.args.l) c.args.out.now _ _ _ _ c.loop-p.invariant.2)

pub loop-p-preserved : goal.loop-p-preserved
loop-p-preserved c =
    let L = c.loop-p in
    let h = c.loop-p-test.true in
    let E = c.put_mark-at.ensures in
    elim c.if-of_number.branch [
      | then-of_number w ↦
          (omega (arith, L.invariant.0, w.k-is), omega (arith, L.invariant.1, E.0), rw w.k-is (spelling-mark c.args.pattern.now (numbers_of c.args.l) c.args.out.now _ L.k L.at _ L.out _ h L.invariant.2 E.1 (sym c.of_number.ensures ∙ w.if-of_number.true)))
      | else-of_number w ↦
          (omega (arith, L.invariant.0, w.k-is), omega (arith, L.invariant.1, E.0), rw w.k-is (spelling-plain c.args.pattern.now (numbers_of c.args.l) c.args.out.now _ L.k L.at _ L.out _ h L.invariant.2 E.1 (sym c.of_number.ensures ∙ w.if-of_number.false)))
    ]

pub shape_of-out : goal.shape_of-out
shape_of-out c = spelling-long c.args.pattern.now (numbers_of c.args.l) c.args.out.now _ _ _ _ c.loop-p.invariant.2

pub returns : goal.returns
returns c = (omega (arith, c.loop-p.invariant.1), spelling-done c.args.pattern.now (numbers_of c.args.l) c.args.out.now _ _ _ _ c.loop-p-test.false c.loop-p.invariant.2)
