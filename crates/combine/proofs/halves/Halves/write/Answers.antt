-- `Halves::write` meets its contract: a step's row is stored behind those before it, where it has marks.
use mathlib.Core.Path.{refl, ap, subst, ◌∙◌}
use native.Mathlib.Omega.{arith}
use Rattle.std.specs.Prelude.{None}
use Rattle.combine.specs.declared.halves.Halves.{Halves}
use Rattle.combine.specs.declared.merge.Merge.{Merge}
use Rattle.combine.specs.Meets.{Meets, StepFrom}
use Rattle.combine.proofs.Stepping.{write-starts, write-ends, write-small, write-room, write-stores, write-passes}
use Rattle.combine.proofs.halves.Halves.write.Goals as goal

pub loop-step-init : goal.loop-step-init
loop-step-init c =
    let e = c.into_iter-step-iterator.ensures.into_iter_gives in
    let m = c.merge-step-items.ensures in
    (tt, tt, ap (λ (w : Merge). w.halves.now) e ∙ m.0, write-starts c.args.self.now _ _ _ _ _ (ap (λ (w : Merge). w.i) e ∙ m.1) (ap (λ (w : Merge). w.j) e ∙ m.2), refl)

pub row-row-requires : goal.row-row-requires
row-row-requires c =
    let L = c.loop-step in
    (subst (λ (G : Halves). Meets G L.step-iterator.i L.step-iterator.j c.in-Some.step) L.invariant.2 c.in-Some.ensures.steps.1).rows

pub put_cells-requires : goal.put_cells-requires
put_cells-requires c =
    let L = c.loop-step in
    let S = subst (λ (G : Halves). Meets G L.step-iterator.i L.step-iterator.j c.in-Some.step) L.invariant.2 c.in-Some.ensures.steps.1 in
    write-room c.args.self.now _ _ _ _ _ _ _ L.invariant.3 _ S _ c.row-row.ensures c.requires L.invariant.4 c.if-row-gt0.true

pub overflow_add-k : goal.overflow_add-k
overflow_add-k c = omega (arith, write-small c.args.self.now _ _ _ _ _ _ _ c.loop-step.invariant.3)

pub loop-step-preserved-then-row-gt0 : goal.loop-step-preserved-then-row-gt0
loop-step-preserved-then-row-gt0 c =
    let L = c.loop-step in
    let s = c.in-Some.ensures.steps in
    let S = subst (λ (G : Halves). Meets G L.step-iterator.i L.step-iterator.j c.in-Some.step) L.invariant.2 s.1 in
    (tt, tt, ap (λ h. h.now) s.0 ∙ L.invariant.2, write-stores c.args.self.now _ _ _ _ _ _ _ L.invariant.3 _ S _ c.row-row.ensures c.requires c.if-row-gt0.true _ _ s.2 _ c.put_cells.ensures, c.put_cells.auto.table ∙ L.invariant.4)

pub loop-step-preserved : goal.loop-step-preserved
loop-step-preserved c =
    let L = c.loop-step in
    let s = c.in-Some.ensures.steps in
    let S = subst (λ (G : Halves). Meets G L.step-iterator.i L.step-iterator.j c.in-Some.step) L.invariant.2 s.1 in
    (tt, tt, ap (λ h. h.now) s.0 ∙ L.invariant.2, write-passes c.args.self.now _ _ _ _ _ _ _ L.invariant.3 _ S _ c.row-row.ensures c.requires c.if-row-gt0.false _ _ s.2, L.invariant.4)

pub returns : goal.returns
returns c =
    let L = c.loop-step in
    write-ends c.args.self.now _ _ _ _ _ _ _ L.invariant.3 (subst (λ (G : Halves). StepFrom G L.step-iterator.i L.step-iterator.j None) L.invariant.2 c.in-None.ensures.steps.1)
