-- `Halves::survey` meets its contract: a step combines its rows, and notes their places.
use Prim.Native.Nat.{◌+◌}
use mathlib.Core.Path.{refl, ap, subst, ◌∙◌}
use native.Mathlib.Omega.{arith}
use Rattle.std.specs.Prelude.{None}
use Rattle.combine.specs.declared.halves.Halves.{Halves}
use Rattle.combine.specs.declared.merge.Merge.{Merge}
use Rattle.combine.specs.Meets.{Meets, StepFrom}
use Rattle.combine.proofs.Stepping.{steps-counted, byte-few, survey-starts, survey-goes, survey-ends, survey-small}
use Rattle.combine.proofs.halves.Halves.survey.Goals as goal

pub loop-step-init : goal.loop-step-init
loop-step-init c =
    let e = c.into_iter-step-iterator.ensures.into_iter_gives in
    let m = c.merge-step-items.ensures in
    (tt, tt, ap (λ (w : Merge). w.halves.now) e ∙ m.0, survey-starts c.args.self.now _ _ (ap (λ (w : Merge). w.i) e ∙ m.1) (ap (λ (w : Merge). w.j) e ∙ m.2) _ _, refl, refl)

pub overflow_cast-kept : goal.overflow_cast-kept
overflow_cast-kept c = omega (arith, survey-small c.args.self.now _ _ _ _ _ c.loop-step.invariant.3)

pub overflow_cast-kept-in-loop-step : goal.overflow_cast-kept-in-loop-step
overflow_cast-kept-in-loop-step c = omega (arith, survey-small c.args.self.now _ _ _ _ _ c.loop-step.invariant.3)

pub overflow_add-kept : goal.overflow_add-kept
overflow_add-kept c = omega (arith, survey-small c.args.self.now _ _ _ _ _ c.loop-step.invariant.3, byte-few _ _ c.from-kept.ensures)

pub loop-step-preserved : goal.loop-step-preserved
loop-step-preserved c =
    let H = c.args.self.now in
    let L = c.loop-step in
    let V = L.invariant in
    let s = c.in-Some.ensures.steps in
    let S = subst (λ (G : Halves). Meets G L.step-iterator.i L.step-iterator.j c.in-Some.step) V.2 s.1 in (
      tt,
      tt,
      ap (λ h. h.now) s.0 ∙ V.2,
      survey-goes H _ _ _ _ S _ c.marks.ensures _ (ap (λ x. L.kept + x) (c.from-kept.ensures ∙ steps-counted _)) _ _ s.2 _ _ V.3 _ _ (rw c.first.ensures at c.note.ensures) (rw c.second.ensures at c.note-in-loop-step.ensures),
      c.note.auto.spots ∙ V.4,
      c.note-in-loop-step.auto.spots ∙ V.5,
    )

pub returns : goal.returns
returns c =
    let H = c.args.self.now in
    let L = c.loop-step in
    survey-ends H _ _ _ _ _ L.invariant.3 (subst (λ (G : Halves). StepFrom G L.step-iterator.i L.step-iterator.j None) L.invariant.2 c.in-None.ensures.steps.1)
