use mathlib.Core.Path.{sym, ap, ◌∙◌, refl}
use native.Mathlib.Omega.{arith}
use Rattle.listing.specs.LineByLine.{own_fault}
use Rattle.listing.proofs.Cutting.{through-first, through-next, line_taken, came-inside, came-end}
use Rattle.listing.proofs.Refused.{some-told, none-told}
use Rattle.listing.proofs.look_through.Goals as goal

pub loop-at-init : goal.loop-at-init
loop-at-init c = through-first _ _

pub own_fault-fault-requires : goal.own_fault-fault-requires
own_fault-fault-requires c = c.take_line-taken.ensures.good

pub returns-then-is_some : goal.returns-then-is_some
returns-then-is_some c = record {
  inside = c.loop-at.invariant.came.many;
  good = c.loop-at.invariant.so_far;
  through = λ e. absurd (some-told _ (sym c.is_some.ensures ∙ c.if-is_some.true) e);
  stopped = λ e. (came-inside _ _ _ c.loop-at.invariant.came _ c.take_line-taken.ensures, c.own_fault-fault.ensures ∙ ap own_fault (line_taken _ _ _ c.loop-at.invariant.came _ c.take_line-taken.ensures));
}

pub overflow_add-count : goal.overflow_add-count
overflow_add-count c = omega (arith, c.loop-at.invariant.came.passed, c.loop-at.invariant.came.inside)

pub loop-at-smaller : goal.loop-at-smaller
loop-at-smaller c = omega (arith, c.take_line-taken.ensures.passed)

pub loop-at-preserved : goal.loop-at-preserved
loop-at-preserved c =
    through-next _ _ _ _ c.loop-at.invariant _ c.take_line-taken.ensures
    (ap own_fault (sym (line_taken _ _ _ c.loop-at.invariant.came _ c.take_line-taken.ensures)) ∙ sym c.own_fault-fault.ensures ∙ none-told _ (sym c.is_some.ensures ∙ c.if-is_some.false))

pub returns : goal.returns
returns c = record {
  inside = c.loop-at.invariant.came.many;
  good = c.loop-at.invariant.so_far;
  through = λ e. came-end _ _ _ c.loop-at.invariant.came (omega arith);
  stopped = λ e. absurd (e refl);
}
