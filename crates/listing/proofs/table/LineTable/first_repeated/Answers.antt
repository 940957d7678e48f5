use mathlib.Core.Path.{◌∙◌}
use native.Mathlib.Omega.{arith}
use Rattle.listing.specs.Cut.{lines_said}
use Rattle.listing.proofs.Cutting.{through-first, through-next, more_bytes, line_taken, stands_here, stands-nowhere}
use Rattle.listing.proofs.Tabling.{is-repeated, not-repeated}
use Rattle.listing.proofs.table.LineTable.first_repeated.Goals as goal

pub loop-i-init : goal.loop-i-init
loop-i-init c = through-first _ _

pub take_line-taken-requires : goal.take_line-taken-requires
take_line-taken-requires c = more_bytes _ _ _ c.loop-i.invariant.came (omega (arith, c.args.self.now.tabled.inside))

pub returns-then-first-i : goal.returns-then-first-i
returns-then-first-i c =
    stands_here _ _ _ _ _ c.loop-i.invariant (omega arith)
    (is-repeated (lines_said c.args.self.now.text.now) _ _ (omega arith) _ (c.from.ensures ∙ line_taken _ _ _ c.loop-i.invariant.came _ c.take_line-taken.ensures) _ c.line_with.ensures (omega (arith, c.unwrap_or-first.ensures, c.if-first-i.true)))

pub loop-i-preserved : goal.loop-i-preserved
loop-i-preserved c =
    through-next _ _ _ _ c.loop-i.invariant _ c.take_line-taken.ensures
    (not-repeated (lines_said c.args.self.now.text.now) _ _ (omega arith) _ (c.from.ensures ∙ line_taken _ _ _ c.loop-i.invariant.came _ c.take_line-taken.ensures) _ c.line_with.ensures (omega (arith, c.unwrap_or-first.ensures, c.if-first-i.false)))

pub returns : goal.returns
returns c = stands-nowhere _ _ _ _ _ c.loop-i.invariant (omega arith)
