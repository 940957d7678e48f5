use Rattle.listing.specs.LineByLine.{InTable}
use Rattle.listing.proofs.Tabling.{table_more}
use Rattle.listing.proofs.Cutting.{came-first, came-next, more_bytes, line_taken}
use Rattle.listing.specs.Cut.{lines_said}
use mathlib.Core.Path.{sym, ◌∙◌, subst, refl}
use native.Mathlib.Omega.{arith}
use Rattle.listing.proofs.fill_table.Goals as goal

pub loop-i-init : goal.loop-i-init
loop-i-init c = (came-first _, refl, λ j h. absurd (omega arith))

pub take_line-taken-requires : goal.take_line-taken-requires
take_line-taken-requires c = more_bytes _ _ _ c.loop-i.invariant.0 (omega arith)

pub put_four-requires : goal.put_four-requires
put_four-requires c = omega (arith, c.requires.1, c.loop-i.invariant.1)

pub loop-i-preserved : goal.loop-i-preserved
loop-i-preserved c = let w = c.put_four.ensures in (
  came-next _ _ _ c.loop-i.invariant.0 _ c.take_line-taken.ensures,
  c.put_four.auto.rows ∙ c.loop-i.invariant.1,
  subst (InTable (lines_said c.args.text.now) _) (sym w) (table_more (lines_said c.args.text.now) _ _ _ (omega (arith, c.requires.1, c.loop-i.invariant.1)) c.loop-i.invariant.2 (c.from.ensures ∙ line_taken _ _ _ c.loop-i.invariant.0 _ c.take_line-taken.ensures)),
)
