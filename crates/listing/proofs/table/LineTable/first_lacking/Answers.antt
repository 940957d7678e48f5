use native.Mathlib.Omega.{arith}
use Rattle.lines.specs.declared.Line.{Line}
use Rattle.listing.specs.Cut.{lines_said}
use Rattle.listing.specs.LineByLine.{lacks_end}
use Rattle.listing.proofs.Cutting.{through-first, through-next, more_bytes, line-tells, stands_here, stands-nowhere}
use Rattle.listing.proofs.table.LineTable.first_lacking.Goals as goal

pub loop-i-init : goal.loop-i-init
loop-i-init c = through-first _ _

pub take_line-taken-requires : goal.take_line-taken-requires
take_line-taken-requires c = more_bytes _ _ _ c.loop-i.invariant.came (omega (arith, c.args.self.now.tabled.inside))

pub returns-then-lacks_end : goal.returns-then-lacks_end
returns-then-lacks_end c =
    stands_here _ _ _ _ _ c.loop-i.invariant (omega arith)
    (line-tells _ _ _ c.loop-i.invariant.came _ c.take_line-taken.ensures (λ (x : Line). lacks_end (lines_said c.args.self.now.text.now) c.args.self.now.count x) _ c.from.ensures _ _ c.lacks_end.ensures c.if-lacks_end.true)

pub loop-i-preserved : goal.loop-i-preserved
loop-i-preserved c =
    through-next _ _ _ _ c.loop-i.invariant _ c.take_line-taken.ensures
    (line-tells _ _ _ c.loop-i.invariant.came _ c.take_line-taken.ensures (λ (x : Line). lacks_end (lines_said c.args.self.now.text.now) c.args.self.now.count x) _ c.from.ensures _ _ c.lacks_end.ensures c.if-lacks_end.false)

pub returns : goal.returns
returns c = stands-nowhere _ _ _ _ _ c.loop-i.invariant (omega arith)
