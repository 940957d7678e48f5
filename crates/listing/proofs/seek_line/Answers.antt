use native.Mathlib.Omega.{arith}
use Rattle.lines.specs.declared.Line.{Line}
use Rattle.lines.specs.Naming.{same_line}
use Rattle.listing.proofs.Cutting.{through-first, through-next, more_bytes, stands_here, stands-nowhere, line-tells}
use Rattle.listing.proofs.seek_line.Goals as goal

pub loop-i-init : goal.loop-i-init
loop-i-init c = through-first _ _

pub take_line-taken-requires : goal.take_line-taken-requires
take_line-taken-requires c = more_bytes _ _ _ c.loop-i.invariant.came (omega arith)

pub returns-then-same_line : goal.returns-then-same_line
returns-then-same_line c = stands_here _ _ _ _ _ c.loop-i.invariant (omega arith) (line-tells _ _ _ c.loop-i.invariant.came _ c.take_line-taken.ensures (λ (x : Line). same_line x c.args.l) _ c.from.ensures _ _ c.same_line.ensures c.if-same_line.true)

pub loop-i-preserved : goal.loop-i-preserved
loop-i-preserved c = through-next _ _ _ _ c.loop-i.invariant _ c.take_line-taken.ensures (line-tells _ _ _ c.loop-i.invariant.came _ c.take_line-taken.ensures (λ (x : Line). same_line x c.args.l) _ c.from.ensures _ _ c.same_line.ensures c.if-same_line.false)

pub returns : goal.returns
returns c = stands-nowhere _ _ _ _ _ c.loop-i.invariant (omega arith)
