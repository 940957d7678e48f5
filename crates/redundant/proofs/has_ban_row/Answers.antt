use mathlib.Core.Path.{sym, ◌∙◌}
use native.Mathlib.Omega.{arith}
use Rattle.tables.proofs.Counts.{some-none, some_at}
use Rattle.redundant.proofs.Pruning.{ban-tested}
use Rattle.redundant.proofs.has_ban_row.Goals as goal

pub returns-then-counts-e : goal.returns-then-counts-e
returns-then-counts-e c =
    let o = c.args.at.now in
    sym (some_at _ o.sheet.header.edges c.loop-j.j c.loop-j-test.true (ban-tested _ _ o.seat _ _ _ c.edge-e.ensures c.counts.ensures ∙ c.if-counts-e.true))

pub returns : goal.returns
returns c = sym (some-none _ _ (λ i l. c.loop-j.invariant i (omega (arith, l, c.loop-j-test.false))))
