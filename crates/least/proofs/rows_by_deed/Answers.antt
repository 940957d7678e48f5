-- `least::rows_by_deed` meets its contract: a run from the deed's rows that are marked.
use mathlib.Core.Path.{◌∙◌}
use Rattle.least.proofs.Marked.{rows-by}
use Rattle.least.proofs.rows_by_deed.Goals as goal

pub returns : goal.returns
returns c = let D = c.deed_starts-rows.ensures in
    rows-by _ _ _ _ _ _ _ _ (c.run.auto.d ∙ D.long) D c.run.ensures
