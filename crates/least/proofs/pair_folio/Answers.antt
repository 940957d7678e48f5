-- `least::pair_folio` meets its contract: what the person reaches starts one run for each deed, and a folio row numbered by both is one of the pair.
use mathlib.Core.Path.{sym, ap, ◌∙◌}
use Rattle.sheet.specs.declared.Node.{Node}
use Rattle.reach.proofs.Touring.{reached-at}
use Rattle.least.proofs.Marked.{rows-at}
use Rattle.least.proofs.Leasts.{first-pair}
use Rattle.least.proofs.pair_folio.Goals as goal

pub returns : goal.returns
returns c =
    let o = c.args.at.now in
    let P = c.requires.0 in
    first-pair _ _ _ o.sheet.formed _ _ _ _ c.requires.1 (sym (ap (λ (n : Node). n.class) c.node.ensures) ∙ c.if-node-ne-PERSON.false)
    _ (reached-at o 3 _ P _ _ c.person_reach-d.ensures)
    _ _ (rows-at o 3 _ P _ _ _ c.rows_by_deed-one.ensures) (rows-at o 3 _ P _ _ _ c.rows_by_deed-two.ensures) _ c.first_common.ensures
