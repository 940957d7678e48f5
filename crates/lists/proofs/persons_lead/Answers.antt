-- `lists::persons_lead` meets its contract: a walk from all persons' rows is one from some person's.
use Rattle.lists.proofs.Starting.{persons-lead}
use mathlib.Core.Path.{◌∙◌}
use Rattle.lists.proofs.persons_lead.Goals as goal

pub returns : goal.returns
returns c =
    let L = c.layers in
    let D = c.person_starts-rows.ensures in
    persons-lead _ _ _ _ _ _ (L.auto.d ∙ D.long) D L.ensures
