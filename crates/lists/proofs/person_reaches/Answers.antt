-- `lists::person_reaches` meets its contract: nothing is said of a row that is no person's, and else the walk's number at the row tells.
use Rattle.sheet.specs.declared.Node.{Node}
use mathlib.Core.Path.{ap, ◌∙◌}
use Rattle.lists.proofs.person_reaches.Goals as goal

pub returns-then-node-ne-PERSON : goal.returns-then-node-ne-PERSON
returns-then-node-ne-PERSON c = λ e. absurd (c.if-node-ne-PERSON.true (ap (λ (x : Node). x.class) c.node.ensures ∙ e))

pub returns : goal.returns
returns c = λ e. c.person_reach.ensures.each _ c.requires.1
