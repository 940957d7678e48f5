use native.Mathlib.Omega.{arith}
use mathlib.Core.Path.{sym, ap, ◌∙◌}
use Rattle.std.specs.Prelude.{Some, None}
use Rattle.sheet.specs.declared.Node.{Node}
use Rattle.reach.proofs.Touring.{reached-at}
use Rattle.least.proofs.Marked.{rows-at}
use Rattle.least.proofs.Searching.{none_more, none_row, none-through}
use Rattle.least.proofs.Leasts.{both-least, both-none, no-person, no_deed, first-folio}
use Rattle.least.proofs.first_both.Goals as goal

pub loop-i-preserved-then-person-ne-PERSON : goal.loop-i-preserved-then-person-ne-PERSON
loop-i-preserved-then-person-ne-PERSON c =
    none_more _ c.loop-i.i c.loop-i.invariant
    (no-person _ _ _ c.args.rights.now.at.sheet.formed _ _ (λ e. c.if-person-ne-PERSON.true (ap (λ (n : Node). n.class) c.node-person.ensures ∙ e)))

pub loop-x-preserved-then-not-is_new_deed : goal.loop-x-preserved-then-not-is_new_deed
loop-x-preserved-then-not-is_new_deed c =
    let R = c.args.rights.now in
    let x = c.loop-x in
    none_more _ x.x x.invariant (no_deed _ _ _ R.at.sheet.formed _ _ _ (reached-at R.at 3 _ R.granting _ _ c.person_reach-d.ensures) x.x c.loop-x-test.true (sym c.is_new_deed.ensures ∙ c.if-not-is_new_deed.true) x.invariant)

pub returns-in-Some : goal.returns-in-Some
returns-in-Some c =
    let R = c.args.rights.now in
    let F = first-folio _ _ _ R.at.sheet.formed _ _ c.loop-i-test.true (sym (ap (λ (n : Node). n.class) c.node-person.ensures) ∙ c.if-person-ne-PERSON.false)
    _ _ (reached-at R.at 3 _ R.granting _ _ c.person_reach-d.ensures) (reached-at R.at 4 _ R.banning _ _ c.person_reach-e.ensures)
    _ c.loop-x-test.true (sym c.is_new_deed.ensures ∙ c.if-not-is_new_deed.false) _ (ap (λ (n : Node). n.number) c.node-deed.ensures)
    _ _ (rows-at R.at 3 _ R.granting _ _ _ c.rows_by_deed-one.ensures) (rows-at R.at 4 _ R.banning _ _ _ c.rows_by_deed-two.ensures) (Some c.in-Some.f) c.in-Some.ensures in
    rw (c.node-person.ensures, c.node-deed.ensures, c.node.ensures)
    (both-least _ _ _ R.at.sheet.formed _ _ _ _ c.loop-i-test.true c.loop-x-test.true F.0 F.1 c.loop-i.invariant c.loop-x.invariant (λ k l ws y. F.2 k l y.1))

pub loop-x-preserved : goal.loop-x-preserved
loop-x-preserved c =
    let R = c.args.rights.now in
    let F = first-folio _ _ _ R.at.sheet.formed _ _ c.loop-i-test.true (sym (ap (λ (n : Node). n.class) c.node-person.ensures) ∙ c.if-person-ne-PERSON.false)
    _ _ (reached-at R.at 3 _ R.granting _ _ c.person_reach-d.ensures) (reached-at R.at 4 _ R.banning _ _ c.person_reach-e.ensures)
    _ c.loop-x-test.true (sym c.is_new_deed.ensures ∙ c.if-not-is_new_deed.false) _ (ap (λ (n : Node). n.number) c.node-deed.ensures)
    _ _ (rows-at R.at 3 _ R.granting _ _ _ c.rows_by_deed-one.ensures) (rows-at R.at 4 _ R.banning _ _ _ c.rows_by_deed-two.ensures) None c.in_default.ensures in
    none_more _ c.loop-x.x c.loop-x.invariant (none_row _ _ _ F)

pub loop-i-preserved : goal.loop-i-preserved
loop-i-preserved c = none_more _ c.loop-i.i c.loop-i.invariant (none-through _ _ _ (λ j l. c.loop-x.invariant j (omega (arith, l, c.loop-x-test.false))))

pub returns : goal.returns
returns c = both-none _ _ _ c.args.rights.now.at.sheet.formed _ (λ j l. c.loop-i.invariant j (omega (arith, l, c.loop-i-test.false)))
