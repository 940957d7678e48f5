-- `redundant::is_redundant` meets its contract: the walks that judge a row lead from its one end to the other past it, or not.
use mathlib.Core.Path.{sym, ◌∙◌}
use mathlib.Core.Bool.{true}
use borrow.Author.Tests.{eqb-true}
use Rattle.paths.proofs.Tests.{and_left, and_right}
use Rattle.sheet.specs.Kinds.{member_kind}
use Rattle.redundant.proofs.Pruning.{unmarked, ban-says, member-says, other-says, bans-say, not-asked, past-at, both-past-at}
use Rattle.redundant.proofs.is_redundant.Goals as goal

pub returns-then-not-counts : goal.returns-then-not-counts
returns-then-not-counts c =
    let o = c.args.rights.now.at in
    unmarked _ _ _ o.sheet.formed o.seat _ _ c.edge-e.ensures (sym c.counts.ensures ∙ c.if-not-counts.true)

pub returns-then-e-eq-BAN : goal.returns-then-e-eq-BAN
returns-then-e-eq-BAN c =
    let R = c.args.rights.now in
    ban-says _ _ _ R.at.sheet.formed R.at.seat _ _ c.edge-e.ensures c.requires.0 (sym c.counts.ensures ∙ c.if-not-counts.false) c.if-e-eq-BAN.true
    c.leads_past.result (past-at R.at 4 _ R.banning c.edge-e.result _ c.leads_past.ensures)

pub returns-then-bans-e : goal.returns-then-bans-e
returns-then-bans-e c =
    let R = c.args.rights.now in
    let T = c.if-bans-e.true in
    member-says _ _ _ R.at.sheet.formed R.at.seat _ _ c.edge-e.ensures c.requires.0 (sym c.counts.ensures ∙ c.if-not-counts.false)
    (eqb-true _ member_kind (and_right c.args.bans _ T)) (bans-say _ R.at.seat _ _ R.at.sheet.formed true (sym (and_left c.args.bans _ T) ∙ c.requires.1))
    c.both_lead_past.result (both-past-at R.at _ R.granting _ R.banning c.edge-e.result _ c.both_lead_past.ensures)

pub returns : goal.returns
returns c =
    let R = c.args.rights.now in
    other-says _ _ _ R.at.sheet.formed R.at.seat _ _ c.edge-e.ensures c.requires.0 (sym c.counts.ensures ∙ c.if-not-counts.false) c.if-e-eq-BAN.false
    (not-asked c.args.bans _ (bans-say _ R.at.seat _ _ R.at.sheet.formed c.args.bans c.requires.1) c.if-bans-e.false)
    c.leads_past-2.result (past-at R.at 3 _ R.granting c.edge-e.result _ c.leads_past-2.ensures)
