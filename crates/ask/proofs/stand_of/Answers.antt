-- `ask::stand_of` meets its contract: 20 where there is no such office; else whom it does not know, or the question is placed.
use borrow.Author.Rules.{rules}
use mathlib.Core.Path.{refl, sym}
use Rattle.ask.proofs.Standing.{no-office, office-unknown}
use Rattle.ask.proofs.stand_of.Goals as goal

pub returns-in_err-at-clause-err : goal.returns-in_err-at-clause-err
returns-in_err-at-clause-err c = search (rules, no-office c.args.sheet.now c.args.question _ c.in_err-at.ensures.err)

pub returns-in_err-places-clause-err : goal.returns-in_err-places-clause-err
returns-in_err-places-clause-err c = search (rules, office-unknown c.args.sheet.now c.args.question c.in_ok-at.at _ c.in_ok-at.ensures.ok c.in_err-places.ensures.err)

pub returns-clause-ok : goal.returns-clause-ok
returns-clause-ok c = let e = c.in_ok-at.ensures.ok in
    (e.0, e.1, refl, sym (office-unknown c.args.sheet.now c.args.question c.in_ok-at.at 0 e (sym c.in_ok-places.ensures.ok.0)))
