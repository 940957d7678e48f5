-- `ask::places_of` meets its contract: who is not known is told in the table's order, and three rows place the question.
use borrow.Author.Rules.{rules}
use mathlib.Core.Path.{ap, ◌∙◌}
use Rattle.sheet.specs.FaultNumbers.{fault_number}
use Rattle.sheet.proofs.Forming.{words_of}
use Rattle.ask.proofs.Placing.{missing-person, missing-deed, missing-folio, places-all}
use Rattle.ask.proofs.places_of.Goals as goal

pub returns-in_err-person-clause-err : goal.returns-in_err-person-clause-err
returns-in_err-person-clause-err c = let e = c.in_err-person.ensures.err in
    search (rules, ap fault_number e.0 ∙ missing-person _ _ _ c.args.q e.1)

pub returns-in_err-known_row-clause-err : goal.returns-in_err-known_row-clause-err
returns-in_err-known_row-clause-err c = let e = c.in_err-known_row.ensures.err in
    search (rules, ap fault_number e.0 ∙ missing-deed _ _ _ c.args.q c.in_ok-person.ensures.ok.known e.1)

pub returns-in_err-folio-clause-err : goal.returns-in_err-folio-clause-err
returns-in_err-folio-clause-err c = let e = c.in_err-folio.ensures.err in
    search (rules, ap fault_number e.0 ∙ missing-folio _ _ _ c.args.q c.in_ok-person.ensures.ok.known c.in_ok-known_row.ensures.ok.known e.1)

pub returns-clause-ok : goal.returns-clause-ok
returns-clause-ok c = places-all _ _ _ c.args.q (words_of _ _ _ c.args.at.now.sheet.formed) _ _ _ c.in_ok-person.ensures.ok c.in_ok-known_row.ensures.ok c.in_ok-folio.ensures.ok
