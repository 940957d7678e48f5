-- `lists::persons_with_grant_at` meets its contract: the folio has a row, and those whose walk for the deed leads to it have a grant path.
use Rattle.std.specs.Prelude.{Some}
use Rattle.lists.proofs.Picking.{deed-lacks, folio-lacks, right-known}
use Rattle.lists.proofs.Persons.{found-key, holders-found, known_some}
use native.Mathlib.Omega.{arith}
use borrow.Author.Rules.{rules}
use Rattle.lists.proofs.persons_with_grant_at.Goals as goal

pub returns-in_err-row_of : goal.returns-in_err-row_of
returns-in_err-row_of c = let e = c.in_err-row_of.ensures in search (rules, deed-lacks c.args.asked.now.at.sheet.words.now c.args.asked.now.question c.args.asked.now.at.seat c.args.asked.now.own c.in_err-row_of.field-0.0 e.0 e.1)

pub returns-in_err-to : goal.returns-in_err-to
returns-in_err-to c = let e = c.in_err-to.ensures in search (rules, folio-lacks c.args.asked.now.at.sheet.words.now c.args.asked.now.question c.args.asked.now.at.seat c.args.asked.now.own c.in_err-to.field-0.0 c.in_ok-row_of.ensures.0 e.0 e.1)

pub returns : goal.returns
returns c =
    let o = c.args.asked.now.at in
    let d = c.in_ok-row_of.ensures in
    let e = c.in_ok-to.ensures in (
      right-known _ _ _ c.args.asked.now.own d.0 e.0,
      holders-found _ _ _ _ (record { formed = o.sheet.formed; seated = o.seated }) _ _ e.1 _ (found-key _ _ _ o.sheet.formed _ _ _ _ e.1 e.2 (λ z. omega arith)) (known_some _ _ _ o.sheet.formed _ _ _ d.0) c.persons_to.new.list (Some c.persons_to.result) c.persons_to.ensures,
    )
