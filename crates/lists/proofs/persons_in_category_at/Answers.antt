-- `lists::persons_in_category_at` meets its contract: the category has a row, and those whose walk leads to it are in the category.
use Rattle.std.specs.Prelude.{Some}
use Rattle.lists.proofs.Picking.{category-lacks, category-known}
use Rattle.lists.proofs.Persons.{found-key, persons-found}
use native.Mathlib.Omega.{arith}
use borrow.Author.Rules.{rules}
use Rattle.lists.proofs.persons_in_category_at.Goals as goal

pub returns-in_err-to : goal.returns-in_err-to
returns-in_err-to c = let e = c.in_err-to.ensures in search (rules, category-lacks c.args.asked.now.at.sheet.words.now c.args.asked.now.question c.args.asked.now.at.seat c.args.asked.now.own c.in_err-to.field-0.0 e.0 e.1)

pub returns : goal.returns
returns c =
    let o = c.args.asked.now.at in
    let e = c.in_ok-to.ensures in (
      category-known _ _ _ c.args.asked.now.own e.0,
      persons-found _ _ _ _ (record { formed = o.sheet.formed; seated = o.seated }) _ _ e.1 _ (found-key _ _ _ o.sheet.formed _ _ _ _ e.1 e.2 (λ z. omega arith)) c.persons_to.new.list (Some c.persons_to.result) c.persons_to.ensures,
    )
