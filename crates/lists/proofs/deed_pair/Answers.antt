-- `lists::deed_pair` meets its contract: the table's lines in their order, at the question's office.
use Rattle.lists.proofs.Picking.{pair-first, pair-other, pair-same}
use borrow.Author.Rules.{rules}
use mathlib.Core.Path.{◌∙◌}
use Rattle.lists.proofs.deed_pair.Goals as goal

pub returns-in_err-row_of : goal.returns-in_err-row_of
returns-in_err-row_of c = let e = c.in_err-row_of.ensures in search (rules, pair-first c.args.asked.now.at.sheet.words.now c.args.asked.now.question c.args.asked.now.at.seat c.args.asked.now.own c.in_err-row_of.field-0.0 e.0 e.1)

pub returns-in_err-row_of-2 : goal.returns-in_err-row_of-2
returns-in_err-row_of-2 c = let e = c.in_err-row_of-2.ensures in search (rules, pair-other c.args.asked.now.at.sheet.words.now c.args.asked.now.question c.args.asked.now.at.seat c.args.asked.now.own c.in_err-row_of-2.field-0.0 c.in_ok-row_of.ensures.0 e.0 e.1)

pub returns : goal.returns
returns c = c.same_deed.ensures ∙ pair-same _ _ _ c.args.asked.now.own c.in_ok-row_of.ensures.0 c.in_ok-row_of-2.ensures.0
