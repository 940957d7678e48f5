-- `lists::try_sought` meets its contract: what refuses the sheet, the office, what is named and the output, or the words found.
use mathlib.Core.Path.{refl, sym, ap, ◌∙◌}
use borrow.Author.Rules.{rules}
use Rattle.sheet.specs.declared.Header.{Header}
use Rattle.sheet.specs.FaultNumbers.{fault_number}
use Rattle.question.specs.Asked.{bad_office}
use Rattle.question.proofs.Telling.{fault-some, shown-bad, shown-fault, shown-stands, show-missing}
use Rattle.question.specs.Replies.{refused_by}
use Rattle.lists.specs.Sought.{sought_fault, sought_is}
use Rattle.lists.proofs.Picking.{fault-office}
use Rattle.lists.proofs.Finding.{head-of, words-of, own-is}
use Rattle.lists.proofs.Handing.{handed-shows}
use Rattle.lists.proofs.try_sought.Goals as goal

pub returns-in_err-sheet : goal.returns-in_err-sheet
returns-in_err-sheet c = search (rules, shown-bad (sought_is c.args.search c.args.words.now c.args.q) c.args.out.now c.args.words.now (sought_fault c.args.search c.args.words.now c.args.q) c.in_err-sheet.field-0.0 c.in_err-sheet.ensures.err)

pub returns-in_err-at : goal.returns-in_err-at
returns-in_err-at c =
    let k = c.in_ok-sheet.ensures in
    let f = c.in_err-at.field-0.0 in
    search (
      rules,
      shown-fault (sought_is c.args.search c.args.words.now c.args.q) c.args.out.now c.args.words.now (sought_fault c.args.search c.args.words.now c.args.q) f _ k.ok
          (fault-office c.args.search c.args.words.now c.args.q (fault_number f) (c.in_err-at.ensures.err ∙ ap (λ (x : Header). bad_office x c.args.q.office) (head-of c.args.words c.in_ok-sheet.sheet k.words)) (fault-some f)) refl,
    )

pub returns-in_err-count : goal.returns-in_err-count
returns-in_err-count c =
    let k = c.in_ok-sheet.ensures in
    let o = c.in_ok-at.ensures.ok in
    search (
      rules,
      shown-fault (sought_is c.args.search c.args.words.now c.args.q) c.args.out.now c.args.words.now (sought_fault c.args.search c.args.words.now c.args.q) c.in_err-count.field-0.0 _ k.ok
          (c.in_err-count.ensures ∙ own-is c.args.words c.in_ok-sheet.sheet k.words c.in_ok-at.at o.0 c.args.search c.args.q o.2) refl,
    )

pub returns-in_default : goal.returns-in_default
returns-in_default c =
    let k = c.in_ok-sheet.ensures in
    let o = c.in_ok-at.ensures.ok in
    let w = words-of c.args.words c.in_ok-sheet.sheet k.words c.in_ok-at.at o.0 in
    let e = (rw (w, c.in_default.is) at c.in_ok-count.ensures) in
    shown-stands _ _ _ _ _ _ k.ok (sym (own-is c.args.words c.in_ok-sheet.sheet k.words c.in_ok-at.at o.0 c.args.search c.args.q o.2) ∙ c.in_ok-count.ensures.0) (show-missing _ _ _ _ e.1 (ap refused_by c.into.ensures) refl)

pub returns-in_err-hand_over : goal.returns-in_err-hand_over
returns-in_err-hand_over c =
    let k = c.in_ok-sheet.ensures in
    let o = c.in_ok-at.ensures.ok in
    let w = words-of c.args.words c.in_ok-sheet.sheet k.words c.in_ok-at.at o.0 in
    let e = (rw (w, c.in-Some.is) at c.in_ok-count.ensures) in
    let h = handed-shows (sought_is c.args.search c.args.words.now c.args.q) _ c.args.out.now e.1.1 c.in_err-hand_over.ensures in
    search (
      rules,
      shown-stands (sought_is c.args.search c.args.words.now c.args.q) c.args.out.now c.args.words.now (sought_fault c.args.search c.args.words.now c.args.q) _ _ k.ok
          (sym (own-is c.args.words c.in_ok-sheet.sheet k.words c.in_ok-at.at o.0 c.args.search c.args.q o.2) ∙ c.in_ok-count.ensures.0) h,
    )

pub returns : goal.returns
returns c =
    let k = c.in_ok-sheet.ensures in
    let o = c.in_ok-at.ensures.ok in
    let w = words-of c.args.words c.in_ok-sheet.sheet k.words c.in_ok-at.at o.0 in
    let e = (rw (w, c.in-Some.is) at c.in_ok-count.ensures) in
    shown-stands _ _ _ _ _ _ k.ok (sym (own-is c.args.words c.in_ok-sheet.sheet k.words c.in_ok-at.at o.0 c.args.search c.args.q o.2) ∙ c.in_ok-count.ensures.0)
    (handed-shows (sought_is c.args.search c.args.words.now c.args.q) _ c.args.out.now e.1.1 c.in_ok-hand_over.ensures)
