-- `Draft::of` meets its contract: a header is read only of six words or more.
use Rattle.std.proofs.Common.{◌≡◌, ℕ, List, length, length-drop, sym, ap, ◌∙◌, arith}
use Rattle.std.proofs.lemmas.Grind.{common_steps}
use Rattle.std.proofs.lemmas.Result.{err_from_is_err_and}
use borrow.Author.Tests.{le-ltb}
use Rattle.sheet.specs.declared.Header.{Header}
use Rattle.sheet.specs.Accepted.{HeaderFits}
use Rattle.sheet.specs.Limits.{edge_place}
use Rattle.sheet.specs.Refusals.{◌when◌otherwise◌}
use Rattle.sheet.specs.Rows.{header_of, edge_table}
use Rattle.sheet.specs.Verdict.{header_fault, sheet_fault}
use Rattle.sheet.proofs.Accepting.{header-good}
use Rattle.sheet.proofs.Forming.{same-words}
use Rattle.sheet.proofs.Refusing.{left}
use Rattle.verdict.proofs.draft.Draft.of.Goals as goal

pub returns-then-words-lt-HEADER_WORDS-clause-told : goal.returns-then-words-lt-HEADER_WORDS-clause-told
unfolding sheet_fault ◌when◌otherwise◌
returns-then-words-lt-HEADER_WORDS-clause-told c = grind (arith, common_steps)

pub returns-in_err-check_header-clause-told : goal.returns-in_err-check_header-clause-told
unfolding sheet_fault
returns-in_err-check_header-clause-told c =
    let p = err_from_is_err_and c.from_residual.result c.from_residual.ensures.1 in
    rw (p.1, p.2) (left _ 1 _ _ (le-ltb _ _ c.if-words-lt-HEADER_WORDS.false)
    (c.in_err-check_header.ensures ∙ ap (λ (h : Header). header_fault h (length c.args.words.now)) c.header_of-header.ensures))

pub edge_table-requires : goal.edge_table-requires
edge_table-requires c = (c.header_of-header.ensures, header-good _ _ (sym c.in_ok-check_header.ensures))

pub invariant_of-result : goal.invariant_of-result
invariant_of-result c =
    let s = c.args.words.now in
    let h = c.header_of-header.result in
    let f : HeaderFits h (length s) = header-good _ _ (sym c.in_ok-check_header.ensures) in
    let e : h.edgeoffset ≡ (header_of s).edgeoffset = ap (λ (x : Header). x.edgeoffset) c.header_of-header.ensures in
    let t : c.edge_table.result.now ≡ edge_table s = same-words _ _ c.edge_table.ensures in
    record { fits = f; room = omega (arith, f.whole, f.edges-from, e, length-drop (header_of s).edgeoffset s, ap (λ (x : List ℕ). length x) t) }

pub returns-clause-told : goal.returns-clause-told
unfolding sheet_fault
returns-clause-told c =
    left _ 1 _ _ (le-ltb _ _ c.if-words-lt-HEADER_WORDS.false)
    (c.in_ok-check_header.ensures ∙ ap (λ (h : Header). header_fault h (length c.args.words.now)) c.header_of-header.ensures)
