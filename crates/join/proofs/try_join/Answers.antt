-- `join::try_join` meets its contract: what is refused of the sheets, then the join of two that have one office each.
use mathlib.Core.Path.{ap}
use Rattle.std.proofs.lemmas.Result.{err_from_is_err_and}
use Rattle.join.proofs.Refusing.{joins-first, joins-second, joins-two, joins-other, joins-on}
use Rattle.join.proofs.try_join.Goals as goal

pub returns-in_err-first : goal.returns-in_err-first
returns-in_err-first c =
    let e = c.in_err-first.ensures.err in
    let p = err_from_is_err_and c.from_residual.result c.from_residual.ensures.1 in
    rw (p.1, p.2) (joins-first _ _ _ _ e.0 e.1)

pub returns-in_err-second : goal.returns-in_err-second
returns-in_err-second c =
    let e = c.in_err-second.ensures.err in
    let p = err_from_is_err_and c.from_residual-in_err-second.result c.from_residual-in_err-second.ensures.1 in
    rw (p.1, p.2) (joins-second _ _ _ c.in_ok-first.ensures.ok _ e.0 e.1)

pub returns-in_err-one_office : goal.returns-in_err-one_office
returns-in_err-one_office c =
    let e = c.in_err-one_office.ensures in
    let p = err_from_is_err_and c.from_residual-in_err-one_office.result c.from_residual-in_err-one_office.ensures.1 in
    rw (p.1, p.2) (joins-two _ _ _ c.in_ok-first.ensures.ok c.in_ok-second.ensures.ok c.in_ok-first.first (ap (λ x. x.now) c.in_ok-first.ensures.words) _ e.err e.other)

pub returns-in_err-one_office-2 : goal.returns-in_err-one_office-2
returns-in_err-one_office-2 c =
    let e = c.in_err-one_office-2.ensures in
    let p = err_from_is_err_and c.from_residual-in_err-one_office-2.result c.from_residual-in_err-one_office-2.ensures.1 in
    rw (p.1, p.2)
    (joins-other _ _ _ c.in_ok-first.ensures.ok c.in_ok-second.ensures.ok c.in_ok-first.first (ap (λ x. x.now) c.in_ok-first.ensures.words) c.in_ok-one_office.ensures.ok c.in_ok-second.second (ap (λ x. x.now) c.in_ok-second.ensures.words) _ e.err e.other)

pub returns : goal.returns
returns c =
    joins-on _ _ _ c.in_ok-first.ensures.ok c.in_ok-second.ensures.ok c.in_ok-first.first (ap (λ x. x.now) c.in_ok-first.ensures.words) c.in_ok-one_office.ensures.ok c.in_ok-second.second (ap (λ x. x.now) c.in_ok-second.ensures.words) _ _ c.in_ok-one_office-2.ensures.ok c.join_sheets.ensures
