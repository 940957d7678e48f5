-- `join::join_sheets` meets its contract: the counts measured are the union's, and what is laid is the join.
use mathlib.Core.Path.{sym, ap}
use Rattle.std.proofs.lemmas.Result.{err_from_is_err_and}
use Rattle.sheet.specs.declared.Header.{Header}
use Rattle.join.proofs.Refusing.{joinable-words, joins-fault, too-much-is, within-limits}
use Rattle.join.proofs.Joining.{pair, few, nodes-union, edges-union, joined-laid}
use Rattle.join.proofs.join_sheets.Goals as goal

pub invariant_of-pair : goal.invariant_of-pair
invariant_of-pair c = record { sound = pair _ _ (joinable-words c.args.first.now c.requires.0) _ _ (joinable-words c.args.second.now c.requires.1) }

pub returns-in_err-too_much : goal.returns-in_err-too_much
returns-in_err-too_much c =
    let A = joinable-words c.args.first.now c.requires.0 in
    let B = joinable-words c.args.second.now c.requires.1 in
    let M = c.measure-m.ensures in
    let p = err_from_is_err_and c.from_residual.result c.from_residual.ensures.1 in
    rw p.1
    (joins-fault _ _ _ _ _ _ _ p.2
    (too-much-is _ _ _ _ _ _ _ c.in_err-too_much.ensures.err (ap (λ (x : Header). x.form) A.head) (nodes-union _ _ A _ _ B _ _ _ M) (edges-union _ _ A _ _ B _ _ _ M)))

pub lay-requires : goal.lay-requires
lay-requires c = let l = within-limits _ _ _ _ (sym c.in_ok-too_much.ensures.ok) in (c.measure-m.ensures, l.0, l.1, l.2)

pub made_join-requires-clause-nodes : goal.made_join-requires-clause-nodes
made_join-requires-clause-nodes c =
    ((within-limits _ _ _ _ (sym c.in_ok-too_much.ensures.ok)).0, (few _ _ (joinable-words c.args.first.now c.requires.0) _ _ (joinable-words c.args.second.now c.requires.1) _ _ _ c.measure-m.ensures).0)

pub made_join-requires-clause-edges : goal.made_join-requires-clause-edges
made_join-requires-clause-edges c =
    ((within-limits _ _ _ _ (sym c.in_ok-too_much.ensures.ok)).1, (few _ _ (joinable-words c.args.first.now c.requires.0) _ _ (joinable-words c.args.second.now c.requires.1) _ _ _ c.measure-m.ensures).1)

pub returns : goal.returns
returns c =
    joined-laid _ _ (joinable-words c.args.first.now c.requires.0) _ _ (joinable-words c.args.second.now c.requires.1) _ _ _ c.measure-m.ensures _ _ (sym c.in_ok-too_much.ensures.ok) c.lay.ensures _ c.made_join.ensures
