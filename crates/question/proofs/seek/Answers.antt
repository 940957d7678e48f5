use mathlib.Core.Path.{◌∙◌, subst}
use native.Mathlib.Omega.{arith}
use borrow.Author.Count.{below_more}
use Rattle.question.proofs.Known.{standing}
use Rattle.question.proofs.Seeking.{none_before_lem, other_row, search-left, search-passed, search-met}
use Rattle.sheet.specs.Found.{PlaceIs}
use Rattle.sheet.specs.Rows.{node_key_at}
use Rattle.tables.specs.Key.{Key}
use Rattle.question.proofs.seek.Goals as goal

pub loop-i-init : goal.loop-i-init
loop-i-init c =
    let P = subst (λ (k : Key). PlaceIs (node_key_at c.args.sheet.now) c.args.h.nodes k c.place_of-place.result) c.named-wanted.ensures c.place_of-place.ensures in
    record { placed = P; none = none_before_lem _ _ _ _ _ _ _ P }

pub returns-then-is_standing : goal.returns-then-is_standing
returns-then-is_standing c =
    search-met _ _ _ _ _ _ _ (omega arith) c.loop-i.invariant.none (standing _ _ _ _ _ _ _ _ c.node_at-node.ensures c.is_standing.ensures ∙ c.if-is_standing.true)

pub returns-then-node-class : goal.returns-then-node-class
returns-then-node-class c = let I = c.loop-i.invariant in
    search-left _ _ _ _ _ _ _ I.placed _ I.none c.requires.0.rise (omega arith) (omega arith) (other_row _ _ _ _ _ c.node_at-node.ensures c.if-node-class.true)

pub loop-i-preserved : goal.loop-i-preserved
loop-i-preserved c = let I = c.loop-i.invariant in
    record { placed = I.placed; none = below_more _ _ I.none (standing _ _ _ _ _ _ _ _ c.node_at-node.ensures c.is_standing.ensures ∙ c.if-is_standing.false) }

pub returns : goal.returns
returns c = let I = c.loop-i.invariant in
    search-passed _ _ _ _ _ _ _ I.placed _ I.none (omega arith)
