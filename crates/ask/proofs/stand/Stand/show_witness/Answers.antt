-- `ask::stand::Stand::show_witness` meets its contract: a number of 0 means that there is no path, and else the rows traced are the path.
use Prim.Native.Nat.{ℕ, ◌*◌}
use mathlib.Core.List.{◌++◌}
use mathlib.Core.Path.{refl, ap, ◌∙◌}
use lib.ListN.{get_or, take, drop}
use lib.Seq.{length-take-le}
use Rattle.ask.specs.PathRows.{spelled_rows}
use native.Mathlib.Omega.{arith}
use Rattle.ask.proofs.Showing.{measured-so, no-witness, first-long}
use Rattle.question.proofs.Telling.{show-missing, show-short, show-written}
use Rattle.question.specs.Replies.{refused_by}
use Rattle.ask.proofs.stand.Stand.show_witness.Goals as goal

pub returns-then-n-eq0 : goal.returns-then-n-eq0
returns-then-n-eq0 c = let o = c.args.self.now in
    let M = measured-so o c.walker.result (rw c.from.ensures at c.walker.ensures) _ c.measure.ensures in
    show-missing _ _ _ _ (no-witness o _ M c.if-n-eq0.true) (ap refused_by c.into.ensures) refl

pub path_rows-requires : goal.path_rows-requires
path_rows-requires c = let o = c.args.self.now in
    (measured-so o c.walker.result (rw c.from.ensures at c.walker.ensures) _ c.measure.ensures, omega (arith, c.if-n-eq0.false), refl)

pub returns-then-out-m : goal.returns-then-out-m
returns-then-out-m c = let P = c.path_rows.ensures in
    show-short _ _ _ _ _ _ P.is (first-long _ _ _ P.most) c.if-out-m.true (ap refused_by c.into-then-out-m.ensures) refl

pub returns : goal.returns
returns c = let P = c.path_rows.ensures in
    let n = get_or c.measure.new.d c.args.self.now.places.person 0 in
    show-written _ _ _ _ _ _ P.is (first-long _ _ _ P.most) c.if-out-m.false refl
    (c.write_nodes.ensures ∙ ap (λ (k : ℕ). spelled_rows c.args.self.now.at.sheet.words.now (take n c.path_rows.new.rows) ++ drop (2 * k) c.args.out.now) (length-take-le n c.path_rows.new.rows P.most))
