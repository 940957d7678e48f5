use mathlib.Core.Bool.{Bool, true, false}
use mathlib.Core.Path.{◌≡◌, refl, subst, ◌∙◌}
use native.Mathlib.Omega.{arith}
use Rattle.meaning.specs.Answers.{Says}
use Rattle.meaning.specs.Questions.{RedundantRow}
use Rattle.reach.proofs.Collecting.{collected-puts, puts-more}
use Rattle.sheet.proofs.Widths.{edges_few}
use Rattle.redundant.proofs.Pruning.{pruned-all}
use Rattle.redundant.proofs.prune.Goals as goal

pub put-n-requires : goal.put-n-requires
put-n-requires c =
    let l = c.loop-j-test.true in
    let I = c.loop-j.invariant in
    let f = edges_few _ _ c.args.rights.now.at.sheet.formed.nodes.header in
    (omega (arith, l, I.0, I.1, f), omega (arith, l, I.0, f))

pub loop-j-preserved : goal.loop-j-preserved
loop-j-preserved c =
    let o = c.args.rights.now.at in
    let L = c.loop-j in
    let l = c.loop-j-test.true in
    let R = c.is_redundant in
    let P = c.put-n in
    let says : (b : Bool) → R.result ≡ b → Says b (RedundantRow o.sheet.words.now o.seat.office L.j) = λ b e. subst (λ (b : Bool). Says b (RedundantRow o.sheet.words.now o.seat.office L.j)) e R.ensures in (
      omega (arith, L.invariant.0, (puts-more _ _ _ _ _ _ P.ensures).1),
      P.auto.list ∙ L.invariant.1,
      collected-puts (RedundantRow o.sheet.words.now o.seat.office) (λ i. i) L.j R.result L.j L.list _ L.n P.result (omega (arith, l, L.invariant.0, L.invariant.1, edges_few _ _ o.sheet.formed.nodes.header)) refl P.ensures L.invariant.2
          (says true) (says false) (λ i b q r. b),
    )

pub returns : goal.returns
returns c =
    let o = c.args.rights.now.at in
    let I = c.loop-j.invariant in
    (omega (arith, I.0, I.1, c.loop-j.auto.j-end, edges_few _ _ o.sheet.formed.nodes.header), pruned-all _ _ _ o.sheet.formed _ c.loop-j.j _ c.loop-j-test.false I.2)
