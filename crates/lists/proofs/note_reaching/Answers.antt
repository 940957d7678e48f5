use Rattle.lists.proofs.Persons.{tells_more}
use Rattle.lists.specs.ListWalks.{LeadsBy}
use Rattle.sheet.specs.Kinds.{person_type}
use Rattle.sheet.specs.Rows.{node_at}
use lib.ListN.{length-set}
use native.Mathlib.Omega.{arith}
use mathlib.Core.Path.{◌≡◌, ◌∙◌}
use Prim.Native.Nat.{ℕ}
use Rattle.lists.proofs.note_reaching.Goals as goal

pub loop-from-init : goal.loop-from-init
loop-from-init c = (c.requires.1, λ j l. absurd (omega arith))

pub loop-from-preserved : goal.loop-from-preserved
loop-from-preserved c =
    let L = c.loop-from in
    let w = c.args.tour.now.walker in (
      length-set {A = ℕ} L.reaching L.from c.person_reaches.result ∙ L.invariant.0,
      tells_more (λ j. LeadsBy w j c.args.to) (λ j. (node_at w.sheet.words.now j).class ≡ person_type) L.reaching L.from c.person_reaches.result (omega (arith, L.invariant.0, c.loop-from-test.true, w.sheet.formed.nodes.header.nodes)) L.invariant.1 c.person_reaches.ensures,
    )

pub returns : goal.returns
returns c = record { long = c.loop-from.invariant.0; each = λ i l. c.loop-from.invariant.1 i (omega (arith, l, c.loop-from-test.false)) }
