use Prim.Native.Nat.{ℕ, suc}
use mathlib.Core.Path.{refl, ◌∙◌}
use native.Mathlib.Numerals.{add-one}
use native.Mathlib.Omega.{arith}
use lib.ListN.{length-set}
use Rattle.ask.proofs.Jointly.{one_more}
use Rattle.meaning.specs.Answers.{AnswerIs}
use Rattle.sheet.specs.Named.{seen_at}
use Rattle.ask.proofs.answers_of.Goals as goal

pub loop-k-init : goal.loop-k-init
loop-k-init c = record { long = refl; each = λ i l. absurd (omega arith) }

pub loop-k-preserved : goal.loop-k-preserved
loop-k-preserved c = let L = c.loop-k in
    let q = c.args.q in
    record {
      long = length-set L.answers L.k c.office_answer.result ∙ L.invariant.long;
      each = one_more (λ (i r : ℕ). AnswerIs (seen_at c.args.sheet.now.words.now (suc i)) q.person q.deed q.folio r) L.answers L.k c.office_answer.result (omega (arith, L.invariant.long, c.loop-k-test.true, c.args.sheet.now.formed.nodes.header.offices-high))
          L.invariant.each (rw (c.seat_at.ensures.0, add-one) at c.office_answer.ensures);
    }

pub returns : goal.returns
returns c = (c.loop-k.invariant.long, λ i l. c.loop-k.invariant.each i (omega arith))
