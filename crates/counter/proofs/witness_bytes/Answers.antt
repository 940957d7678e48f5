-- `counter::witness_bytes` meets its contract: the words kept are enough for any witness, and its bytes fit the output or not.
use mathlib.Core.Path.{sym}
use lib.Seq.{length-take-le}
use native.Mathlib.Omega.{arith}
use Rattle.counter.proofs.Longest.{witness-fits}
use Rattle.counter.proofs.Handing.{still-refused, words-in-front, bytes-short, bytes-written}
use Rattle.counter.proofs.witness_bytes.Goals as goal

pub returns-then-a-ne0 : goal.returns-then-a-ne0
returns-then-a-ne0 c = still-refused _ _ _ _ _ c.witness-a.ensures (λ ws z w. witness-fits _ _ _ _ _ _ _ ws z w) c.if-a-ne0.true _

pub slice_bounds-encode-end : goal.slice_bounds-encode-end
slice_bounds-encode-end c = let W = c.witness-a in
    let most = (words-in-front _ _ _ _ _ W.ensures c.if-a-ne0.false).fits in
    sym (length-take-le W.result.count W.new.out (omega (arith, W.auto.out)))

pub returns-then-r-ne0 : goal.returns-then-r-ne0
returns-then-r-ne0 c = let B = c in
    bytes-short _ _ _ _ _ (words-in-front _ _ _ _ _ B.witness-a.ensures B.if-a-ne0.false) _ _ _ c.encode-r.ensures _ c.if-r-ne0.true c.from.ensures

pub overflow_mul-a : goal.overflow_mul-a
overflow_mul-a c = let B = c in
    let most = (words-in-front _ _ _ _ _ B.witness-a.ensures B.if-a-ne0.false).fits in
    omega arith

pub returns : goal.returns
returns c = let B = c in
    bytes-written _ _ _ _ _ (words-in-front _ _ _ _ _ B.witness-a.ensures B.if-a-ne0.false) _ _ _ c.encode-r.ensures _ c.if-r-ne0.false c.from-2.ensures
