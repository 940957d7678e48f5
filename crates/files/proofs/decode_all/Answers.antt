use mathlib.Core.List.{[], ◌∷◌}
use mathlib.Core.Path.{refl}
use native.Mathlib.Omega.{arith}
use Rattle.files.proofs.Words.{words_long, word_next}
use Rattle.files.specs.Bytes.{words_of}
use Rattle.sheet.proofs.Writing.{front-run, front-done}
use Rattle.files.proofs.decode_all.Goals as goal

pub loop-i-preserved : goal.loop-i-preserved
loop-i-preserved c =
    let n = words_long c.args.bytes.now in
    let at = c.as_chunks.ensures in
    front-run c.loop-i.words c.args.words.now (words_of c.args.bytes.now) c.loop-i.i c.loop-i.invariant (c.from_le_bytes.result ∷ []) (omega (arith, at.front_len, c.requires)) (omega (arith, at.front_len, n))
    (word_next c.args.bytes.now _ c.loop-i.i refl (omega (arith, at.front_len)) [] c.from_le_bytes.result (rw at.front at c.from_le_bytes.ensures))

pub returns : goal.returns
returns c =
    let n = words_long c.args.bytes.now in
    front-done c.loop-i.words c.args.words.now (words_of c.args.bytes.now) c.loop-i.i c.loop-i.invariant (omega (arith, c.as_chunks.ensures.front_len)) (omega (arith, c.as_chunks.ensures.front_len))
