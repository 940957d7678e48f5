use native.Mathlib.Omega.{arith}
use Prim.Native.Nat.{◌*◌}
use Rattle.files.proofs.Words.{bytes-long, four_put}
use Rattle.files.specs.Bytes.{bytes_of}
use Rattle.sheet.proofs.Writing.{front-done}
use Rattle.files.proofs.encode_all.Goals as goal

pub loop-i-preserved : goal.loop-i-preserved
loop-i-preserved c = rw (c.copy_from_slice.ensures.after, c.to_le_bytes.ensures) (four_put c.loop-i.bytes c.args.bytes.now c.args.words.now c.loop-i.i c.loop-i.invariant c.loop-i-test.true c.requires)

pub returns : goal.returns
returns c = let n = bytes-long c.args.words.now in front-done c.loop-i.bytes c.args.bytes.now (bytes_of c.args.words.now) (4 * c.loop-i.i) c.loop-i.invariant (omega arith) (omega arith)
