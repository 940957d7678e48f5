-- `text::put_number` meets its contract: the label, then the number's digits.
use Rattle.std.proofs.Common.{arith}
use Rattle.text.proofs.Spelling.{ten-digits}
use Rattle.text.proofs.Putting.{grows_then}
use Rattle.text.proofs.put_number.Goals as goal

pub put_decimal-requires : goal.put_decimal-requires
put_decimal-requires c = omega (arith, c.requires, c.put_bytes-from.ensures.ends, c.put_bytes-from.auto.text, ten-digits c.args.number c.ranges.number.fits)

pub returns : goal.returns
returns c =
    let A = c.put_bytes-from.ensures in
    let B = c.put_decimal.ensures in
    (omega (arith, A.ends, B.ends, ten-digits c.args.number c.ranges.number.fits), grows_then A B)
