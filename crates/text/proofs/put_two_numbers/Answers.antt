-- `text::put_two_numbers` meets its contract: the one behind the other.
use Rattle.std.proofs.Common.{arith}
use Rattle.text.proofs.Putting.{grows_then}
use Rattle.text.proofs.put_two_numbers.Goals as goal

pub returns : goal.returns
returns c =
    let A = c.put_number-from.ensures in
    let B = c.put_number.ensures in
    (omega (arith, A.0, B.0), grows_then A.1 B.1)
