-- `listing::put_behind` meets its contract: the line is spelled by itself, and copied where it fits.
use native.Mathlib.Omega.{arith}
use Rattle.listing.proofs.Printing.{line-copied, puts-at}
use Rattle.listing.proofs.writing.put_behind.Goals as goal

pub returns-then-end-out : goal.returns-then-end-out
returns-then-end-out c =
    let P = c.put_line-n.ensures in
    let X = line-copied c.args.l P.0 P.1 c.put_bytes.ensures in
    (omega (arith, P.0), puts-at (omega (arith, X.ends, P.1.ends)) X)
