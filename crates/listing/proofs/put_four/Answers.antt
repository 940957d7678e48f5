-- `listing::put_four` meets its contract: four words stored one behind the other are the line's key stored at once.
use Prim.Native.Nat.{◌*◌}
use Rattle.sheet.proofs.Writing.{four-stores}
use lib.ListN.{length-set}
use native.Mathlib.Omega.{arith}
use Rattle.listing.proofs.put_four.Goals as goal

pub bounds-rows-at-2 : goal.bounds-rows-at-2
bounds-rows-at-2 c = simp length-set (omega arith)

pub bounds-rows-at-3 : goal.bounds-rows-at-3
bounds-rows-at-3 c = simp length-set (omega arith)

pub bounds-rows-at-4 : goal.bounds-rows-at-4
bounds-rows-at-4 c = simp length-set (omega arith)

pub returns : goal.returns
returns c = four-stores c.args.rows.now (4 * c.args.i) c.args.l.form c.args.l.first c.args.l.second c.args.l.third
