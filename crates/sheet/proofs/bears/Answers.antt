-- `sheet::bears` meets its contract: a mark is a power of two, and the marks are tested for that office's.
use Prim.Native.Nat.{ℕ, zero, suc, ◌/◌, ◌%◌, ◌-◌, ◌^◌, ◌<◌}
use mathlib.Core.Path.{◌≡◌}
use native.Mathlib.Omega.{arith}
use lib.Dec.{eqb}
use lib.Pow.{pow_pos}
use Rattle.tables.specs.Marks.{marked}
use Rattle.sheet.proofs.bears.Goals as goal

by-mark : (marks office : ℕ) → 0 < office → eqb (marks / 2 ^ (office - 1) % 2) 1 ≡ marked marks office
by-mark marks zero l = absurd (omega (arith, l))
by-mark marks (suc k) l = let e : suc k - 1 ≡ k = omega arith in rw e

pub nonzero_div-result : goal.nonzero_div-result
nonzero_div-result c = rw c.requires.mark (pow_pos _)

pub returns : goal.returns
returns c = rw c.requires.mark (by-mark _ _ c.requires.office)
