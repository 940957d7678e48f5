-- The wrong limit that a must-fail edit tries, under the edit's name, and what the document says otherwise.
-- Assumes nothing.
use Prim.Native.Nat.{ℕ}
use mathlib.Core.Path.{◌≡◌, refl}
use mathlib.Core.Bool.{true, false}
use Rattle.sheet.specs.Limits.{max_nodes, edges_from, sheet_words, max_edges}
use Rattle.sheet.specs.Refusals.{◌below◌, ◌when◌otherwise◌}
use Rattle.sheet.specs.Verdict.{header_fault}

abbrev nodes513 : ℕ
nodes513 = 513

-- "4: n above 512": 513 nodes would be none too many
pub nodes-513 : ((nodes513 below 513) ≡ false) × ((max_nodes below 513) ≡ true)
    × (header_fault (record { form = 1; offices = 1; nodes = 513; edges = 0; nodeoffset = 6; edgeoffset = edges_from 513 }) (sheet_words 1 513 0) ≡ 4)
unfolding header_fault max_edges ◌when◌otherwise◌
nodes-513 = (refl, refl, refl)
