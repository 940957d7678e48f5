-- Where an identity's row stands, of two sheets, as the inner functions return it.
-- Assumes nothing.
use Rattle.std.specs.Prelude.{ℕ, ◌<◌, ◌≡◌, false, List, Option, Some, None, Result, Ok, Err}
use Rattle.tables.specs.Key.{Key}
use Rattle.sheet.specs.declared.Refusal.{Refusal}
use Rattle.sheet.specs.Refusals.{none}
use Rattle.sheet.specs.Rows.{header_of, node_key_at}
use Rattle.lookup.specs.declared.standing.Standing.{Standing}
use Rattle.lookup.specs.declared.standing.Standing.TheVariants.{First, Second}
use Rattle.lookup.specs.Looked.{has_identity, look_fault}

-- a node row of the first sheet, or one of the second where the first has none
abbrev pub IsStanding : List ℕ → List ℕ → Key → Standing → Type 0
IsStanding a b k (First i) = (i < (header_of a).nodes) × (node_key_at a i ≡ k)
IsStanding a b k (Second i) = (has_identity a k ≡ false) × (i < (header_of b).nodes) × (node_key_at b i ≡ k)

-- .. or none of either
abbrev pub StandsAt : List ℕ → List ℕ → Key → Option Standing → Type 0
StandsAt a b k (Some p) = IsStanding a b k p
StandsAt a b k None = (has_identity a k ≡ false) × (has_identity b k ≡ false)

-- where the row stands, or what refuses the lookup
abbrev pub FindsRow : List ℕ → List ℕ → Key → Result Standing Refusal → Type 0
FindsRow a b k (Ok p) = (look_fault a b k ≡ none) × IsStanding a b k p
FindsRow a b k (Err r) = (r ≡ look_fault a b k) × (r.number ≡ 0 → ⊥)
