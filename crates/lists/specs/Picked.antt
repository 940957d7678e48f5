-- Which rows are picked for a list: persons from whose rows a walk leads to a row, folios to which it leads from none.
-- Assumes nothing.
use Rattle.std.specs.Prelude.{ℕ, ◌<◌, ◌≡◌, Bool, true, false, not, List, length, get_or}
use Rattle.tables.specs.Marks.{marked}
use Rattle.sheet.specs.Kinds.{person_type}
use Rattle.sheet.specs.declared.Header.{Header}
use Rattle.sheet.specs.Limits.{max_nodes}
use Rattle.sheet.specs.Refusals.{◌is◌}
use Rattle.sheet.specs.Rows.{node_at}
use Rattle.walk.specs.declared.Walk.{Walk}
use Rattle.reach.specs.Reaching.{Tells, LeadsTo}

-- a person of the office from whose row the walk leads to a row, by number
pub record PersonLeads (s t : List ℕ) (h : Header) (office : ℕ) (w : Walk) (to p : ℕ) : Type 0 where
  pub row : ℕ
  pub inside : row < h.nodes
  pub class : (node_at s row).class ≡ person_type
  pub bears : marked (node_at s row).offices office ≡ true
  pub numbered : (node_at s row).number ≡ p
  pub leads : LeadsTo s t h w row to

-- for each row of a person, whether the walk leads from it to a row
pub record PersonsReach (s t : List ℕ) (h : Header) (w : Walk) (to : ℕ) (m : List ℕ) : Type 0 where
  pub long : length m ≡ max_nodes
  pub each : (i : ℕ) → i < h.nodes → (node_at s i).class ≡ person_type → Tells (get_or m i 0) (LeadsTo s t h w i to)

-- the walk leads to a row from some person's
pub record FromPersons (s t : List ℕ) (h : Header) (w : Walk) (to : ℕ) : Type 0 where
  pub row : ℕ
  pub inside : row < h.nodes
  pub class : (node_at s row).class ≡ person_type
  pub leads : LeadsTo s t h w row to

-- for each row, whether the walk leads to it from some person's
pub record PersonsLead (s t : List ℕ) (h : Header) (w : Walk) (d : List ℕ) : Type 0 where
  pub long : length d ≡ max_nodes
  pub each : (i : ℕ) → i < h.nodes → Tells (get_or d i 0) (FromPersons s t h w i)

-- a number is wanted: any but 0, or 0
unfoldable pub wanted : Bool → ℕ → Bool
wanted true n = not (n is 0)
wanted false n = n is 0

-- a row of the type with the office's mark, whose number in d is some, or none
pub record Picked (s : List ℕ) (office class : ℕ) (some : Bool) (d : List ℕ) (i : ℕ) : Type 0 where
  pub is-class : (node_at s i).class ≡ class
  pub bears : marked (node_at s i).offices office ≡ true
  pub by : wanted some (get_or d i 0) ≡ true

-- the number of a row that is picked
pub record PickedNumber (s : List ℕ) (nodes office class : ℕ) (some : Bool) (d : List ℕ) (x : ℕ) : Type 0 where
  pub row : ℕ
  pub inside : row < nodes
  pub picked : Picked s office class some d row
  pub numbered : (node_at s row).number ≡ x
