-- The row that is added as a sheet of its own, with the ends that it names: what the sheet is combined with.
-- Assumes nothing.
use Rattle.std.specs.Prelude.{ℕ, ◌<◌, ◌≡◌, true, cond, List, [], ◌++◌}
use Rattle.tables.specs.Count.{has}
use Rattle.tables.specs.Key.{Key}
use Rattle.tables.specs.Marks.{within}
use Rattle.tables.specs.Table.{marks_at}
use Rattle.sheet.specs.declared.Cells.{Cells}
use Rattle.sheet.specs.declared.Half.{Half}
use Rattle.sheet.specs.declared.Half.TheVariants.{Nodes, Edges}
use Rattle.sheet.specs.declared.Header.{Header}
use Rattle.sheet.specs.Accepted.{Accepted}
use Rattle.sheet.specs.Named.{row_at}
use Rattle.sheet.specs.Refusals.{◌below◌}
use Rattle.sheet.specs.Rows.{header_of, node_at, count_in}
use Rattle.sheet.specs.Stored.{header_six, stored}
use Rattle.meaning.specs.Added.{table_in, other_half, key_named}

-- a node row alone
abbrev pub lone_node : Header → Cells → List ℕ
lone_node h c = header_six h.form h.offices 1 0 ++ stored Nodes h.form c ++ []

-- node row i of s, under other marks
abbrev pub under_marks : List ℕ → ℕ → ℕ → Cells
under_marks s i marks = record { first = (node_at s i).class; second = (node_at s i).number; third = (node_at s i).variant; offices = marks }

-- an edge row between two node rows of s, the lower first, all under its marks
abbrev pub lone_edge : List ℕ → Header → ℕ → ℕ → Cells → List ℕ
lone_edge s h low high e = header_six h.form h.offices 2 1 ++ (stored Nodes h.form (under_marks s low e.offices) ++ stored Nodes h.form (under_marks s high e.offices)) ++ stored Edges h.form e

-- an edge row with its ends given as rows 0 and 1
abbrev pub ended_at : Cells → ℕ → ℕ → Cells
ended_at c from to = record { first = c.first; second = from; third = to; offices = c.offices }

-- an edge row alone with the nodes at its ends
unfoldable pub lone_with_ends : List ℕ → Header → Cells → List ℕ
lone_with_ends s h c = cond (c.second below c.third) (lone_edge s h c.second c.third (ended_at c 0 1)) (lone_edge s h c.third c.second (ended_at c 1 0))

-- the sheet u has the row c of s and nothing else that s lacks
pub record IsLone (half : Half) (s : List ℕ) (c : Cells) (u : List ℕ) : Type 0 where
  pub accepted : Accepted u
  pub offices : (header_of u).offices ≡ (header_of s).offices
  pub one : count_in half (header_of u) ≡ 1
  pub row : marks_at (table_in half u) (key_named half s c) ≡ c.offices
  pub others : (k : Key) → (k ≡ key_named half s c → ⊥) → marks_at (table_in half u) k ≡ 0
  pub rest : (k : Key) → within (marks_at (table_in (other_half half) u) k) (marks_at (table_in (other_half half) s) k) ≡ true
  pub ends : (j : ℕ) → j < count_in (other_half half) (header_of u) → has (count_in (other_half half) (header_of s)) (λ i. (row_at (other_half half) s i).key) (row_at (other_half half) u j).key ≡ true
