-- Two sheets combined: an accepted sheet whose marks, at each identity and at each relation, are what is made of both sheets'.
-- Assumes nothing.
use Rattle.std.specs.Prelude.{ℕ, ◌^◌, ◌<◌, ◌≤◌, ◌≡◌, List, ◌++◌, length, drop}
use Rattle.tables.specs.Key.{Key}
use Rattle.tables.specs.Table.{marks_at}
use Rattle.sheet.specs.declared.Header.{Header}
use Rattle.sheet.specs.Limits.{max_offices, max_nodes, sheet_words}
use Rattle.sheet.specs.Rows.{header_of, edge_table}
use Rattle.sheet.specs.Accepted.{Accepted, WellFormed}
use Rattle.sheet.specs.Named.{tables_of}
use Rattle.sheet.specs.declared.Half.TheVariants.{Nodes, Edges}
use Rattle.combine.specs.declared.Rule.{Rule}
use Rattle.combine.specs.Combined.{Making}
use Rattle.combine.specs.declared.Measure.{Measure}
use Rattle.combine.specs.Rules.{makes, Safe, Rules}
use Rattle.combine.specs.Halves.{Surveyed, kept_rows}

-- t is a and b combined, as a sheet of so many offices
pub record IsCombined (N E : Making) (offices : ℕ) (a b t : List ℕ) : Type 0 where
  pub accepted : Accepted t
  pub offices-are : (header_of t).offices ≡ offices
  pub nodes : (k : Key) → marks_at (tables_of t).nodes k ≡ N (marks_at (tables_of a).nodes k) (marks_at (tables_of b).nodes k)
  pub edges : (k : Key) → marks_at (tables_of t).edges k ≡ E (marks_at (tables_of a).edges k) (marks_at (tables_of b).edges k)

-- two sheets that passed the check, with their headers, and rules for their nodes and edges that make marks of so many offices
pub record Pair (nodes edges : Rule) (offices : ℕ) (a : List ℕ) (h : Header) (b : List ℕ) (g : Header) : Type 0 where
  pub first : WellFormed a (edge_table a) h
  pub second : WellFormed b (edge_table b) g
  pub rules : Rules (makes nodes) (makes edges) h.offices g.offices offices
  pub safe-nodes : (x y : ℕ) → x < 2 ^ h.offices → y < 2 ^ g.offices → Safe nodes x y
  pub safe-edges : (x y : ℕ) → x < 2 ^ h.offices → y < 2 ^ g.offices → Safe edges x y
  pub low : 1 ≤ offices
  pub high : offices ≤ max_offices

-- how many rows the combination has, and where the node rows of both sheets stand in it
pub record Measured (nodes edges : Rule) (a : List ℕ) (h : Header) (b : List ℕ) (g : Header) (ma mb : List ℕ) (m : Measure) : Type 0 where
  pub first-long : length ma ≡ max_nodes
  pub second-long : length mb ≡ max_nodes
  pub node-rows : Surveyed nodes Nodes a h b g ma mb m.nodes
  pub edge-rows : m.edges ≡ kept_rows edges Edges a h b g

-- the words of node rows and of edge rows stand behind a header, in front of the output
pub record Laid (nodes edges : Rule) (offices : ℕ) (a : List ℕ) (h : Header) (b : List ℕ) (g : Header) (m : Measure) (out out' : List ℕ) : Type 0 where
  pub sheet : List ℕ
  pub is : IsCombined (makes nodes) (makes edges) offices a b sheet
  pub long : length sheet ≡ sheet_words h.form m.nodes m.edges
  pub rows : ((header_of sheet).nodes ≡ m.nodes) × ((header_of sheet).edges ≡ m.edges)
  pub holds : out' ≡ sheet ++ drop (length sheet) out
