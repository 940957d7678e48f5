-- Adding a row to a sheet, by the marks at each key.
-- Assumes nothing.
use Rattle.std.specs.Prelude.{ℕ, ◌≡◌, Bool, List}
use Rattle.tables.specs.Key.{Key, relation}
use Rattle.tables.specs.Office.{View}
use Rattle.tables.specs.Table.{Table, marks_at}
use Rattle.sheet.specs.declared.Cells.{Cells}
use Rattle.sheet.specs.declared.Half.{Half}
use Rattle.sheet.specs.declared.Half.TheVariants.{Nodes, Edges}
use Rattle.sheet.specs.Rows.{node_key_at, row_key}
use Rattle.sheet.specs.Accepted.{Accepted}
use Rattle.sheet.specs.Named.{tables_of}
use Rattle.meaning.specs.Join.{offices_of}

-- the table of a half of a sheet, and the other half
abbrev pub table_in : Half → List ℕ → Table
table_in Nodes s = (tables_of s).nodes
table_in Edges s = (tables_of s).edges

abbrev pub other_half : Half → Half
other_half Nodes = Edges
other_half Edges = Nodes

-- what stands of a half
abbrev pub held_in : Half → View → Key → Bool
held_in Nodes g k = g.node k
held_in Edges g k = g.edge k

-- what a row names: a node row its identity, an edge row its kind and the identities of its ends, which are rows of s
abbrev pub key_named : Half → List ℕ → Cells → Key
key_named Nodes s c = row_key c
key_named Edges s c = relation c.first (node_key_at s c.second) (node_key_at s c.third)

-- t is s with the row c more in a half: at what it names stand its marks, and at every other key of either half those that stood there
pub record IsAdded (half : Half) (s : List ℕ) (c : Cells) (t : List ℕ) : Type 0 where
  pub accepted : Accepted t
  pub offices : offices_of t ≡ offices_of s
  pub row : marks_at (table_in half t) (key_named half s c) ≡ c.offices
  pub others : (k : Key) → (k ≡ key_named half s c → ⊥) → marks_at (table_in half t) k ≡ marks_at (table_in half s) k
  pub rest : (k : Key) → marks_at (table_in (other_half half) t) k ≡ marks_at (table_in (other_half half) s) k
