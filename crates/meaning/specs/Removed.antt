-- Removing an edge row at an office, by the marks at each key; and what a view then has.
-- Assumes nothing.
use Rattle.std.specs.Prelude.{ℕ, ◌-◌, ◌^◌, ◌≡◌, true, List}
use Rattle.tables.specs.Key.{Key}
use Rattle.tables.specs.Office.{View}
use Rattle.tables.specs.Table.{marks_at}
use Rattle.sheet.specs.Rows.{edge_table}
use Rattle.sheet.specs.Accepted.{Accepted}
use Rattle.sheet.specs.Named.{edge_row, tables_of}
use Rattle.meaning.specs.Join.{offices_of}

-- t is s with edge row j removed at an office: that office's mark goes from the row, and the row with its last mark, since no row of an accepted sheet has none; everything else is as it was
pub record IsRemoved (s : List ℕ) (office j : ℕ) (t : List ℕ) : Type 0 where
  pub accepted : Accepted t
  pub offices : offices_of t ≡ offices_of s
  pub nodes : (k : Key) → marks_at (tables_of t).nodes k ≡ marks_at (tables_of s).nodes k
  pub row : marks_at (tables_of t).edges (edge_row s (edge_table s) j).key ≡ (edge_row s (edge_table s) j).marks - 2 ^ (office - 1)
  pub others : (k : Key) → (k ≡ (edge_row s (edge_table s) j).key → ⊥) → marks_at (tables_of t).edges k ≡ marks_at (tables_of s).edges k

-- h lies between g without a relation and g: it has nothing that g lacks, and lacks nothing that g has but this relation
pub record LacksAtMost (g : View) (k : Key) (h : View) : Type 0 where
  pub no_more : (r : Key) → h.edge r ≡ true → g.edge r ≡ true
  pub all_others : (r : Key) → (r ≡ k → ⊥) → g.edge r ≡ true → h.edge r ≡ true
