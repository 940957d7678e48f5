-- What lines mean: the accepted sheet of one office that holds exactly the identities and relations that they name.
-- Assumes nothing.
use Rattle.std.specs.Prelude.{ℕ, ◌≡◌, Bool, not, ◌&&◌, List, length}
use Rattle.tables.specs.Count.{some_row}
use Rattle.tables.specs.Key.{Key, same_key}
use Rattle.sheet.specs.Accepted.{Accepted}
use Rattle.sheet.specs.Named.{held_at}
use Rattle.sheet.specs.Rows.{header_of}
use Rattle.lines.specs.declared.Line.{Line}
use Rattle.lines.specs.Naming.{is_node_line, identity_named, relation_named}
use Rattle.listing.specs.Cut.{line_at}

-- a line names this identity, this relation
abbrev pub names_node : Key → Line → Bool
names_node k l = is_node_line l && same_key (identity_named l) k

abbrev pub names_edge : Key → Line → Bool
names_edge k l = not (is_node_line l) && same_key (relation_named l) k

-- some line passes
abbrev pub some_line : (Line → Bool) → List Line → Bool
some_line test ls = some_row (λ i. test (line_at ls i)) (length ls)

-- the sheet that lines mean
pub record Means (ls : List Line) (s : List ℕ) : Type 0 where
  pub accepted : Accepted s
  pub one-office : (header_of s).offices ≡ 1
  pub nodes : (k : Key) → (held_at s 1).node k ≡ some_line (names_node k) ls
  pub edges : (k : Key) → (held_at s 1).edge k ≡ some_line (names_edge k) ls
