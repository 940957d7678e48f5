-- What joining two one-office sheets returns, and what it leaves in the output.
-- Assumes nothing.
use Rattle.std.specs.Prelude.{ℕ, ◌+◌, ◌-◌, ◌≤◌, ◌≡◌, not, List, ◌++◌, length, drop, Result, Ok, Err}
use Rattle.tables.specs.Count.{shared}
use Rattle.tables.specs.Key.{Key}
use Rattle.sheet.specs.declared.Refusal.{Refusal}
use Rattle.sheet.specs.Limits.{max_nodes, max_edges, sheet_words}
use Rattle.sheet.specs.Refusals.{◌is◌, ◌below◌, ◌when◌otherwise◌, none, refuse, ◌then◌}
use Rattle.sheet.specs.Rows.{header_of, edge_table, node_key_at}
use Rattle.sheet.specs.Named.{edge_row}
use Rattle.sheet.specs.Verdict.{verdict}
use Rattle.meaning.specs.Join.{offices_of, IsJoin}
use Rattle.join.specs.declared.Joined.{Joined}

-- row j of the edge table by its kind and the identities of both its ends
abbrev pub relation_at : List ℕ → ℕ → Key
relation_at s j = (edge_row s (edge_table s) j).key

-- the number of node identities found in both sheets
unfoldable pub shared_nodes : List ℕ → List ℕ → ℕ
shared_nodes a b = shared (header_of a).nodes (node_key_at a) (header_of b).nodes (node_key_at b)

-- the number of edge identities found in both sheets
unfoldable pub shared_edges : List ℕ → List ℕ → ℕ
shared_edges a b = shared (header_of a).edges (relation_at a) (header_of b).edges (relation_at b)

-- the rows of the union: those of both sheets, the shared ones once
unfoldable pub union_nodes : List ℕ → List ℕ → ℕ
union_nodes a b = (header_of a).nodes + (header_of b).nodes - shared_nodes a b

unfoldable pub union_edges : List ℕ → List ℕ → ℕ
union_edges a b = (header_of a).edges + (header_of b).edges - shared_edges a b

-- 28 joining a sheet whose office count isn't 1
unfoldable pub not_one : List ℕ → ℕ
not_one s = 28 when not (offices_of s is 1) otherwise 0

-- 29 / 30 union above 512 nodes / 2,048 edges; 25 output shorter than the result
unfoldable pub too_much : ℕ → ℕ → ℕ → ℕ → ℕ
too_much form nodes edges room =
    29 when max_nodes below nodes otherwise
    30 when max_edges form below edges otherwise
    25 when room below sheet_words form nodes edges otherwise
    0

-- the first sheet's refusal, the second's, then 28, first sheet first
unfoldable pub sheets_fault : List ℕ → List ℕ → Refusal
sheets_fault a b = verdict 1 a then (verdict 2 b then refuse (not_one a) 1 0 (refuse (not_one b) 2 0 none))

-- what a union of so many rows is refused by
unfoldable pub union_fault : List ℕ → List ℕ → ℕ → Refusal
union_fault a b room = refuse (too_much (header_of a).form (union_nodes a b) (union_edges a b) room) 0 0 none

-- what joining is refused by, in the table's order
unfoldable pub join_fault : List ℕ → List ℕ → ℕ → Refusal
join_fault a b room = sheets_fault a b then union_fault a b room

-- a refusal's number and place, and nothing else
abbrev pub refused_join : Refusal → Joined
refused_join r = record { number = r.number; sheet = r.sheet; row = r.row; words = 0; nodes = 0; edges = 0; sharednodes = 0; sharededges = 0 }

-- what joining tells, as the struct that C takes for both
abbrev pub joined_of : Result Joined Refusal → Joined
joined_of (Ok j) = j
joined_of (Err r) = refused_join r

-- the joint sheet's words and counts, with the shared counts of the sheets joined
abbrev pub made_join : List ℕ → List ℕ → List ℕ → Joined
made_join a b j = record {
  number = 0;
  sheet = 0;
  row = 0;
  words = length j;
  nodes = (header_of j).nodes;
  edges = (header_of j).edges;
  sharednodes = shared_nodes a b;
  sharededges = shared_edges a b;
}

-- joining a and b, the joint sheet being spelled so in the output: refused, and nothing is written; or the join stands in front, its rows and the shared ones being as many as the sheets have
pub data JoinsAs (spelled : List ℕ → List ℕ) (refusal : Refusal) (a b out : List ℕ) : Joined → List ℕ → Type 0 where
  refused : (refusal.number ≡ 0 → ⊥) → JoinsAs spelled refusal a b out (refused_join refusal) out
  joined : (j : List ℕ) → refusal.number ≡ 0 → IsJoin a b j
      → (header_of j).nodes + shared_nodes a b ≡ (header_of a).nodes + (header_of b).nodes
      → (header_of j).edges + shared_edges a b ≡ (header_of a).edges + (header_of b).edges
      → length (spelled j) ≤ length out → JoinsAs spelled refusal a b out (made_join a b j) (spelled j ++ drop (length (spelled j)) out)

-- .. as its words are
abbrev pub Joins : Refusal → List ℕ → List ℕ → List ℕ → Joined → List ℕ → Type 0
Joins = JoinsAs (λ j. j)

-- what joining promises: of the two sheets, the lent output before, the result, and the output after
abbrev pub Joining : List ℕ → List ℕ → List ℕ → Joined → List ℕ → Type 0
Joining a b out r out' = Joins (join_fault a b (length out)) a b out r out'
