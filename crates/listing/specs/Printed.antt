-- What the writer prints of a sheet: a line for each node row, then one for each edge row, in sheet order.
-- Assumes nothing.
use Rattle.std.specs.Prelude.{ℕ, zero, suc, ◌+◌, ◌≤◌, ◌≡◌, not, cond, List, [], ◌++◌, length}
use Rattle.std.proofs.lemmas.List.Edits.{sets}
use Rattle.sheet.specs.declared.Half.{Half}
use Rattle.sheet.specs.declared.Half.TheVariants.{Nodes, Edges}
use Rattle.sheet.specs.declared.Header.{Header}
use Rattle.sheet.specs.declared.Node.{Node}
use Rattle.sheet.specs.declared.Refusal.{Refusal}
use Rattle.sheet.specs.Kinds.{applies_kind}
use Rattle.sheet.specs.Refusals.{◌is◌, ◌when◌otherwise◌, none, refuse, ◌then◌}
use Rattle.sheet.specs.Rows.{header_of, node_at, edge_of}
use Rattle.sheet.specs.Verdict.{verdict}
use Rattle.lines.specs.declared.Line.{Line}
use Rattle.lines.specs.Naming.{node_line}
use Rattle.lines.specs.Nine.{line_text}

-- the line of a node row
abbrev pub line_of_node : Node → Line
line_of_node r = node_line r.class r.number r.variant

-- the line of an edge row between two nodes: a deed that applies has its variant behind its number, and any other line ends with its deed
unfoldable pub line_of_edge : ℕ → Node → Node → Line
line_of_edge kind from to =
    cond (kind is applies_kind)
    (record { fault = 0; form = 4 + kind; first = from.number; second = from.variant; third = to.number })
    (record { fault = 0; form = 4 + kind; first = from.number; second = to.number; third = to.variant })

-- the line of node row i, and of edge row j, of a sheet
abbrev pub node_line_at : List ℕ → ℕ → Line
node_line_at s i = line_of_node (node_at s i)

abbrev pub edge_line_at : List ℕ → ℕ → Line
edge_line_at s j = line_of_edge (edge_of s j).kind (node_at s (edge_of s j).from) (node_at s (edge_of s j).to)

-- the line of row i of a half
abbrev pub row_line : Half → List ℕ → ℕ → Line
row_line Nodes s i = node_line_at s i
row_line Edges s i = edge_line_at s i

-- the first n of lines, one behind the other
unfoldable pub printed_lines : (ℕ → Line) → ℕ → List ℕ
printed_lines f zero = []
printed_lines f (suc n) = printed_lines f n ++ line_text (f n)

-- what is printed of a sheet
unfoldable pub printed : List ℕ → List ℕ
printed s = printed_lines (node_line_at s) (header_of s).nodes ++ printed_lines (edge_line_at s) (header_of s).edges

-- 28 a sheet whose office count isn't 1
unfoldable pub joint_sheet : Header → ℕ
joint_sheet h = 28 when not (h.offices is 1) otherwise 0

-- what refuses the writer: the sheet's own 1 to 17, then 28 of that sheet
unfoldable pub print_fault : List ℕ → Refusal
print_fault s = verdict 1 s then refuse (joint_sheet (header_of s)) 1 0 none

-- bytes put behind the first `at` of a text if they fit: r is where they end, or would
pub record PutsIfRoom (text : List ℕ) (at : ℕ) (put : List ℕ) (r : ℕ) (text' : List ℕ) : Type 0 where
  pub ends : r ≡ at + length put
  pub holds : r ≤ length text → text' ≡ sets text at put
