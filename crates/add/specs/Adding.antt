-- What adding a row promises: of the sheet's words, the row, the lent output before, the answer, and the output after.
-- Assumes nothing.
use Rattle.std.specs.Prelude.{ℕ, ◌<◌, ◌≤◌, ◌≡◌, not, List, ◌++◌, length, drop, Result}
use Rattle.tables.specs.Count.{has}
use Rattle.sheet.specs.declared.Cells.{Cells}
use Rattle.sheet.specs.declared.Edge.{Edge}
use Rattle.sheet.specs.declared.Half.{Half}
use Rattle.sheet.specs.declared.Half.TheVariants.{Nodes, Edges}
use Rattle.sheet.specs.declared.Header.{Header}
use Rattle.sheet.specs.declared.Node.{Node}
use Rattle.sheet.specs.declared.Refusal.{Refusal}
use Rattle.sheet.specs.declared.fault.Fault.{Fault}
use Rattle.combine.specs.Made.{PutsCombined}
use Rattle.sheet.specs.Found.{PlaceIs}
use Rattle.sheet.specs.Limits.{max_nodes, max_edges}
use Rattle.sheet.specs.Refusals.{◌below◌, ◌when◌otherwise◌, ◌or_else◌}
use Rattle.sheet.specs.Rows.{header_of, count_in, node_cells, edge_cells, row_key, row_key_at}
use Rattle.sheet.specs.Verdict.{row_fault}
use Rattle.meaning.specs.Added.{IsAdded}
use Rattle.question.specs.declared.Answer.{Answer}
use Rattle.question.specs.Asked.{plain, after_sheet}
use Rattle.question.specs.Replies.{refused_by, tells}

-- a row that is already there, whatever its offices: 9 node identity, 16 edge
abbrev pub already_there : Half → ℕ
already_there Nodes = 9
already_there Edges = 16

-- the most rows of a half
abbrev pub most_in : Half → Header → ℕ
most_in Nodes h = max_nodes
most_in Edges h = max_edges h.form

-- what is refused of a row: 6 to 8 or 11 to 15, then 9 or 16, then 4 where no row is free
unfoldable pub add_fault : Half → List ℕ → Cells → ℕ
add_fault half s c =
    row_fault half s (header_of s) c or_else
    already_there half when has (count_in half (header_of s)) (row_key_at half s) (row_key c) otherwise
    4 when not (count_in half (header_of s) below most_in half (header_of s)) otherwise
    0

-- a sheet of which R holds with a row of it: 25 where the output is shorter; a success tells the row and writes only the sheet, a refusal writes nothing
pub data ShowsRow (refusal : Refusal) (R : ℕ → List ℕ → Type 0) (out : List ℕ) : Answer → List ℕ → Type 0 where
  refused : (refusal.number ≡ 0 → ⊥) → ShowsRow refusal R out (refused_by refusal) out
  short : (i : ℕ) (t : List ℕ) → refusal.number ≡ 0 → R i t → length out < length t → ShowsRow refusal R out (refused_by (plain 25)) out
  written : (i : ℕ) (t : List ℕ) → refusal.number ≡ 0 → R i t → length t ≤ length out → ShowsRow refusal R out (tells i (length t)) (t ++ drop (length t) out)

-- the sheet with the row more, and the place of the row as a search in the sheet tells it
abbrev pub AddedAt : Half → List ℕ → Cells → ℕ → List ℕ → Type 0
AddedAt half s c i t = IsAdded half s c t × PlaceIs (row_key_at half s) (count_in half (header_of s)) (row_key c) i

-- a row of either half added to any words
abbrev pub AddsRow : Half → List ℕ → Cells → List ℕ → Answer → List ℕ → Type 0
AddsRow half s c = ShowsRow (after_sheet s (add_fault half s c)) (AddedAt half s c)

-- a node row, an edge row, which names its ends by rows of the sheet
abbrev pub AddsNode : List ℕ → Node → List ℕ → Answer → List ℕ → Type 0
AddsNode s r = AddsRow Nodes s (node_cells r)

abbrev pub AddsEdge : List ℕ → Edge → List ℕ → Answer → List ℕ → Type 0
AddsEdge s e = AddsRow Edges s (edge_cells e)

-- .. put into an output, where nothing refuses it
abbrev pub PutsRow : Half → List ℕ → Cells → List ℕ → Result ℕ Fault → List ℕ → Type 0
PutsRow half s c = PutsCombined (IsAdded half s c)
