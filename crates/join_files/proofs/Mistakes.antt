-- The wrong bound that a must-fail edit tries, under the edit's name, and what the document says otherwise.
-- Assumes nothing.
use Prim.Native.Nat.{ℕ, ◌-◌, ◌/◌}
use mathlib.Core.Path.{◌≡◌, refl}
use mathlib.Core.List.{List}
use Rattle.tables.specs.Count.{how_many, some_row, has, shared}
use Rattle.sheet.specs.Limits.{max_edges, edge_words, edge_place}
use Rattle.sheet.specs.declared.Refusal.{Refusal}
use Rattle.sheet.specs.Refusals.{◌when◌otherwise◌, ◌or_else◌, refuse, ◌then◌, first_row}
use Rattle.sheet.specs.Rows.{header_of, node_at, edge_at}
use Rattle.sheet.specs.Named.{edge_row}
use Rattle.sheet.specs.Verdict.{header_fault, sheet_fault, node_fault, row_order, edge_shape, edge_fit, node_fault_at, edge_rest, edge_fault_at, rows_verdict, verdict}
use Rattle.files.specs.Bytes.{words_of, bytes_of, bytes_fault, bytes_verdict}
use Rattle.meaning.specs.Ships.{sheet_a, sheet_b}
use Rattle.join.specs.Joins.{shared_nodes, shared_edges, union_nodes, union_edges, not_one, too_much, sheets_fault, union_fault, join_fault}
use Rattle.join_files.specs.JoinedFiles.{files_fault}

abbrev exact_room : List ℕ → List ℕ → ℕ → Refusal
exact_room first second room = bytes_verdict 1 first then (bytes_verdict 2 second then join_fault (words_of first) (words_of second) ((room - 1) / 4))

-- "25: output shorter than the result": the joint of A and B has 70 words, and 280 bytes hold it
pub exact-room : ((exact_room (bytes_of sheet_a) (bytes_of sheet_b) 280).number ≡ 25) × ((files_fault (bytes_of sheet_a) (bytes_of sheet_b) 280).number ≡ 0)
unfolding files_fault sheet_a sheet_b words_of bytes_of bytes_fault bytes_verdict verdict rows_verdict sheet_fault header_fault max_edges node_fault_at node_fault row_order edge_fault_at edge_shape edge_rest edge_fit refuse ◌then◌ first_row ◌or_else◌ ◌when◌otherwise◌ header_of node_at edge_at edge_place edge_words edge_row how_many some_row has shared shared_nodes shared_edges union_nodes union_edges not_one too_much sheets_fault union_fault join_fault
exact-room = (refl, refl)
