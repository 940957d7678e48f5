-- The sister ships' files, joined: all that the statements allow is the joint sheet of case 11 and the document's two lines. By computing.
-- Assumes nothing.
use Prim.Native.Nat.{ℕ, ◌+◌, ◌/◌, ◌≤◌}
use mathlib.Core.Path.{◌≡◌, refl, ap, subst₂, ◌∙◌}
use mathlib.Core.List.{List, [], ◌∷◌, ◌++◌}
use native.Mathlib.Omega.{arith}
use lib.ListN.{length, drop}
use Rattle.sheet.specs.declared.Refusal.{Refusal}
use Rattle.sheet.specs.Refusals.{◌when◌otherwise◌, ◌or_else◌, none, refuse, ◌then◌, first_row}
use Rattle.sheet.specs.Limits.{max_edges, edge_words, edge_place, sheet_words}
use Rattle.sheet.specs.Rows.{header_of, node_at, edge_at}
use Rattle.sheet.specs.Named.{edge_row}
use Rattle.sheet.specs.Verdict.{header_fault, sheet_fault, node_fault, row_order, edge_shape, edge_fit, node_fault_at, edge_rest, edge_fault_at, rows_verdict, verdict}
use Rattle.sheet.proofs.Refusing.{then-none}
use Rattle.text.specs.Growing.{digits_by, decimal}
use Rattle.files.specs.Bytes.{words_of, bytes_of, bytes_fault, bytes_verdict}
use Rattle.meaning.specs.Ships.{sheet_a, sheet_b, sheet_j}
use Rattle.meaning.proofs.Ships.{sister-ships}
use Rattle.tables.specs.Count.{how_many, some_row, has, shared}
use Rattle.join.specs.declared.Joined.{Joined}
use Rattle.join.specs.Joins.{shared_nodes, shared_edges, union_nodes, union_edges, not_one, too_much, sheets_fault, union_fault, join_fault, made_join, joined}
use Rattle.join_files.specs.JoinedFiles.{files_fault, JoinsBytes, JoinsFiles}
use Rattle.join_files.specs.Lines.{two_lines, refusal_line, report_of}
use Rattle.join_files.proofs.Joining.{fits}
use Rattle.join.proofs.Single.{joins-one}

-- "nodes 8 shared 4", "edges 8 shared 2", each with the end of its line
abbrev pub ships_lines : List ℕ
ships_lines =
    110 ∷ 111 ∷ 100 ∷ 101 ∷ 115 ∷ 32 ∷ 56 ∷ 32 ∷ 115 ∷ 104 ∷ 97 ∷ 114 ∷ 101 ∷ 100 ∷ 32 ∷ 52 ∷ 10 ∷
    101 ∷ 100 ∷ 103 ∷ 101 ∷ 115 ∷ 32 ∷ 56 ∷ 32 ∷ 115 ∷ 104 ∷ 97 ∷ 114 ∷ 101 ∷ 100 ∷ 32 ∷ 50 ∷ 10 ∷ []

lines : report_of (made_join sheet_a sheet_b sheet_j) ≡ ships_lines
unfolding sheet_a sheet_b sheet_j header_of node_at edge_at edge_place edge_words edge_row how_many some_row has shared shared_nodes shared_edges digits_by decimal two_lines refusal_line report_of
lines = refl

-- the two files are not refused, and hold the sheets' words
files : (bytes_verdict 1 (bytes_of sheet_a) ≡ none) × (bytes_verdict 2 (bytes_of sheet_b) ≡ none) × (words_of (bytes_of sheet_a) ≡ sheet_a) × (words_of (bytes_of sheet_b) ≡ sheet_b)
unfolding sheet_a sheet_b words_of bytes_of bytes_fault bytes_verdict verdict rows_verdict sheet_fault header_fault max_edges node_fault_at node_fault row_order edge_fault_at edge_shape edge_rest edge_fit refuse ◌then◌ first_row ◌or_else◌ ◌when◌otherwise◌ header_of node_at edge_at edge_place edge_words
files = (refl, refl, refl, refl)

-- the counts add up, and the joint file has 280 bytes
counts-add-up : ((header_of sheet_j).nodes + shared_nodes sheet_a sheet_b ≡ (header_of sheet_a).nodes + (header_of sheet_b).nodes) × ((header_of sheet_j).edges + shared_edges sheet_a sheet_b ≡ (header_of sheet_a).edges + (header_of sheet_b).edges) × (length (bytes_of sheet_j) ≡ 280)
unfolding sheet_a sheet_b sheet_j bytes_of header_of node_at edge_at edge_place edge_words edge_row how_many some_row has shared shared_nodes shared_edges
counts-add-up = (refl, refl, refl)

-- the union is 70 words, and nothing refuses the join where there is room
union : (sheet_words (header_of sheet_a).form (union_nodes sheet_a sheet_b) (union_edges sheet_a sheet_b) ≡ 70) × ((join_fault sheet_a sheet_b 10246).number ≡ 0)
unfolding sheet_a sheet_b verdict rows_verdict sheet_fault header_fault max_edges node_fault_at node_fault row_order edge_fault_at edge_shape edge_rest edge_fit refuse ◌then◌ first_row ◌or_else◌ ◌when◌otherwise◌ header_of node_at edge_at edge_place edge_words edge_row how_many some_row has shared shared_nodes shared_edges union_nodes union_edges not_one too_much sheets_fault union_fault join_fault
union = (refl, refl)

passes : (room : ℕ) → 280 ≤ room → (files_fault (bytes_of sheet_a) (bytes_of sheet_b) room).number ≡ 0
unfolding files_fault
passes room h =
    let e : files_fault (bytes_of sheet_a) (bytes_of sheet_b) room ≡ join_fault sheet_a sheet_b (room / 4) =
    then-none _ _ files.0 ∙ then-none _ _ files.1 ∙ (λ i. join_fault (files.2 i) (files.3 i) (room / 4)) in
    ap (λ (r : Refusal). r.number) e ∙ fits sheet_a sheet_b (room / 4) union.1 (omega (arith, union.0, h))

pub ships-joined : (out o : List ℕ) (r : Joined) → 280 ≤ length out → JoinsFiles (bytes_of sheet_a) (bytes_of sheet_b) out r o → (report_of r ≡ ships_lines) × (o ≡ bytes_of sheet_j ++ drop 280 out)
ships-joined out o r h x =
    let f = files_fault (bytes_of sheet_a) (bytes_of sheet_b) (length out) in
    let y : JoinsBytes f sheet_a sheet_b out r o = subst₂ (λ (a b : List ℕ). JoinsBytes f a b out r o) files.2 files.3 x in
    let one = joins-one bytes_of f sheet_a sheet_b out y (joined sheet_j (passes (length out) h) sister-ships.case11 counts-add-up.0 counts-add-up.1 (omega (arith, h, counts-add-up.2))) in
    (ap report_of one.0 ∙ lines, one.1 ∙ ap (λ (n : ℕ). bytes_of sheet_j ++ drop n out) counts-add-up.2)
