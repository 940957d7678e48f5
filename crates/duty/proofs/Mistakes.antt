-- The wrong order of the offices that a must-fail edit tries, under the edit's name, and what the request says otherwise.
-- Assumes nothing.
use Prim.Native.Nat.{ℕ, zero, suc}
use native.Mathlib.Omega.{arith}
use mathlib.Core.Path.{refl}
use mathlib.Core.List.{List, [], ◌∷◌}
use Rattle.tables.specs.Table.{rows_of}
use Rattle.tables.specs.Office.{some_of, holds, held_by}
use Rattle.sheet.specs.Refusals.{◌when◌otherwise◌, ◌or_else◌, refuse, ◌then◌, first_row}
use Rattle.sheet.specs.Limits.{max_edges, edge_words, edge_place}
use Rattle.sheet.specs.Rows.{header_of, node_at, edge_at}
use Rattle.sheet.specs.Verdict.{header_fault, sheet_fault, node_fault, row_order, edge_shape, edge_fit, node_fault_at, edge_rest, edge_fault_at, rows_verdict, verdict}
use Rattle.sheet.specs.Accepted.{Accepted}
use Rattle.sheet.specs.Named.{node_row, edge_row, tables_of, seen_at}
use Rattle.sheet.proofs.Accepting.{accepted}
use Rattle.paths.specs.Leads.{leads}
use Rattle.meaning.specs.Paths.{path, spell, is_path}
use Rattle.meaning.specs.Answers.{AnswerIs}
use Rattle.meaning.specs.Ships.{sheet_j}
use Rattle.meaning.proofs.Every.{rests}
use Rattle.meaning.proofs.Ships.{by, never, answer-by}
use Rattle.duty.specs.Desk.{in_turn, DeskAnswer, determined}

abbrev office1_first : ℕ → List ℕ
office1_first zero = []
office1_first (suc zero) = 1 ∷ []
office1_first (suc (suc n)) = 1 ∷ 2 ∷ []

ships-accepted : Accepted sheet_j
unfolding sheet_j verdict rows_verdict sheet_fault header_fault max_edges node_fault_at node_fault row_order edge_fault_at edge_shape edge_rest edge_fit refuse ◌then◌ first_row ◌or_else◌ ◌when◌otherwise◌ header_of node_at edge_at edge_place edge_words
ships-accepted = accepted 1 sheet_j refl

-- 11's path for 31 on 42, by which office 1 bans and office 2 grants
abbrev by_category21 : List ℕ
by_category21 = 11 ∷ 0 ∷ 21 ∷ 0 ∷ 31 ∷ 2 ∷ 42 ∷ 0 ∷ []

-- "office 2, then office 1": where the two differ, as in case 7, the answer is office 2's, which grants, and not office 1's, which bans
pub office-1-first : DeskAnswer (seen_at sheet_j) 11 31 42 (office1_first 2) 2 × DeskAnswer (seen_at sheet_j) 11 31 42 (in_turn 2) 1
unfolding sheet_j header_of node_at edge_at edge_place edge_words node_row edge_row tables_of rows_of some_of holds held_by leads path spell is_path rests
office-1-first = (by-office-1, by-office-2)
  where
    banned : AnswerIs (seen_at sheet_j 1) 11 31 42 2
    banned = answer-by sheet_j ships-accepted 1 11 31 42 (never (21 ∷ 22 ∷ [])) (by by_category21) refl refl

    granted : AnswerIs (seen_at sheet_j 2) 11 31 42 1
    granted = answer-by sheet_j ships-accepted 2 11 31 42 (by by_category21) (never (21 ∷ [])) refl refl

    by-office-1 : DeskAnswer (seen_at sheet_j) 11 31 42 (1 ∷ 2 ∷ []) 2
    by-office-1 = determined 1 (2 ∷ []) 2 banned (λ e. omega (arith, e))

    by-office-2 : DeskAnswer (seen_at sheet_j) 11 31 42 (2 ∷ 1 ∷ []) 1
    by-office-2 = determined 2 (1 ∷ []) 1 granted (λ e. omega (arith, e))
