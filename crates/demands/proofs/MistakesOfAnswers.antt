-- Each wrong line that a must-fail edit puts into demand 2, under the edit's name, and a result that the entries' promises allow and for which it is false.
-- Assumes nothing.
use Prim.Native.Nat.{ℕ}
use native.Mathlib.Omega.{arith}
use mathlib.Core.Path.{◌≡◌, refl}
use mathlib.Core.Bool.{false, false≢true, true≢false}
use mathlib.Core.List.{List, [], ◌∷◌}
use mathlib.Core.Logic.{◌↔◌}
use Rattle.tables.specs.Count.{some_row}
use Rattle.tables.specs.Table.{rows_of}
use Rattle.tables.specs.Office.{some_of, holds, held_by}
use Rattle.sheet.specs.Limits.{max_edges, edge_words, edge_place}
use Rattle.sheet.specs.declared.Refusal.{Refusal}
use Rattle.sheet.specs.Refusals.{◌when◌otherwise◌, ◌or_else◌, refuse, ◌then◌, first_row, none}
use Rattle.sheet.specs.Rows.{header_of, node_at, edge_at}
use Rattle.sheet.specs.Verdict.{header_fault, sheet_fault, node_fault, row_order, edge_shape, edge_fit, node_fault_at, edge_rest, edge_fault_at, rows_verdict, verdict}
use Rattle.sheet.specs.Accepted.{Accepted}
use Rattle.sheet.specs.Named.{node_row, edge_row, tables_of, seen_at}
use Rattle.sheet.proofs.Accepting.{accepted}
use Rattle.paths.specs.Leads.{leads}
use Rattle.meaning.specs.Paths.{Side, grant, ban, path, spell, is_path, HasPath}
use Rattle.meaning.specs.Answers.{first_rule, other, Joint}
use Rattle.meaning.specs.Deciding.{SideFirst, prior, yields, neither}
use Rattle.meaning.specs.Forms.{fewer}
use Rattle.meaning.specs.Join.{offices_of}
use Rattle.meaning.specs.Source.{Authorised}
use Rattle.meaning.specs.Ships.{sheet_a, sheet_j}
use Rattle.meaning.proofs.Axioms.{a1-a2}
use Rattle.meaning.proofs.Every.{rests, no-path}
use Rattle.meaning.proofs.Search.{none_before, witness-by}
use Rattle.meaning.proofs.Ships.{sister-ships}
use Rattle.question.specs.declared.Question.{Question}
use Rattle.question.specs.declared.Answer.{Answer}
use Rattle.question.specs.Asked.{asked, side_of, stands, known, unknown, bad_office, ask_fault, joint_fault, after_sheet}
use Rattle.question.specs.Replies.{answered, Shows, short, written}
use Rattle.ask.specs.Promises.{AnswersJointly, WitnessOf, Witnesses}
use Rattle.claim.specs.Promises.{TellsPath}
use Rattle.files.specs.Bytes.{words_of, bytes_of, bytes_fault, bytes_verdict}
use Rattle.counter.specs.Filed.{asking, after_file, InBytes, in_bytes}
use Rattle.demands.specs.Demands.{NoSuch, front, joint_in, PathOf}

pub record DecidedByTheOtherSide : Type 0 where
  pub side-first : (after : ℕ → Refusal) (s : List ℕ) (q : Question) {a : Answer} → AnswersJointly after s q a → a.number ≡ 0 → (side : Side) → q.rule ≡ first_rule side
      → SideFirst (seen_at s) (offices_of s) q.person q.deed q.folio (other side) (joint_in a)

-- case 7: granted by office 2 though office 1 bans
pub decided-by-the-other-side : DecidedByTheOtherSide → ⊥
unfolding sheet_j header_of node_at edge_at edge_place edge_words node_row edge_row tables_of rows_of some_of holds held_by leads path spell is_path verdict rows_verdict sheet_fault header_fault max_edges node_fault_at node_fault row_order edge_fault_at edge_shape edge_rest edge_fit refuse ◌then◌ first_row ◌or_else◌ ◌when◌otherwise◌ some_row stands known unknown joint_fault after_sheet
decided-by-the-other-side h = never (h.side-first (after_sheet sheet_j) sheet_j (asking 0 1 0 11 31 42) (answered 1 2 refl sister-ships.case7) refl grant refl) refl
  where
    never : {j : Joint} → SideFirst (seen_at sheet_j) 2 11 31 42 ban j → j.answer ≡ 1 → ⊥
    never (prior i l) e = omega arith
    never (yields i n l) e = n (record { s = 0; inside = omega arith; has = record { words = 11 ∷ 0 ∷ 21 ∷ 0 ∷ 31 ∷ 2 ∷ 42 ∷ 0 ∷ []; is = refl } })
    never (neither n m) e = omega arith

-- person 11 in categories 21 and 22, each with a grant on deed 31, which applies to folio 41
unfoldable two_ways : List ℕ
two_ways =
    1 ∷ 1 ∷ 5 ∷ 5 ∷ 6 ∷ 26 ∷
    1 ∷ 11 ∷ 0 ∷ 1 ∷ 2 ∷ 21 ∷ 0 ∷ 1 ∷ 2 ∷ 22 ∷ 0 ∷ 1 ∷ 3 ∷ 31 ∷ 0 ∷ 1 ∷ 4 ∷ 41 ∷ 0 ∷ 1 ∷
    1 ∷ 0 ∷ 1 ∷ 1 ∷ 1 ∷ 0 ∷ 2 ∷ 1 ∷ 3 ∷ 1 ∷ 3 ∷ 1 ∷ 3 ∷ 2 ∷ 3 ∷ 1 ∷ 5 ∷ 3 ∷ 4 ∷ 1 ∷ []

abbrev by21 : List ℕ
by21 = 11 ∷ 0 ∷ 21 ∷ 0 ∷ 31 ∷ 0 ∷ 41 ∷ 0 ∷ []

abbrev by22 : List ℕ
by22 = 11 ∷ 0 ∷ 22 ∷ 0 ∷ 31 ∷ 0 ∷ 41 ∷ 0 ∷ []

pub record ShorterPathLeft : Type 0 where
  pub shortest : (s : List ℕ) (q : Question) (out : List ℕ) {a : Answer} {out' : List ℕ} → Witnesses s q out a out' → a.number ≡ 0
      → PathOf s q (front a out') × ((ws : List ℕ) → PathOf s q ws → fewer (front a out') ws ≡ false)

-- "among those the first in dictionary order": the path by 21 is shown, and comes before the one by 22
pub shorter-path-left : ShorterPathLeft → ⊥
unfolding two_ways header_of node_at edge_at edge_place edge_words node_row edge_row tables_of rows_of some_of holds held_by leads path spell is_path none_before verdict rows_verdict sheet_fault header_fault max_edges node_fault_at node_fault row_order edge_fault_at edge_shape edge_rest edge_fit refuse ◌then◌ first_row ◌or_else◌ ◌when◌otherwise◌ some_row stands known unknown bad_office ask_fault after_sheet side_of
shorter-path-left h =
    true≢false ((h.shortest two_ways (asking 1 0 0 11 31 41) by21
    (written by21 refl (witness-by two_ways (accepted 1 two_ways refl) 1 grant 11 31 41 (21 ∷ 22 ∷ []) (0 ∷ []) by21 1 refl refl refl) (omega arith)) refl).1 by22 refl)

pub record NoIsAnotherNumber : Type 0 where
  pub is-path : (s : List ℕ) (q : Question) (list : List ℕ) {a : Answer} → TellsPath s q list a → a.number ≡ 0
      → ((a.value ≡ 1) ↔ PathOf s q list) × ((a.value ≡ 2) ↔ (PathOf s q list → ⊥))

-- the empty list is no path, and that is told by 0
pub no-is-another-number : NoIsAnotherNumber → ⊥
unfolding sheet_a header_of node_at edge_at edge_place edge_words spell is_path verdict rows_verdict sheet_fault header_fault max_edges node_fault_at node_fault row_order edge_fault_at edge_shape edge_rest edge_fit refuse ◌then◌ first_row ◌or_else◌ ◌when◌otherwise◌ bad_office after_sheet
no-is-another-number h = let e = (h.is-path sheet_a (asking 1 0 0 11 31 41) [] (answered 0 0 refl (refl, refl)) refl).1.1 (λ p. false≢true p) in omega arith

pub record PathByTheOtherAxiom : Type 0 where
  pub paths : (s : List ℕ) (q : Question) (side : Side) → HasPath (asked s q) (other side) q.person q.deed q.folio ↔ Authorised (asked s q) side q.person q.deed q.folio

abbrev case1 : Question
case1 = asking 1 0 0 11 31 41

abbrev case2 : List ℕ
case2 = 11 ∷ 0 ∷ 21 ∷ 0 ∷ 22 ∷ 0 ∷ 31 ∷ 1 ∷ 41 ∷ 0 ∷ []

-- case 1: 11 has a grant on 41, and (a2) has no ban
pub path-by-the-other-axiom : PathByTheOtherAxiom → ⊥
unfolding sheet_a node_row edge_row tables_of rows_of some_of holds held_by leads path spell is_path rests verdict rows_verdict sheet_fault header_fault max_edges node_fault_at node_fault row_order edge_fault_at edge_shape edge_rest edge_fit refuse ◌then◌ first_row ◌or_else◌ ◌when◌otherwise◌ header_of node_at edge_at edge_place edge_words
path-by-the-other-axiom h =
    no-path sheet_a (accepted 1 sheet_a refl) 1 ban 11 31 41 (21 ∷ []) refl ((a1-a2 (seen_at sheet_a 1) 11 31 41 ban).1 ((h.paths sheet_a case1 ban).0 (record { words = case2; is = refl })))

pub record ShortOutputHasNoPath : Type 0 where
  pub refused-only : (s : List ℕ) (q : Question) (out : List ℕ) {a : Answer} {out' : List ℕ} → Witnesses s q out a out' → Accepted s → bad_office (header_of s) q.office ≡ 0
      → (a.number ≡ 0 → ⊥) → NoSuch (PathOf s q)

-- case 2's witness, and an output of no words
pub short-output-has-no-path : ShortOutputHasNoPath → ⊥
unfolding sheet_a node_row edge_row tables_of rows_of some_of holds held_by leads path spell is_path verdict rows_verdict sheet_fault header_fault max_edges node_fault_at node_fault row_order edge_fault_at edge_shape edge_rest edge_fit refuse ◌then◌ first_row ◌or_else◌ ◌when◌otherwise◌ header_of node_at edge_at edge_place edge_words some_row stands known unknown bad_office ask_fault after_sheet side_of
short-output-has-no-path h = h.refused-only sheet_a case1 [] (short case2 refl sister-ships.case2 (omega arith)) (accepted 1 sheet_a refl) refl (λ z. omega arith) case2 refl

pub record ShownBytesHaveNoPath : Type 0 where
  pub refused-only-bytes : (f : List ℕ) (q : Question) (out : List ℕ) {a : Answer} {out' : List ℕ} → Shows (after_file f (ask_fault (words_of f) q)) (InBytes (WitnessOf (words_of f) q)) out a out'
      → bytes_verdict 1 f ≡ none → bad_office (header_of (words_of f)) q.office ≡ 0 → (a.number ≡ 25 → ⊥) → NoSuch (PathOf (words_of f) q)

-- case 2's witness is shown in an output of as many bytes
pub shown-bytes-have-no-path : ShownBytesHaveNoPath → ⊥
unfolding sheet_a node_row edge_row tables_of rows_of some_of holds held_by leads path spell is_path verdict rows_verdict sheet_fault header_fault max_edges node_fault_at node_fault row_order edge_fault_at edge_shape edge_rest edge_fit refuse ◌then◌ first_row ◌or_else◌ ◌when◌otherwise◌ header_of node_at edge_at edge_place edge_words some_row stands known unknown bad_office ask_fault after_file side_of words_of bytes_of bytes_fault bytes_verdict
shown-bytes-have-no-path h =
    h.refused-only-bytes (bytes_of sheet_a) case1 (bytes_of case2) (written (bytes_of case2) refl (in_bytes case2 sister-ships.case2) (omega arith)) refl refl (λ z. omega arith) case2 refl
