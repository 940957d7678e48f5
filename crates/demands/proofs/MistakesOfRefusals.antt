-- Each wrong line that a must-fail edit puts into demand 1, under the edit's name, and a result that the entries' promises allow and for which it is false.
-- Assumes nothing.
use Prim.Native.Nat.{ℕ, ◌≤◌}
use native.Mathlib.Omega.{arith}
use mathlib.Core.Path.{◌≡◌, refl, ap}
use mathlib.Core.Bool.{true, false}
use mathlib.Core.List.{List, [], ◌∷◌}
use mathlib.Core.Logic.{◌↔◌}
use lib.ListN.{length, drop, get_or}
use Rattle.tables.specs.Count.{some_row, has}
use Rattle.tables.specs.Key.{Key}
use Rattle.sheet.specs.Limits.{max_edges, edge_words, edge_place}
use Rattle.sheet.specs.declared.Refusal.{Refusal}
use Rattle.sheet.specs.Parts.{Part}
use Rattle.sheet.specs.Refusals.{◌when◌otherwise◌, ◌or_else◌, refuse, ◌then◌, first_row, none, short, written, Writes}
use Rattle.sheet.specs.Rows.{header_of, node_at, edge_at}
use Rattle.sheet.specs.Verdict.{header_fault, sheet_fault, node_fault, row_order, edge_shape, edge_fit, node_fault_at, edge_rest, edge_fault_at, rows_verdict, verdict}
use Rattle.sheet.specs.Accepted.{Accepted}
use Rattle.sheet.proofs.Accepting.{accepted}
use Rattle.meaning.specs.Paths.{person, folio}
use Rattle.meaning.specs.Ships.{sheet_a, sheet_b}
use Rattle.question.specs.declared.Question.{Question}
use Rattle.question.specs.declared.Answer.{Answer}
use Rattle.question.specs.Asked.{ask_fault, after_sheet}
use Rattle.question.specs.Replies.{refused, answered}
use Rattle.ask.specs.Promises.{AnswersAtOffice}
use Rattle.files.specs.Bytes.{words_of, bytes_fault, bytes_verdict}
use Rattle.counter.specs.Filed.{asking, after_file}
use Rattle.lookup.specs.Looked.{has_identity, neither, look_fault, LooksUp, in-first, StandsIn, of-first, of-second, PlacesIdentity}
use Rattle.demands.specs.Demands.{said_in, Keeps, InFront, RowPartOf}

pub record QuestionBeforeFile : Type 0 where
  pub counter-1 : (f : List ℕ) (q : Question) {a : Answer} → AnswersAtOffice (after_file f) (words_of f) q a → said_in a ≡ after_sheet (words_of f) (ask_fault (words_of f) q)

-- a file of one byte is refused by 33, and the words that it has, none, by 1
pub question-before-file : QuestionBeforeFile → ⊥
unfolding after_file after_sheet bytes_verdict bytes_fault words_of verdict rows_verdict sheet_fault refuse ◌then◌ ◌or_else◌ ◌when◌otherwise◌
question-before-file h = let e = ap (λ (r : Refusal). r.number) (h.counter-1 (0 ∷ []) (asking 1 0 0 11 31 41) (refused (λ z. omega arith))) in omega arith

pub record RefusedWhenWellFormed : Type 0 where
  pub sheets : (place : ℕ) (s : List ℕ) → (verdict place s ≡ none → ⊥) ↔ Accepted s

-- sheet A is well-formed, and not refused
pub refused-when-well-formed : RefusedWhenWellFormed → ⊥
unfolding sheet_a verdict rows_verdict sheet_fault header_fault max_edges node_fault_at node_fault row_order edge_fault_at edge_shape edge_rest edge_fit refuse ◌then◌ first_row ◌or_else◌ ◌when◌otherwise◌ header_of node_at edge_at edge_place edge_words
refused-when-well-formed h = (h.sheets 1 sheet_a).1 (accepted 1 sheet_a refl) refl

pub record ShortBefore33 : Type 0 where
  pub writing : (refusal : Refusal) (result out : List ℕ) {r : Refusal} {out' : List ℕ} → Writes refusal result out r out'
      → Keeps (λ x. x ≡ (short (length out) (length result) then refusal)) r (length result) out out' × (r.number ≡ 0 → InFront result out out')

-- a file refused by 33 at sheet 1, whose word the output has no room for
pub short-before-33 : ShortBefore33 → ⊥
unfolding short written refuse ◌then◌ ◌when◌otherwise◌
short-before-33 h =
    let e = (h.writing (record { number = 33; sheet = 1; row = 0 }) (7 ∷ []) [] (record { told = refl; holds = refl })).0.first in
    let n = ap (λ (r : Refusal). r.number) e in
    omega arith

pub record SuccessWritesNothing (table : Refusal → Type 0) (said : Refusal) (count : ℕ) (out out' : List ℕ) : Type 0 where
  pub only : said.number ≡ 0 → (count ≤ length out) × (length out' ≡ length out) × (drop 0 out' ≡ drop 0 out)

-- the word 7 written over a 0
pub success-writes-nothing : Writes none (7 ∷ []) (0 ∷ []) none (7 ∷ []) × (SuccessWritesNothing (λ r. r ≡ none) none 1 (0 ∷ []) (7 ∷ []) → ⊥)
unfolding short written refuse ◌then◌ ◌when◌otherwise◌
success-writes-nothing = (record { told = refl; holds = refl }, λ h. let e = ap (λ l. get_or l 0 0) (h.only refl).2 in omega arith)

pub record SecondSheetsRowGiven : Type 0 where
  pub look-up-row : (a b : Part) (k : Key) {p : Part} → LooksUp a b k p → (look_fault a.words b.words k).number ≡ 0
      → (has_identity b.words k ≡ true → RowPartOf b k p) × (has_identity b.words k ≡ false → RowPartOf a k p)

-- person 11 is in A and in B: row 0 of A is given, and lies in A's block of memory
pub second-sheets-row-given : SecondSheetsRowGiven → ⊥
unfolding sheet_a sheet_b look_fault neither has_identity has some_row verdict rows_verdict sheet_fault header_fault max_edges node_fault_at node_fault row_order edge_fault_at edge_shape edge_rest edge_fit refuse ◌then◌ first_row ◌or_else◌ ◌when◌otherwise◌ header_of node_at edge_at edge_place edge_words
second-sheets-row-given h =
    let a : Part = record { block = 1; offset = 0; words = sheet_a } in
    let b : Part = record { block = 2; offset = 0; words = sheet_b } in
    let e = ap (λ (p : Part). p.block) ((h.look-up-row a b (person 11) (in-first 0 refl (omega arith) refl) refl).0 refl).lies in
    omega arith

pub record RowToldForSheet : Type 0 where
  pub look-up-place : (a b : List ℕ) (k : Key) {x : Answer} → PlacesIdentity a b k x → (said_in x ≡ look_fault a b k) × (x.number ≡ 0 → StandsIn a b k x.count x.value)

-- folio 42 is row 7 of the first sheet, A, and there is no sheet 7
pub row-told-for-sheet : RowToldForSheet → ⊥
unfolding sheet_a sheet_b look_fault neither has_identity has some_row verdict rows_verdict sheet_fault header_fault max_edges node_fault_at node_fault row_order edge_fault_at edge_shape edge_rest edge_fit refuse ◌then◌ first_row ◌or_else◌ ◌when◌otherwise◌ header_of node_at edge_at edge_place edge_words
row-told-for-sheet h = no-sheet-7 ((h.look-up-place sheet_a sheet_b (folio 42) (answered 1 7 refl (of-first 7 (omega arith) refl))).1 refl) refl
  where
    no-sheet-7 : {n i : ℕ} → StandsIn sheet_a sheet_b (folio 42) n i → n ≡ 7 → ⊥
    no-sheet-7 (of-first i l k) e = omega arith
    no-sheet-7 (of-second i m l k) e = omega arith
