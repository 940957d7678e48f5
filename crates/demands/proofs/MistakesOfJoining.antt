-- Each wrong line that a must-fail edit puts into demand 3, under the edit's name, and a result that the entries' promises allow and for which it is false.
-- Assumes nothing.
use Prim.Native.Nat.{ℕ, zero, suc, ◌+◌, ◌-◌, ◌*◌, ◌<◌, ◌≤◌}
use native.Mathlib.Omega.{arith}
use mathlib.Core.Path.{◌≡◌, refl, ap}
use mathlib.Core.Bool.{true, false}
use mathlib.Core.List.{List, [], ◌∷◌}
use lib.ListN.{length, drop}
use Rattle.tables.specs.Count.{how_many, some_row, has, shared}
use Rattle.tables.specs.Key.{Key}
use Rattle.tables.specs.Table.{rows_of, marks_at}
use Rattle.tables.specs.Office.{some_of, holds, held_by, Same}
use Rattle.sheet.specs.Limits.{max_edges, edge_words, edge_place}
use Rattle.sheet.specs.Refusals.{◌when◌otherwise◌, ◌or_else◌, refuse, ◌then◌, first_row, none}
use Rattle.sheet.specs.Rows.{header_of, node_at, edge_at}
use Rattle.sheet.specs.Verdict.{header_fault, sheet_fault, node_fault, row_order, edge_shape, edge_fit, node_fault_at, edge_rest, edge_fault_at, rows_verdict, verdict}
use Rattle.sheet.specs.Accepted.{Accepted}
use Rattle.sheet.specs.Named.{node_row, edge_row, tables_of, held_at, seen_at}
use Rattle.sheet.proofs.Accepting.{accepted}
use Rattle.paths.specs.Leads.{leads}
use Rattle.meaning.specs.Paths.{grant, person, path, spell, is_path}
use Rattle.meaning.specs.Answers.{AnswerIs, lowest, jointly}
use Rattle.meaning.specs.Join.{offices_of, IsJoin, IsTaken}
use Rattle.meaning.specs.Ships.{sheet_a, sheet_b, sheet_j}
use Rattle.meaning.proofs.Every.{rests, no-path}
use Rattle.meaning.proofs.Ships.{sister-ships}
use Rattle.question.specs.declared.Question.{Question}
use Rattle.question.specs.declared.Answer.{Answer}
use Rattle.question.specs.Asked.{stands, known, unknown, bad_office, ask_fault, joint_fault, after_sheet}
use Rattle.question.specs.Replies.{answered, short}
use Rattle.ask.specs.Promises.{AnswersAtOffice, AnswersJointly}
use Rattle.counter.specs.Filed.{asking}
use Rattle.files.specs.Bytes.{words_of, bytes_of, bytes_fault, bytes_verdict}
use Rattle.join.specs.declared.Joined.{Joined}
use Rattle.join.specs.Joins.{shared_nodes, shared_edges, union_nodes, union_edges, not_one, too_much, sheets_fault, union_fault, join_fault, made_join, refused}
use Rattle.join_files.specs.JoinedFiles.{files_fault, JoinsFiles}
use Rattle.takeout.specs.Promises.{TakesOut}
use Rattle.demands.specs.Demands.{front, Sheet, JointSheet, Fits, at_office, Combines}

pub record MarksFallTogether (a b j : List ℕ) : Type 0 where
  pub identities : (k : Key) → marks_at (tables_of j).nodes k ≡ marks_at (tables_of a).nodes k + 1 * marks_at (tables_of b).nodes k

-- case 11: person 11, whom both sheets have, bears 3
pub marks-fall-together : MarksFallTogether sheet_a sheet_b sheet_j → ⊥
unfolding sheet_a sheet_b sheet_j header_of node_at node_row tables_of rows_of marks_at
marks-fall-together h = let e = h.identities (person 11) in omega arith

pub record EdgesCountedForNodes (spelled : List ℕ → List ℕ) (a b out : List ℕ) (r : Joined) (out' : List ℕ) : Type 0 where
  pub sheet : List ℕ
  pub counts : (r.nodes ≡ (header_of sheet).edges) × (r.edges ≡ (header_of sheet).edges)
  pub rows : ((header_of sheet).nodes ≡ union_nodes a b) × ((header_of sheet).edges ≡ union_edges a b)

-- B joined with itself has 4 nodes and 3 edges
pub edges-counted-for-nodes : (out out' : List ℕ) (r : Joined) → r.nodes ≡ 4 → EdgesCountedForNodes (λ j. j) sheet_b sheet_b out r out' → ⊥
unfolding sheet_b header_of node_at edge_at edge_place edge_words edge_row how_many some_row has shared shared_nodes shared_edges union_nodes union_edges
edges-counted-for-nodes out out' r n h = omega (arith, h.counts.0, h.rows.1)

pub record SharedRowsTwice (spelled : List ℕ → List ℕ) (a b out : List ℕ) (r : Joined) (out' : List ℕ) : Type 0 where
  pub sheet : List ℕ
  pub counts : (r.nodes ≡ (header_of sheet).nodes) × (r.edges ≡ (header_of sheet).edges)
  pub rows : ((header_of sheet).nodes ≡ (header_of a).nodes + (header_of b).nodes) × ((header_of sheet).edges ≡ union_edges a b)

-- the joint of A and B has 8 nodes, where A has 8 and B has 4
pub shared-rows-twice : (out out' : List ℕ) → SharedRowsTwice (λ j. j) sheet_a sheet_b out (made_join sheet_a sheet_b sheet_j) out' → ⊥
unfolding sheet_a sheet_b sheet_j header_of
shared-rows-twice out out' h = omega (arith, h.counts.0, h.rows.0)

pub record BytesForWords : Type 0 where
  pub joins-files : (f g out : List ℕ) {r : Joined} {out' : List ℕ} → bytes_verdict 1 f ≡ none → bytes_verdict 2 g ≡ none → offices_of (words_of f) ≡ 1 → offices_of (words_of g) ≡ 1
      → Fits (words_of f) (words_of g) (length out) → JoinsFiles f g out r out' → (r.number ≡ 0) × JointSheet bytes_of (words_of f) (words_of g) out r out'

-- the joint of A and B has 70 words, and an output of 136 bytes, as many as B's file has, no room for them
pub bytes-for-words : BytesForWords → ⊥
unfolding sheet_a sheet_b edge_row how_many some_row has shared shared_nodes shared_edges union_nodes union_edges not_one too_much sheets_fault union_fault join_fault files_fault words_of bytes_of bytes_fault bytes_verdict verdict rows_verdict sheet_fault header_fault max_edges node_fault_at node_fault row_order edge_fault_at edge_shape edge_rest edge_fit refuse ◌then◌ first_row ◌or_else◌ ◌when◌otherwise◌ header_of node_at edge_at edge_place edge_words
bytes-for-words h =
    let e = (h.joins-files (bytes_of sheet_a) (bytes_of sheet_b) (bytes_of sheet_b) refl refl refl refl (record { nodes = omega arith; edges = omega arith; words = omega arith }) (refused (λ z. omega arith))).0 in
    omega arith

pub record RoomOneWordShort : Type 0 where
  pub takes_out : (s : List ℕ) (office : ℕ) (out : List ℕ) {x : Answer} {out' : List ℕ} → Accepted s → 1 ≤ office → office ≤ offices_of s → length s ≤ length out + 1 → TakesOut s office out x out'
      → (x.number ≡ 0) × IsTaken s (office - 1) 1 (front x out')

-- B's one office is all of B, 34 words, which 33 have no room for
pub room-one-word-short : RoomOneWordShort → ⊥
unfolding sheet_b bad_office after_sheet verdict rows_verdict sheet_fault header_fault max_edges node_fault_at node_fault row_order edge_fault_at edge_shape edge_rest edge_fit refuse ◌then◌ first_row ◌or_else◌ ◌when◌otherwise◌ header_of node_at edge_at edge_place edge_words
room-one-word-short h =
    let e = (h.takes_out sheet_b 1 (drop 1 sheet_b) whole (omega arith) (omega arith) (omega arith) (short sheet_b refl itself (omega arith))).0 in
    omega arith
  where
    whole : Accepted sheet_b
    whole = accepted 1 sheet_b refl

    holds : (i : ℕ) → i < 1 → Same (held_at sheet_b (suc i)) (held_at sheet_b (suc (0 + i)))
    holds zero l = record { nodes = λ k. refl; edges = λ k. refl }
    holds (suc i) l = absurd (omega arith)

    itself : IsTaken sheet_b 0 1 sheet_b
    itself = record { accepted = whole; offices = refl; holds = holds }

pub record OfficesAnswersExchanged : Type 0 where
  pub combined : (a b j : List ℕ) (q : Question) {x y r : Answer} → Sheet 1 a → Sheet 1 b → IsJoin a b j → joint_fault j q ≡ 0
      → AnswersAtOffice (after_sheet b) b (at_office 1 q) x → AnswersAtOffice (after_sheet a) a (at_office 1 q) y → AnswersJointly (after_sheet j) j q r → Combines q.rule x y r

-- cases 4, 6 and 9: A bans, B grants, and first-applicable bans
pub offices-answers-exchanged : OfficesAnswersExchanged → ⊥
unfolding sheet_a sheet_b sheet_j verdict rows_verdict sheet_fault header_fault max_edges node_fault_at node_fault row_order edge_fault_at edge_shape edge_rest edge_fit refuse ◌then◌ first_row ◌or_else◌ ◌when◌otherwise◌ header_of node_at edge_at edge_place edge_words some_row stands known unknown bad_office ask_fault joint_fault after_sheet lowest jointly
offices-answers-exchanged h =
    let e = h.combined sheet_a sheet_b sheet_j (asking 1 3 0 11 31 42) (record { formed = accepted 1 sheet_a refl; count = refl }) (record { formed = accepted 1 sheet_b refl; count = refl }) sister-ships.case11 refl
    (answered 1 0 refl (sister-ships.case6, refl)) (answered 2 0 refl (sister-ships.case4, refl)) (answered 2 1 refl sister-ships.case9) in
    let n = ap (λ (r : Answer). r.value) e in
    omega arith

pub record Office1AskedTwice : Type 0 where
  pub combined-within : (s : List ℕ) (q : Question) {x y r : Answer} → Sheet 2 s → joint_fault s q ≡ 0
      → AnswersAtOffice (after_sheet s) s (at_office 1 q) x → AnswersAtOffice (after_sheet s) s (at_office 1 q) y → AnswersJointly (after_sheet s) s q r → Combines q.rule x y r

-- case 7: office 1 of the joint sheet bans, and grant-first grants
pub office-1-asked-twice : Office1AskedTwice → ⊥
unfolding sheet_j node_row edge_row tables_of rows_of some_of holds held_by leads path spell is_path rests verdict rows_verdict sheet_fault header_fault max_edges node_fault_at node_fault row_order edge_fault_at edge_shape edge_rest edge_fit refuse ◌then◌ first_row ◌or_else◌ ◌when◌otherwise◌ header_of node_at edge_at edge_place edge_words some_row stands known unknown bad_office ask_fault joint_fault after_sheet lowest jointly
office-1-asked-twice h =
    let e = h.combined-within sheet_j (asking 1 1 0 11 31 42) (record { formed = whole; count = refl }) refl (answered 2 0 refl (bans, refl)) (answered 2 0 refl (bans, refl)) (answered 1 2 refl sister-ships.case7) in
    let n = ap (λ (r : Answer). r.value) e in
    omega arith
  where
    whole : Accepted sheet_j
    whole = accepted 1 sheet_j refl

    bans : AnswerIs (seen_at sheet_j 1) 11 31 42 2
    bans = record { grants = false; bans = true; granted = no-path sheet_j whole 1 grant 11 31 42 (21 ∷ 22 ∷ []) refl; banned = record { words = 11 ∷ 0 ∷ 21 ∷ 0 ∷ 31 ∷ 2 ∷ 42 ∷ 0 ∷ []; is = refl }; number = refl }
