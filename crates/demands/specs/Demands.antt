-- The three demands of the register on one page, of the public functions' own statements. The code is proved against those, so what is said here of any result is said of what the code returns.
-- Every function is also proved to come back and to do nothing undefined, for all inputs: that is the kit's own check of each, and needs no statement.
-- The counter's functions on words, and question 4 of an opened sheet, promise word for word what the functions below them do.
-- Assumes nothing.
use Rattle.std.specs.Prelude.{ℕ, ◌+◌, ◌-◌, ◌*◌, ◌/◌, ◌%◌, ◌<◌, ◌≤◌, ◌≡◌, true, false, List, [], ◌∷◌, ◌++◌, ◌↔◌, length, take, drop}
use Rattle.tables.specs.Key.{Key}
use Rattle.tables.specs.Table.{marks_at}
use Rattle.sheet.specs.declared.Cells.{Cells}
use Rattle.sheet.specs.declared.Half.{Half}
use Rattle.sheet.specs.declared.Refusal.{Refusal}
use Rattle.sheet.specs.Parts.{Part}
use Rattle.sheet.specs.Limits.{max_nodes, max_edges, sheet_words, max_bytes}
use Rattle.sheet.specs.Refusals.{none, ◌or_else◌, ◌then◌, short, Writes}
use Rattle.sheet.specs.Rows.{header_of, node_key_at}
use Rattle.sheet.specs.Verdict.{verdict}
use Rattle.sheet.specs.Accepted.{Accepted}
use Rattle.sheet.specs.Named.{tables_of, seen_at}
use Rattle.meaning.specs.Paths.{Side, is_path, HasPath}
use Rattle.meaning.specs.Answers.{first_applicable_rule, first_rule, gives, side_answer, other, Joint, jointly}
use Rattle.meaning.specs.Deciding.{SideFirst, FirstApplies}
use Rattle.meaning.specs.Forms.{fewer}
use Rattle.meaning.specs.Questions.{PersonsInCategoryAre, PersonsWithGrantAre, FoliosOutOfReachAre, BothAt, LeastTripleIs, HoldsBoth, LeastHolderIs, RedundantEdgesAre}
use Rattle.meaning.specs.Join.{offices_of, IsJoin, IsTaken}
use Rattle.meaning.specs.Source.{Authorised, Prior, Yields, Applicable}
use Rattle.question.specs.declared.Question.{Question}
use Rattle.question.specs.declared.Answer.{Answer}
use Rattle.question.specs.Asked.{asked, bad_office, ask_fault, joint_fault, plain, after_sheet, side_of}
use Rattle.question.specs.Replies.{tells, Shows}
use Rattle.ask.specs.Promises.{AnswersAtOffice, AnswersJointly, WitnessOf, Witnesses}
use Rattle.claim.specs.Promises.{TellsPath}
use Rattle.lists.specs.Sought.{unknown_category, unknown_right, bad_pair}
use Rattle.lists.specs.Promises.{ListsPersonsInCategory, ListsPersonsWithGrant, ListsFoliosOutOfReach, ShowsLeastTriple, ShowsLeastHolder, ListsRedundantEdges}
use Rattle.opened.specs.declared.Which.{Which}
use Rattle.opened.specs.declared.Which.TheVariants.{AnswerAtOffice, JointAnswer, Witness, PersonsInCategory, PersonsWithGrant, FoliosOutOfReach, LeastTriple, LeastHolder, RedundantEdges}
use Rattle.opened.specs.Asking.{question_of, Promised}
use Rattle.files.specs.Bytes.{words_of, bytes_of, bytes_verdict}
use Rattle.counter.specs.Filed.{after_file, InBytes}
use Rattle.lookup.specs.Looked.{has_identity, look_fault, row_part, LooksUp, StandsIn, PlacesIdentity}
use Rattle.join.specs.declared.Joined.{Joined}
use Rattle.join.specs.Joins.{shared_nodes, shared_edges, union_nodes, union_edges, join_fault, Joining}
use Rattle.join_files.specs.JoinedFiles.{files_fault, JoinsFiles}
use Rattle.takeout.specs.Promises.{TakesOut}
use Rattle.find.specs.Promises.{TellsPlace}
use Rattle.add.specs.Adding.{add_fault, AddsRow}
use Rattle.meaning.specs.Added.{IsAdded}
use Rattle.watch.specs.declared.Watch.{Watch}
use Rattle.watch.specs.Trace.{stepped_on, run_from}
use Rattle.duty.specs.declared.TraceReply.{TraceReply}
use Rattle.duty.specs.Desk.{after_desk}
use Rattle.duty.specs.Promises.{DeskSteps, refused_trace, Traces}
use Rattle.listing.specs.declared.Listing.{Listing}
use Rattle.listing.specs.Cut.{lines_said}
use Rattle.listing.specs.Faults.{node_lines, edge_lines, listing_fault}
use Rattle.listing.specs.Printed.{printed, print_fault}
use Rattle.listing.specs.Promises.{refusal_in, ReadsListing, WritesListing}

-- ==== Demand 1: a bad sheet or question gets the first number that applies in the table, under no other condition, and all lent memory stays untouched

-- what an answer refuses by: its number and place
abbrev pub said_in : Answer → Refusal
said_in a = record { number = a.number; sheet = a.sheet; row = a.row }

abbrev pub said_of : Joined → Refusal
said_of j = record { number = j.number; sheet = j.sheet; row = j.row }

-- there is none of which P holds
abbrev pub NoSuch : (List ℕ → Type 0) → Type 0
NoSuch P = (ws : List ℕ) → P ws → ⊥

-- the table's judgement of a question that gives a list: what refuses it, written down as the table's lines in order; then 26 where it is `Missing`, which is ⊥ where there always is a list; then 25 where the output is shorter
pub data Judged (refusal : Refusal) (Missing : Type 0) (R : List ℕ → Type 0) (room : ℕ) : Refusal → Type 0 where
  by-the-table : (refusal.number ≡ 0 → ⊥) → Judged refusal Missing R room refusal
  no_such : refusal.number ≡ 0 → Missing → Judged refusal Missing R room (plain 26)
  too_short : (ws : List ℕ) → refusal.number ≡ 0 → R ws → room < length ws → Judged refusal Missing R room (plain 25)
  not-refused : (ws : List ℕ) → refusal.number ≡ 0 → R ws → length ws ≤ room → Judged refusal Missing R room none

-- what was said is the table's judgement, which gives no other; where it is a refusal, the lent output is as it was; where it is none, only the words that the result counts are written
pub record Keeps (table : Refusal → Type 0) (said : Refusal) (count : ℕ) (out out' : List ℕ) : Type 0 where
  pub first : table said
  pub no_other : (r : Refusal) → table r → r ≡ said
  pub untouched : (said.number ≡ 0 → ⊥) → out' ≡ out
  pub only : said.number ≡ 0 → (count ≤ length out) × (length out' ≡ length out) × (drop count out' ≡ drop count out)

-- of a question that gives a list
abbrev pub KeepsTable : (ℕ → Refusal) → ℕ → Type 0 → (List ℕ → Type 0) → List ℕ → Answer → List ℕ → Type 0
KeepsTable after k Missing R out a out' = Keeps (Judged (after k) Missing R (length out)) (said_in a) a.count out out'

-- words stand in front of the output, and nothing behind them is changed
abbrev pub InFront : List ℕ → List ℕ → List ℕ → Type 0
InFront ws out out' = out' ≡ ws ++ drop (length ws) out

-- words are a grant or ban path as the question names it, at the office asked
abbrev pub PathOf : List ℕ → Question → List ℕ → Type 0
PathOf s q ws = is_path (asked s q) (side_of q.kind) q.person q.deed q.folio ws ≡ true

-- the part is the row of the sheet that has the identity, where it lies
pub record RowPartOf (sheet : Part) (k : Key) (p : Part) : Type 0 where
  pub row : ℕ
  pub inside : row < (header_of sheet.words).nodes
  pub names : node_key_at sheet.words row ≡ k
  pub lies : p ≡ row_part sheet row

-- what the entry for a question promises of bare words
abbrev pub OfWords : Which → List ℕ → Question → List ℕ → Answer → List ℕ → Type 0
OfWords AnswerAtOffice s q out a out' = AnswersAtOffice (after_sheet s) s q a × (out' ≡ out)
OfWords JointAnswer s q out a out' = AnswersJointly (after_sheet s) s q a × (out' ≡ out)
OfWords Witness s q out a out' = Witnesses s q out a out'
OfWords PersonsInCategory s q out a out' = ListsPersonsInCategory s q out a out'
OfWords PersonsWithGrant s q out a out' = ListsPersonsWithGrant s q out a out'
OfWords FoliosOutOfReach s q out a out' = ListsFoliosOutOfReach s q out a out'
OfWords LeastTriple s q out a out' = ShowsLeastTriple s q out a out'
OfWords LeastHolder s q out a out' = ShowsLeastHolder s q out a out'
OfWords RedundantEdges s q out a out' = ListsRedundantEdges s q out a out'

pub record Demand1 : Type 0 where
  -- 1 to 17 refuse a sheet exactly if it is not well-formed, and 33 and those a file: the checks return these two verdicts, and every table begins with one
  pub sheets : (place : ℕ) (s : List ℕ) → (verdict place s ≡ none) ↔ Accepted s
  pub files : (place : ℕ) (f : List ℕ) → (bytes_verdict place f ≡ none) ↔ ((length f % 4 ≡ 0) × (length f ≤ max_bytes) × Accepted (words_of f))
  pub question-1 : (s : List ℕ) (q : Question) {a : Answer} → AnswersAtOffice (after_sheet s) s q a → said_in a ≡ after_sheet s (ask_fault s q)
  pub question-2 : (s : List ℕ) (q : Question) {a : Answer} → AnswersJointly (after_sheet s) s q a → said_in a ≡ after_sheet s (joint_fault s q)
  pub question-3 : (s : List ℕ) (q : Question) (out : List ℕ) {a : Answer} {out' : List ℕ} → Witnesses s q out a out'
      → KeepsTable (after_sheet s) (ask_fault s q) (NoSuch (PathOf s q)) (WitnessOf s q) out a out'
  -- it refuses only for the sheet and office
  pub question-4 : (s : List ℕ) (q : Question) (list : List ℕ) {a : Answer} → TellsPath s q list a → said_in a ≡ after_sheet s (bad_office (header_of s) q.office)
  -- there always is a list of rising numbers, and an office's sheet: 26 is no answer of 5, 6, 7, 10 and of taking out
  pub question-5 : (s : List ℕ) (q : Question) (out : List ℕ) {a : Answer} {out' : List ℕ} → ListsPersonsInCategory s q out a out'
      → KeepsTable (after_sheet s) (bad_office (header_of s) q.office or_else unknown_category s q) ⊥ (PersonsInCategoryAre (asked s q) q.category) out a out'
  pub question-6 : (s : List ℕ) (q : Question) (out : List ℕ) {a : Answer} {out' : List ℕ} → ListsPersonsWithGrant s q out a out'
      → KeepsTable (after_sheet s) (bad_office (header_of s) q.office or_else unknown_right s q) ⊥ (PersonsWithGrantAre (asked s q) q.deed q.folio) out a out'
  pub question-7 : (s : List ℕ) (q : Question) (out : List ℕ) {a : Answer} {out' : List ℕ} → ListsFoliosOutOfReach s q out a out'
      → KeepsTable (after_sheet s) (bad_office (header_of s) q.office) ⊥ (FoliosOutOfReachAre (asked s q)) out a out'
  pub question-8 : (s : List ℕ) (q : Question) (out : List ℕ) {a : Answer} {out' : List ℕ} → ShowsLeastTriple s q out a out'
      → KeepsTable (after_sheet s) (bad_office (header_of s) q.office) (NoSuch (BothAt (asked s q))) (LeastTripleIs (asked s q)) out a out'
  pub question-9 : (s : List ℕ) (q : Question) (out : List ℕ) {a : Answer} {out' : List ℕ} → ShowsLeastHolder s q out a out'
      → KeepsTable (after_sheet s) (bad_office (header_of s) q.office or_else bad_pair s q) (NoSuch (HoldsBoth (asked s q) q.deed q.other)) (LeastHolderIs (asked s q) q.deed q.other) out a out'
  pub question-10 : (s : List ℕ) (q : Question) (out : List ℕ) {a : Answer} {out' : List ℕ} → ListsRedundantEdges s q out a out'
      → KeepsTable (after_sheet s) (bad_office (header_of s) q.office) ⊥ (RedundantEdgesAre s q.office) out a out'
  pub take_out : (s : List ℕ) (office : ℕ) (out : List ℕ) {a : Answer} {out' : List ℕ} → TakesOut s office out a out'
      → KeepsTable (after_sheet s) (bad_office (header_of s) office) ⊥ (IsTaken s (office - 1) 1) out a out'
  -- a search refuses only for the sheet
  pub searching : (half : Half) (s : List ℕ) (k : Key) {a : Answer} → TellsPlace half s k a → said_in a ≡ verdict 1 s
  -- a row is refused for the sheet, for itself, where it is there, where no row is free; there always is a sheet with the row more
  pub adding : (half : Half) (s : List ℕ) (c : Cells) (out : List ℕ) {a : Answer} {out' : List ℕ} → AddsRow half s c out a out' → KeepsTable (after_sheet s) (add_fault half s c) ⊥ (IsAdded half s c) out a out'
  -- 28 to 30 and 25 are lines of its table
  pub join : (a b out : List ℕ) {r : Joined} {out' : List ℕ} → Joining a b out r out' → Keeps (λ x. x ≡ join_fault a b (length out)) (said_of r) r.words out out'
  -- of two files: 33 and 1 to 17 of the first, then of the second
  pub join-files : (f g out : List ℕ) {r : Joined} {out' : List ℕ} → JoinsFiles f g out r out' → Keeps (λ x. x ≡ files_fault f g (length out)) (said_of r) (4 * r.words) out out'
  -- a row put to any table of the duty desk: the sheet's, 3, 59, then the row's; a refusal leaves the table as it was
  pub stepping : (s : List ℕ) (timeout : ℕ) (ws : List ℕ) (w w' : Watch) {a : Answer} → DeskSteps s timeout ws w a w' → (said_in a ≡ after_desk s (stepped_on w timeout ws).routed.number) × ((a.number ≡ 0 → ⊥) → w' ≡ w)
  -- a whole trace: the sheet's, 3, the first row's that is refused, then 25 where the output is shorter than its questions
  pub tracing : (s : List ℕ) (timeout : ℕ) (rows out : List ℕ) {a : TraceReply} {out' : List ℕ} → Traces s timeout rows out a out'
      → Keeps (λ x. x ≡ (after_desk s (run_from timeout [] rows).number then short (length out) (length (run_from timeout [] rows).questions))) (refused_trace a) a.count out out'
  -- an opened sheet, whatever its counts say, promises what the entries above do of the words that it holds
  pub opened : (which : Which) (s : List ℕ) (q : Question) (out : List ℕ) (a : Answer) (out' : List ℕ) → Promised (question_of which) s q out a out' → OfWords which s q out a out'
  -- by the counter, of a file's bytes: 33 first, then the sheet's, then the question's
  pub counter-1 : (f : List ℕ) (q : Question) {a : Answer} → AnswersAtOffice (after_file f) (words_of f) q a → said_in a ≡ after_file f (ask_fault (words_of f) q)
  pub counter-2 : (f : List ℕ) (q : Question) {a : Answer} → AnswersJointly (after_file f) (words_of f) q a → said_in a ≡ after_file f (joint_fault (words_of f) q)
  pub counter-3 : (f : List ℕ) (q : Question) (out : List ℕ) {a : Answer} {out' : List ℕ} → Shows (after_file f (ask_fault (words_of f) q)) (InBytes (WitnessOf (words_of f) q)) out a out'
      → KeepsTable (after_file f) (ask_fault (words_of f) q) (NoSuch (PathOf (words_of f) q)) (InBytes (WitnessOf (words_of f) q)) out a out'
  -- reading a file into words and writing words as bytes: what refuses it, then 25
  pub writing : (refusal : Refusal) (result out : List ℕ) {r : Refusal} {out' : List ℕ} → Writes refusal result out r out'
      → Keeps (λ x. x ≡ (refusal then short (length out) (length result))) r (length result) out out' × (r.number ≡ 0 → InFront result out out')
  -- reading a listing: the first line's fault, 43, 4, then 25 where the output is shorter than a sheet of its node lines and edge lines; and writing one
  pub read-listing : (text out : List ℕ) {a : Listing} {out' : List ℕ} → ReadsListing text out a out'
      → Keeps (λ x. x ≡ (listing_fault text then short (length out) (sheet_words 1 (node_lines (lines_said text)) (edge_lines (lines_said text))))) (refusal_in a) a.count out out'
  pub write-listing : (s out : List ℕ) {a : Listing} {out' : List ℕ} → WritesListing s out a out'
      → Keeps (λ x. x ≡ (print_fault s then short (length out) (length (printed s)))) (refusal_in a) a.count out out'
  -- a refused lookup gives the empty part, and no other does; the entry for its refusal returns `look_fault`
  pub look_up : (a b : Part) (k : Key) {p : Part} → LooksUp a b k p → (p.words ≡ []) ↔ ((look_fault a.words b.words k).number ≡ 0 → ⊥)
  -- else it gives the row as it stands in the first sheet that has it, first before second
  pub look-up-row : (a b : Part) (k : Key) {p : Part} → LooksUp a b k p → (look_fault a.words b.words k).number ≡ 0
      → (has_identity a.words k ≡ true → RowPartOf a k p) × (has_identity a.words k ≡ false → RowPartOf b k p)
  -- and where that row stands: which sheet, which row
  pub look-up-place : (a b : List ℕ) (k : Key) {x : Answer} → PlacesIdentity a b k x → (said_in x ≡ look_fault a b k) × (x.number ≡ 0 → StandsIn a b k x.value x.count)

-- ==== Demand 2: the answers are those of category-based access control, exactly as its paths exist in the office asked, with the shortest path shown; a path is refused only where there is none

-- the words that an answer counts, in front of the output
abbrev pub front : Answer → List ℕ → List ℕ
front a out = take a.count out

-- what an answer tells of all offices: its value, and the office that decides in its count
abbrev pub joint_in : Answer → Joint
joint_in a = record { answer = a.value; office = a.count }

pub record Demand2 : Type 0 where
  -- there is a grant path exactly where (a1) has it, and a ban path exactly where (a2) does
  pub paths : (s : List ℕ) (q : Question) (side : Side) → HasPath (asked s q) side q.person q.deed q.folio ↔ Authorised (asked s q) side q.person q.deed q.folio
  -- of words or, by the counter, of a file's bytes: `after` is what is refused before the question's own refusal
  -- granted, banned, both or undetermined: an office grants exactly where (a1) has it, and bans exactly where (a2) does
  pub answers : (after : ℕ → Refusal) (s : List ℕ) (q : Question) {a : Answer} → AnswersAtOffice after s q a → a.number ≡ 0
      → (a.value < 4) × ((side : Side) → (gives side a.value ≡ true) ↔ Authorised (asked s q) side q.person q.deed q.folio)
  -- grant-first (rule 1) and deny-first (rule 2): their side where some office has it, else the other where some office has that, else undetermined; decided by the lowest office that has it, 0 where undetermined
  pub side-first : (after : ℕ → Refusal) (s : List ℕ) (q : Question) {a : Answer} → AnswersJointly after s q a → a.number ≡ 0 → (side : Side) → q.rule ≡ first_rule side
      → SideFirst (seen_at s) (offices_of s) q.person q.deed q.folio side (joint_in a)
  -- first-applicable (rule 3): the answer of the lowest office that isn't undetermined, Both included, and that office; else undetermined, by office 0
  pub order-first : (after : ℕ → Refusal) (s : List ℕ) (q : Question) {a : Answer} → AnswersJointly after s q a → a.number ≡ 0 → q.rule ≡ first_applicable_rule
      → FirstApplies (seen_at s) (offices_of s) q.person q.deed q.folio (joint_in a)
  -- the same in the source's own relations, Definition 34: priority to a side ..
  pub priority : (after : ℕ → Refusal) (s : List ℕ) (q : Question) {a : Answer} → AnswersJointly after s q a → a.number ≡ 0 → (side : Side) → q.rule ≡ first_rule side
      → ((a.value ≡ side_answer side) ↔ Prior (seen_at s) (offices_of s) side q.person q.deed q.folio)
      × ((a.value ≡ side_answer (other side)) ↔ Yields (seen_at s) (offices_of s) side q.person q.deed q.folio)
  -- .. and first-applicable
  pub applicable : (after : ℕ → Refusal) (s : List ℕ) (q : Question) {a : Answer} → AnswersJointly after s q a → a.number ≡ 0 → q.rule ≡ first_applicable_rule
      → (side : Side) → (gives side a.value ≡ true) ↔ Applicable (seen_at s) (offices_of s) side q.person q.deed q.folio
  -- the path shown is one, and none has fewer nodes, or as many and comes before it in dictionary order
  pub shortest : (s : List ℕ) (q : Question) (out : List ℕ) {a : Answer} {out' : List ℕ} → Witnesses s q out a out' → a.number ≡ 0
      → PathOf s q (front a out') × ((ws : List ℕ) → PathOf s q ws → fewer ws (front a out') ≡ false)
  -- at an office of a well-formed sheet a path that is not shown, but for want of room, does not exist: 26 says so, and 21 to 23 do of whom the office does not know
  pub refused-only : (s : List ℕ) (q : Question) (out : List ℕ) {a : Answer} {out' : List ℕ} → Witnesses s q out a out' → Accepted s → bad_office (header_of s) q.office ≡ 0
      → (a.number ≡ 0 → ⊥) → (a.number ≡ 25 → ⊥) → NoSuch (PathOf s q)
  -- the same by the counter: the bytes of such a path, of the file's words
  pub shortest-bytes : (f : List ℕ) (q : Question) (out : List ℕ) {a : Answer} {out' : List ℕ} → Shows (after_file f (ask_fault (words_of f) q)) (InBytes (WitnessOf (words_of f) q)) out a out' → a.number ≡ 0
      → InBytes (λ xs. PathOf (words_of f) q xs × ((ws : List ℕ) → PathOf (words_of f) q ws → fewer ws xs ≡ false)) (front a out')
  pub refused-only-bytes : (f : List ℕ) (q : Question) (out : List ℕ) {a : Answer} {out' : List ℕ} → Shows (after_file f (ask_fault (words_of f) q)) (InBytes (WitnessOf (words_of f) q)) out a out'
      → bytes_verdict 1 f ≡ none → bad_office (header_of (words_of f)) q.office ≡ 0 → (a.number ≡ 0 → ⊥) → (a.number ≡ 25 → ⊥) → NoSuch (PathOf (words_of f) q)
  -- yes is 1 and no is 0
  pub is-path : (s : List ℕ) (q : Question) (list : List ℕ) {a : Answer} → TellsPath s q list a → a.number ≡ 0
      → ((a.value ≡ 1) ↔ PathOf s q list) × ((a.value ≡ 0) ↔ (PathOf s q list → ⊥))
  -- the lists are exactly these, rising
  pub persons-in-category : (s : List ℕ) (q : Question) (out : List ℕ) {a : Answer} {out' : List ℕ} → ListsPersonsInCategory s q out a out' → a.number ≡ 0 → PersonsInCategoryAre (asked s q) q.category (front a out')
  pub persons-with-grant : (s : List ℕ) (q : Question) (out : List ℕ) {a : Answer} {out' : List ℕ} → ListsPersonsWithGrant s q out a out' → a.number ≡ 0 → PersonsWithGrantAre (asked s q) q.deed q.folio (front a out')
  pub folios-out-of-reach : (s : List ℕ) (q : Question) (out : List ℕ) {a : Answer} {out' : List ℕ} → ListsFoliosOutOfReach s q out a out' → a.number ≡ 0 → FoliosOutOfReachAre (asked s q) (front a out')
  pub redundant-edges : (s : List ℕ) (q : Question) (out : List ℕ) {a : Answer} {out' : List ℕ} → ListsRedundantEdges s q out a out' → a.number ≡ 0 → RedundantEdgesAre s q.office (front a out')
  -- the least triple and the least pair
  pub least-triple : (s : List ℕ) (q : Question) (out : List ℕ) {a : Answer} {out' : List ℕ} → ShowsLeastTriple s q out a out' → a.number ≡ 0 → LeastTripleIs (asked s q) (front a out')
  pub least-holder : (s : List ℕ) (q : Question) (out : List ℕ) {a : Answer} {out' : List ℕ} → ShowsLeastHolder s q out a out' → a.number ≡ 0 → LeastHolderIs (asked s q) q.deed q.other (front a out')

-- ==== Demand 3: any two well-formed one-office sheets whose union keeps the limits and fits the buffer join into that union, each identity and relation once, marked by office

-- a well-formed sheet of so many offices
pub record Sheet (offices : ℕ) (s : List ℕ) : Type 0 where
  pub formed : Accepted s
  pub count : offices_of s ≡ offices

-- j is the union of a and b: every identity and relation has the mark 1 where a has it and 2 where b has it, and j is well-formed, so each stands once
pub record Union (a b j : List ℕ) : Type 0 where
  pub sheet : Sheet 2 j
  pub identities : (k : Key) → marks_at (tables_of j).nodes k ≡ marks_at (tables_of a).nodes k + 2 * marks_at (tables_of b).nodes k
  pub relations : (k : Key) → marks_at (tables_of j).edges k ≡ marks_at (tables_of a).edges k + 2 * marks_at (tables_of b).edges k
  -- each office of the joint sheet holds what it held
  pub offices : IsJoin a b j

-- what a join that is not refused returns and leaves, the joint sheet being spelled so: as its words, or as their bytes
pub record JointSheet (spelled : List ℕ → List ℕ) (a b out : List ℕ) (r : Joined) (out' : List ℕ) : Type 0 where
  pub sheet : List ℕ
  pub union : Union a b sheet
  pub holds : InFront (spelled sheet) out out'
  pub words : r.words ≡ length sheet
  -- the counts are the joint sheet's, and those of the union
  pub counts : (r.nodes ≡ (header_of sheet).nodes) × (r.edges ≡ (header_of sheet).edges)
  pub rows : ((header_of sheet).nodes ≡ union_nodes a b) × ((header_of sheet).edges ≡ union_edges a b)
  -- joint nodes plus shared identities equal the two node counts added; the same for edges; shared is the number of identities found in both inputs
  pub nodes : r.nodes + r.sharednodes ≡ (header_of a).nodes + (header_of b).nodes
  pub edges : r.edges + r.sharededges ≡ (header_of a).edges + (header_of b).edges
  pub shared-nodes : r.sharednodes ≡ shared_nodes a b
  pub shared-edges : r.sharededges ≡ shared_edges a b
  -- either sheet comes back out exactly
  pub first_back : (lent : List ℕ) {x : Answer} {lent' : List ℕ} → length a ≤ length lent → TakesOut sheet 1 lent x lent' → (x ≡ tells 0 (length a)) × InFront a lent lent'
  pub second_back : (lent : List ℕ) {x : Answer} {lent' : List ℕ} → length b ≤ length lent → TakesOut sheet 2 lent x lent' → (x ≡ tells 0 (length b)) × InFront b lent lent'

-- the union keeps the limits, and the output has room for so many words
pub record Fits (a b : List ℕ) (room : ℕ) : Type 0 where
  pub nodes : union_nodes a b ≤ max_nodes
  pub edges : union_edges a b ≤ max_edges (header_of a).form
  pub words : sheet_words (header_of a).form (union_nodes a b) (union_edges a b) ≤ room

-- the question, asked at an office
abbrev pub at_office : ℕ → Question → Question
at_office office q = record { office = office; rule = q.rule; kind = q.kind; person = q.person; category = q.category; deed = q.deed; other = q.other; folio = q.folio }

-- the rule over the answers of offices 1 and 2 is what is told, with the office that decides
abbrev pub Combines : ℕ → Answer → Answer → Answer → Type 0
Combines rule x y r = r ≡ tells (jointly rule (x.value ∷ y.value ∷ [])).answer (jointly rule (x.value ∷ y.value ∷ [])).office

pub record Demand3 : Type 0 where
  pub joins : (a b out : List ℕ) {r : Joined} {out' : List ℕ} → Sheet 1 a → Sheet 1 b → Fits a b (length out) → Joining a b out r out' → (r.number ≡ 0) × JointSheet (λ j. j) a b out r out'
  -- the same of two files, four bytes a word
  pub joins-files : (f g out : List ℕ) {r : Joined} {out' : List ℕ} → bytes_verdict 1 f ≡ none → bytes_verdict 2 g ≡ none → offices_of (words_of f) ≡ 1 → offices_of (words_of g) ≡ 1
      → Fits (words_of f) (words_of g) (length out / 4) → JoinsFiles f g out r out' → (r.number ≡ 0) × JointSheet bytes_of (words_of f) (words_of g) out r out'
  -- no two different pairs share a joint sheet
  pub no-two-pairs : (a b out a' b' lent : List ℕ) {r r' : Joined} {out' lent' : List ℕ} → Joining a b out r out' → r.number ≡ 0 → Joining a' b' lent r' lent' → r'.number ≡ 0
      → take r.words out' ≡ take r'.words lent' → (a ≡ a') × (b ≡ b')
  -- taking out any office of any well-formed sheet gives that office's sheet, and room for as many words as the sheet has is enough
  pub takes_out : (s : List ℕ) (office : ℕ) (out : List ℕ) {x : Answer} {out' : List ℕ} → Accepted s → 1 ≤ office → office ≤ offices_of s → length s ≤ length out → TakesOut s office out x out'
      → (x.number ≡ 0) × IsTaken s (office - 1) 1 (front x out')
  -- joining the two sheets taken from any well-formed two-office sheet gives it again
  pub joins-again : (s lent other out : List ℕ) {x y : Answer} {r : Joined} {lent' other' out' : List ℕ} → Sheet 2 s → length s ≤ length lent → length s ≤ length other → length s ≤ length out
      → TakesOut s 1 lent x lent' → TakesOut s 2 other y other' → Joining (front x lent') (front y other') out r out' → (r.number ≡ 0) × InFront s out out'
  -- the joint answer under each rule is the offices' own answers combined: those that question 1 tells of the two sheets, 0 where it refuses an identity that the office does not know ..
  pub combined : (a b j : List ℕ) (q : Question) {x y r : Answer} → Sheet 1 a → Sheet 1 b → IsJoin a b j → joint_fault j q ≡ 0
      → AnswersAtOffice (after_sheet a) a (at_office 1 q) x → AnswersAtOffice (after_sheet b) b (at_office 1 q) y → AnswersJointly (after_sheet j) j q r → Combines q.rule x y r
  -- .. and those that it tells of the offices of any two-office sheet
  pub combined-within : (s : List ℕ) (q : Question) {x y r : Answer} → Sheet 2 s → joint_fault s q ≡ 0
      → AnswersAtOffice (after_sheet s) s (at_office 1 q) x → AnswersAtOffice (after_sheet s) s (at_office 2 q) y → AnswersJointly (after_sheet s) s q r → Combines q.rule x y r
