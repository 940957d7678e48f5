-- The three demands hold, each by the laws of the crates below and, for the forms of the statements, by the files beside this one.
-- Assumes nothing.
use Prim.Native.Nat.{ℕ, ◌+◌, ◌-◌, ◌*◌, ◌/◌, ◌%◌, ◌^◌, ◌<◌, ◌≤◌}
use mathlib.Core.Path.{◌≡◌, refl, sym, ap, ap₂, ◌∙◌}
use mathlib.Core.Bool.{true, false, true≢false}
use mathlib.Core.List.{List, []}
use mathlib.Core.Logic.{◌↔◌, ⊎_elim}
use native.Mathlib.Omega.{arith}
use lib.ListN.{length, take, drop, length-drop}
use lib.Seq.{length-take-le}
use borrow.Author.Tests.{eqb-true, eq-eqb, not-false, ltb-false, le-ltb}
use Rattle.tables.specs.Key.{Key}
use Rattle.tables.specs.Table.{marks_at}
use Rattle.sheet.specs.declared.Refusal.{Refusal}
use Rattle.sheet.specs.Limits.{node_words, edges_from, max_bytes}
use Rattle.sheet.specs.Parts.{Part}
use Rattle.sheet.specs.Refusals.{none}
use Rattle.sheet.specs.Rows.{header_of}
use Rattle.sheet.specs.Accepted.{Accepted}
use Rattle.sheet.specs.Named.{tables_of, seen_at}
use Rattle.sheet.specs.Verdict.{verdict}
use Rattle.sheet.proofs.Accepting.{or-false, accepted, not-refused}
use Rattle.sheet.proofs.Refusing.{else-none, line-good, line-none, refuse-good, refuse-none, then-good, then-none}
use Rattle.meaning.specs.Questions.{BothAt, LeastTripleIs, HoldsBoth, LeastHolderIs}
use Rattle.meaning.specs.Join.{offices_of, IsJoin}
use Rattle.meaning.specs.Paths.{Side, grant, ban, HasPath}
use Rattle.meaning.specs.Answers.{Says, gives}
use Rattle.meaning.proofs.Axioms.{a1-a2, says}
use Rattle.meaning.proofs.Joins.{taken-one}
use Rattle.meaning.proofs.Sites.{union-nodes, union-edges}
use Rattle.meaning.proofs.Unique.{witness-one, persons-in-category-one, persons-with-grant-one, folios-out-of-reach-one, least-triple-one, least-holder-one, redundant-edges-one}
use Rattle.question.specs.declared.Question.{Question}
use Rattle.question.specs.declared.Answer.{Answer}
use Rattle.question.specs.Asked.{asked, bad_office, ask_fault, plain, after_sheet, side_of}
use Rattle.lookup.proofs.Looking.{identity-in, both-accepted}
use Rattle.question.specs.Replies.{Shows}
use Rattle.question.proofs.Telling.{plain-none}
use Rattle.ask.specs.Promises.{WitnessOf, Witnesses}
use Rattle.ask.proofs.Placing.{unknown-undetermined}
use Rattle.opened.specs.declared.Which.{Which}
use Rattle.opened.specs.declared.Which.TheVariants.{AnswerAtOffice, JointAnswer, Witness, PersonsInCategory, PersonsWithGrant, FoliosOutOfReach, LeastTriple, LeastHolder, RedundantEdges}
use Rattle.opened.specs.Asking.{question_of, Promised}
use Rattle.files.specs.Bytes.{words_of, bytes_of, bytes_fault, bytes_verdict}
use Rattle.counter.specs.Filed.{after_file, InBytes}
use Rattle.counter.proofs.Single.{bytes_one}
use Rattle.lookup.specs.Looked.{has_identity, look_fault, LooksUp, refused, in-first, in-second}
use Rattle.join.specs.declared.Joined.{Joined}
use Rattle.join.specs.Joins.{join_fault, JoinsAs, joined, refused as not-joined}
use Rattle.join_files.specs.JoinedFiles.{files_fault}
use Rattle.takeout.proofs.Back.{first_taken, second-taken}
use Rattle.demands.specs.Demands.{NoSuch, PathOf, RowPartOf, OfWords, Demand1, Demand2, Sheet, Union, JointSheet, Demand3}
use Rattle.demands.proofs.Counting.{nodes-union, edges-union}
use Rattle.demands.proofs.Together.{not-refusing, none-refuses, no-two-pairs, takes_out, joins-again, asked-combined, asked-within}
use Rattle.demands.proofs.Watched.{leaves_table, tracing-keeps}
use Rattle.demands.proofs.Keeping.{desk-says, search-says, adding-keeps, sheet-says, lookup-says, file-says, joins-keep, files-keep, writer-keeps, shows-keep}
use Rattle.listing.specs.Printed.{printed, print_fault}
use Rattle.demands.proofs.Listed.{gives-keeps, reading-keeps}
use Rattle.demands.proofs.Existing.{persons-some, holders-some, unreached-some, redundant-some, office-some}
use Rattle.demands.proofs.Least.{none_first, none-least}
use Rattle.demands.proofs.Answering.{told_is, four, gives-exactly, by-priority, by_order, side-decides, first-decided, no-is, yes-is, front-is, not-shown, in-bytes-of, none-in-bytes}

-- ---- sheets and files

-- an entry that the table does not refuse was handed an accepted sheet
sheet-passed : (s : List ℕ) (k : ℕ) → (after_sheet s k).number ≡ 0 → Accepted s
unfolding after_sheet
sheet-passed s k z = accepted 1 s (then-good (verdict 1 s) (plain k) z).0

file-formed : (place : ℕ) (f : List ℕ) → (bytes_verdict place f ≡ none) ↔ ((length f % 4 ≡ 0) × (length f ≤ max_bytes) × Accepted (words_of f))
unfolding bytes_verdict bytes_fault
file-formed place f = (passed, formed)
  where
    passed : bytes_verdict place f ≡ none → (length f % 4 ≡ 0) × (length f ≤ max_bytes) × Accepted (words_of f)
    passed e =
        let r = refuse-good (bytes_fault (length f)) place 0 (verdict place (words_of f)) (ap (λ (x : Refusal). x.number) e) in
        let o = or-false _ _ (line-good 33 _ 0 tt r.0).0 in
        (eqb-true _ _ (not-false _ o.0), ltb-false _ _ o.1, accepted place (words_of f) r.1)

    formed : (length f % 4 ≡ 0) × (length f ≤ max_bytes) × Accepted (words_of f) → bytes_verdict place f ≡ none
    formed x =
        let k : bytes_fault (length f) ≡ 0 = line-none 33 _ 0 (rw (eq-eqb (length f % 4) 0 x.0, le-ltb max_bytes (length f) x.1) refl) refl in
        refuse-none (bytes_fault (length f)) place 0 (verdict place (words_of f)) k ∙ not-refused place (words_of f) x.2

-- ---- lookups

-- a row has words
row-some : (s : List ℕ) (i : ℕ) → Accepted s → i < (header_of s).nodes → take node_words (drop (edges_from i) s) ≡ [] → ⊥
row-some s i w l e =
    let n = ap length e in
    let h = w.nodes.header.whole in
    let m = length-drop (edges_from i) s in
    let k = length-take-le node_words (drop (edges_from i) s) (omega (arith, h, m, l)) in
    omega (arith, n, k)

look : (a b : Part) (k : Key) {p : Part} → LooksUp a b k p → (p.words ≡ []) ↔ ((look_fault a.words b.words k).number ≡ 0 → ⊥)
look a b k (refused h) = (λ e. h, λ h'. refl)
look a b k (in-first i z l e) = (λ n. absurd (row-some a.words i (both-accepted a.words b.words k _ refl z).0 l n), λ h. absurd (h z))
look a b k (in-second i z m l e) = (λ n. absurd (row-some b.words i (both-accepted a.words b.words k _ refl z).1 l n), λ h. absurd (h z))

look-row : (a b : Part) (k : Key) {p : Part} → LooksUp a b k p → (look_fault a.words b.words k).number ≡ 0
    → (has_identity a.words k ≡ true → RowPartOf a k p) × (has_identity a.words k ≡ false → RowPartOf b k p)
look-row a b k (refused h) z = absurd (h z)
look-row a b k (in-first i y l e) z = (λ t. record { row = i; inside = l; names = e; lies = refl }, λ t. absurd (true≢false (sym (identity-in a.words k i l e) ∙ t)))
look-row a b k (in-second i y m l e) z = (λ t. absurd (true≢false (sym t ∙ m)), λ t. record { row = i; inside = l; names = e; lies = refl })

-- ---- what is missing

-- no best path, or no bytes of one, exactly where there is no path
no-path-words : (s : List ℕ) (q : Question) → NoSuch (WitnessOf s q) ↔ NoSuch (PathOf s q)
no-path-words s q = none_first (PathOf s q)

no-path-bytes : (f : List ℕ) (q : Question) → NoSuch (InBytes (WitnessOf (words_of f) q)) ↔ NoSuch (PathOf (words_of f) q)
no-path-bytes f q =
    let n = none-in-bytes (WitnessOf (words_of f) q) in
    let m = no-path-words (words_of f) q in
    (λ x. m.0 (n.0 x), λ x. n.1 (m.1 x))

-- no least triple or pair exactly where there is none
no-triple : (s : List ℕ) (q : Question) → NoSuch (LeastTripleIs (asked s q)) ↔ NoSuch (BothAt (asked s q))
no-triple s q = none-least 3 (BothAt (asked s q)) (λ ws y. ap length y.words)

no-pair : (s : List ℕ) (q : Question) → NoSuch (LeastHolderIs (asked s q) q.deed q.other) ↔ NoSuch (HoldsBoth (asked s q) q.deed q.other)
no-pair s q = none-least 2 (HoldsBoth (asked s q) q.deed q.other) (λ ws y. ap length y.words)

-- whom an office does not know has no path there
unknown-has-none : (s : List ℕ) (q : Question) → Accepted s → bad_office (header_of s) q.office ≡ 0 → (ask_fault s q ≡ 0 → ⊥) → NoSuch (PathOf s q)
unfolding ask_fault
unknown-has-none s q w office h ws e = says_none (side_of q.kind) (says (asked s q) q.person q.deed q.folio (side_of q.kind) 0 (unknown-undetermined s w q.office q (λ z. h (else-none _ _ office ∙ z)))) (record { words = ws; is = e })
  where
    says_none : (side : Side) → Says (gives side 0) (HasPath (asked s q) side q.person q.deed q.folio) → HasPath (asked s q) side q.person q.deed q.folio → ⊥
    says_none grant n = n
    says_none ban n = n

-- so a path that is not shown does not exist
path-refused : (s : List ℕ) (q : Question) (out : List ℕ) {a : Answer} {out' : List ℕ} → Witnesses s q out a out' → Accepted s → bad_office (header_of s) q.office ≡ 0 → (a.number ≡ 0 → ⊥) → (a.number ≡ 25 → ⊥) → NoSuch (PathOf s q)
path-refused s q out x w office m n =
    ⊎_elim (λ h. unknown-has-none s q w office (λ e. h (not-refusing s (ask_fault s q) w e))) (no-path-words s q).0 (not-shown _ _ out x m n)

path-refused-bytes : (f : List ℕ) (q : Question) (out : List ℕ) {a : Answer} {out' : List ℕ} → Shows (after_file f (ask_fault (words_of f) q)) (InBytes (WitnessOf (words_of f) q)) out a out'
    → bytes_verdict 1 f ≡ none → bad_office (header_of (words_of f)) q.office ≡ 0 → (a.number ≡ 0 → ⊥) → (a.number ≡ 25 → ⊥) → NoSuch (PathOf (words_of f) q)
unfolding after_file
path-refused-bytes f q out x v office m n =
    ⊎_elim
    (λ h. unknown-has-none (words_of f) q ((file-formed 1 f).0 v).2 office (λ e. h (ap (λ (r : Refusal). r.number) (then-none (bytes_verdict 1 f) (plain (ask_fault (words_of f) q)) v) ∙ plain-none (ask_fault (words_of f) q) e)))
    (no-path-bytes f q).0 (not-shown _ _ out x m n)

-- what is never-missing missing
never-missing : {R : List ℕ → Type 0} → (NoSuch R → ⊥) → NoSuch R ↔ ⊥
never-missing some = (some, λ x. absurd x)

-- ---- opened sheets

as-words : (which : Which) (s : List ℕ) (q : Question) (out : List ℕ) (a : Answer) (out' : List ℕ) → Promised (question_of which) s q out a out' → OfWords which s q out a out'
unfolding question_of Promised
as-words AnswerAtOffice s q out a out' x = x
as-words JointAnswer s q out a out' x = x
as-words Witness s q out a out' x = x
as-words PersonsInCategory s q out a out' x = x
as-words PersonsWithGrant s q out a out' x = x
as-words FoliosOutOfReach s q out a out' x = x
as-words LeastTriple s q out a out' x = x
as-words LeastHolder s q out a out' x = x
as-words RedundantEdges s q out a out' x = x

-- ---- the demands

pub demand-1 : Demand1
demand-1 = record {
  sheets = λ place s. (λ e. accepted place s (ap (λ (x : Refusal). x.number) e), not-refused place s);
  files = file-formed;
  question-1 = λ s q x. sheet-says s _ _ x;
  question-2 = λ s q x. sheet-says s _ _ x;
  question-3 = λ s q out x. shows-keep _ _ _ (witness-one (asked s q) (side_of q.kind) q.person q.deed q.folio) (λ z. no-path-words s q) out x;
  question-4 = λ s q list x. sheet-says s _ _ x;
  question-5 = λ s q out x. shows-keep _ _ _ (persons-in-category-one (asked s q) q.category) (λ z. never-missing (persons-some s (sheet-passed s _ z) q.office q.category)) out x;
  question-6 = λ s q out x. shows-keep _ _ _ (persons-with-grant-one (asked s q) q.deed q.folio) (λ z. never-missing (holders-some s (sheet-passed s _ z) q.office q.deed q.folio)) out x;
  question-7 = λ s q out x. shows-keep _ _ _ (folios-out-of-reach-one (asked s q)) (λ z. never-missing (unreached-some s (sheet-passed s _ z) q.office)) out x;
  question-8 = λ s q out x. shows-keep _ _ _ (least-triple-one (asked s q)) (λ z. no-triple s q) out x;
  question-9 = λ s q out x. shows-keep _ _ _ (least-holder-one (asked s q) q.deed q.other) (λ z. no-pair s q) out x;
  question-10 = λ s q out x. shows-keep _ _ _ (redundant-edges-one s q.office) (λ z. never-missing (redundant-some s (sheet-passed s _ z) q.office)) out x;
  take_out = λ s office out x. shows-keep _ _ _ (taken-one s (office - 1) 1) (λ z. never-missing (office-some s (sheet-passed s _ z) (office - 1))) out x;
  searching = λ half s k x. search-says half s k x;
  adding = λ half s c out x. adding-keeps half s c out x;
  join = λ a b out x. joins-keep a b out x;
  join-files = λ f g out x. files-keep f g out x;
  stepping = λ s timeout ws w w' {a} x. (desk-says s _ _ x.replies, leaves_table s timeout ws w w' a x);
  tracing = λ s timeout rows out {a} {out'} x. tracing-keeps s timeout rows out a out' x;
  opened = as-words;
  counter-1 = λ f q x. file-says f _ _ x;
  counter-2 = λ f q x. file-says f _ _ x;
  counter-3 = λ f q out x. shows-keep _ _ _ (bytes_one (WitnessOf (words_of f) q) (witness-one (asked (words_of f) q) (side_of q.kind) q.person q.deed q.folio)) (λ z. no-path-bytes f q) out x;
  writing = writer-keeps;
  read-listing = λ text out {a} {out'} r. reading-keeps text out a out' r;
  write-listing = λ s out {a} {out'} w. gives-keeps (print_fault s) (printed s) out a out' w;
  look_up = look;
  look-up-row = look-row;
  look-up-place = λ a b k x. (lookup-says a b k x, told_is _ _ x);
}

pub demand-2 : Demand2
demand-2 = record {
  paths = λ s q. a1-a2 (asked s q) q.person q.deed q.folio;
  answers = λ after s q x z.
      let p = (told_is _ _ x z).0 in
      (four (asked s q) q.person q.deed q.folio _ p, gives-exactly (asked s q) q.person q.deed q.folio _ p);
  side-first = λ after s q x z. side-decides (seen_at s) (offices_of s) q.person q.deed q.folio q.rule _ _ (told_is _ _ x z);
  order-first = λ after s q x z. first-decided (seen_at s) (offices_of s) q.person q.deed q.folio q.rule _ _ (told_is _ _ x z);
  priority = λ after s q x z. by-priority (seen_at s) (offices_of s) q.person q.deed q.folio q.rule _ _ (told_is _ _ x z);
  applicable = λ after s q x z. by_order (seen_at s) (offices_of s) q.person q.deed q.folio q.rule _ _ (told_is _ _ x z);
  shortest = λ s q out x z. let w = front-is _ _ out x z in (w.holds, w.first);
  refused-only = path-refused;
  shortest-bytes = λ f q out x z. in-bytes-of (WitnessOf (words_of f) q) _ (λ ws w. (w.holds, w.first)) _ (front-is _ _ out x z);
  refused-only-bytes = path-refused-bytes;
  is-path = λ s q list x z. (yes-is _ _ (told_is _ _ x z).0, no-is _ _ (told_is _ _ x z).0);
  persons-in-category = λ s q out x. front-is _ _ out x;
  persons-with-grant = λ s q out x. front-is _ _ out x;
  folios-out-of-reach = λ s q out x. front-is _ _ out x;
  redundant-edges = λ s q out x. front-is _ _ out x;
  least-triple = λ s q out x. front-is _ _ out x;
  least-holder = λ s q out x. front-is _ _ out x;
}

-- a joint sheet is the union
union-of : (a b j : List ℕ) → Sheet 1 a → Sheet 1 b → IsJoin a b j → Union a b j
union-of a b j v w x =
    record {
      sheet = record { formed = x.accepted; count = x.offices ∙ ap₂ (λ (n m : ℕ). n + m) v.count w.count };
      identities = λ k. union-nodes a b j v.formed w.formed x k ∙ ap (λ (n : ℕ). marks_at (tables_of a).nodes k + 2 ^ n * marks_at (tables_of b).nodes k) v.count;
      relations = λ k. union-edges a b j v.formed w.formed x k ∙ ap (λ (n : ℕ). marks_at (tables_of a).edges k + 2 ^ n * marks_at (tables_of b).edges k) v.count;
      offices = x;
    }

joint-of : (spelled : List ℕ → List ℕ) (refusal : Refusal) (a b out : List ℕ) {r : Joined} {out' : List ℕ} → Sheet 1 a → Sheet 1 b → refusal.number ≡ 0 → JoinsAs spelled refusal a b out r out' → (r.number ≡ 0) × JointSheet spelled a b out r out'
joint-of spelled refusal a b out v w z (not-joined h) = absurd (h z)
joint-of spelled refusal a b out v w z (joined j y x n e l) = (
  refl,
  record {
    sheet = j;
    union = union-of a b j v w x;
    holds = refl;
    words = refl;
    counts = (refl, refl);
    rows = (nodes-union a b j v.formed w.formed x, edges-union a b j v.formed w.formed x);
    nodes = n;
    edges = e;
    shared-nodes = refl;
    shared-edges = refl;
    first_back = λ lent. first_taken a b j x v.count w.count lent v.formed;
    second_back = λ lent. second-taken a b j x v.count w.count lent w.formed;
  },
)

-- nothing refuses two files whose words nothing refuses
none-refuses-files : (f g : List ℕ) (room : ℕ) → bytes_verdict 1 f ≡ none → bytes_verdict 2 g ≡ none → (join_fault (words_of f) (words_of g) (room / 4)).number ≡ 0 → (files_fault f g room).number ≡ 0
unfolding files_fault
none-refuses-files f g room v w z = ap (λ (r : Refusal). r.number) (then-none (bytes_verdict 1 f) _ v ∙ then-none (bytes_verdict 2 g) _ w) ∙ z

pub demand-3 : Demand3
demand-3 = record {
  joins = λ a b out v w f. joint-of (λ j. j) _ a b out v w (none-refuses a b (length out) v w f);
  joins-files = λ f g out v w one other fits.
      let a : Sheet 1 (words_of f) = record { formed = ((file-formed 1 f).0 v).2; count = one } in
      let b : Sheet 1 (words_of g) = record { formed = ((file-formed 2 g).0 w).2; count = other } in
      joint-of bytes_of _ (words_of f) (words_of g) out a b (none-refuses-files f g (length out) v w (none-refuses (words_of f) (words_of g) (length out / 4) a b fits));
  no-two-pairs = no-two-pairs;
  takes_out = takes_out;
  joins-again = joins-again;
  combined = asked-combined;
  combined-within = asked-within;
}
