-- Demand 1 of the forms that the entries' statements take: a reply, a join, a writer, a list shown. Each says what the table does, leaves the output where refused, and else writes only its result.
-- Assumes nothing.
use Prim.Native.Nat.{ℕ, zero, suc, ◌*◌, ◌/◌, ◌<◌, ◌≤◌}
use mathlib.Core.Path.{◌≡◌, refl, sym, ap, ◌∙◌}
use mathlib.Core.List.{List, ◌++◌}
use mathlib.Core.Logic.{◌↔◌}
use native.Mathlib.Omega.{arith}
use lib.ListN.{length, drop, length-append, length-drop}
use lib.Seq.{drop_at}
use borrow.Author.Tests.{ltb-false}
use Rattle.sheet.specs.Rows.{header_of}
use Rattle.sheet.specs.declared.Cells.{Cells}
use Rattle.sheet.specs.declared.Half.{Half}
use Rattle.sheet.specs.declared.Refusal.{Refusal}
use Rattle.sheet.specs.Refusals.{none, refuse, ◌then◌, short as shorter, written as written-by, Writes}
use Rattle.sheet.specs.Verdict.{verdict}
use Rattle.sheet.proofs.Accepting.{accepted, not-refused as not-refused-by}
use Rattle.sheet.proofs.Refusing.{refuse-none, refuse-good, line-good, then-good}
use Rattle.question.specs.declared.Answer.{Answer}
use Rattle.question.specs.Asked.{plain, after_sheet}
use Rattle.question.specs.Replies.{Replies, refused, answered, Shows, missing, short, written}
use Rattle.files.specs.Bytes.{words_of, bytes_of, bytes_verdict}
use Rattle.files.proofs.Words.{bytes-long}
use Rattle.counter.specs.Filed.{after_file}
use Rattle.tables.specs.Key.{Key}
use Rattle.lookup.specs.Looked.{neither, look_fault, StandsIn, PlacesIdentity}
use Rattle.join.specs.declared.Joined.{Joined}
use Rattle.join.specs.Joins.{too_much, union_nodes, union_edges, sheets_fault, union_fault, join_fault, JoinsAs, Joining, joined, refused as not-joined}
use Rattle.join_files.specs.JoinedFiles.{files_fault, JoinsFiles}
use Rattle.meaning.specs.Added.{IsAdded}
use Rattle.find.specs.Promises.{TellsPlace}
use Rattle.add.specs.Adding.{add_fault, AddsRow, refused as not-added, short as too-little, written as was-written}
use Rattle.add.proofs.Placing.{added-one}
use Rattle.duty.specs.Desk.{desk_fault, after_desk}
use Rattle.demands.specs.Demands.{said_in, said_of, NoSuch, Judged, by-the-table, no_such, too_short, not-refused, Keeps, KeepsTable, InFront}

-- what refuses by 0 is no refusal
none-by-0 : (k p i : ℕ) → (refuse k p i none).number ≡ 0 → refuse k p i none ≡ none
unfolding refuse
none-by-0 zero p i z = refl
none-by-0 (suc k) p i z = absurd (omega (arith, z))

-- of two, where the second does not
then-by-0 : (v w : Refusal) → (w.number ≡ 0 → w ≡ none) → (v then w).number ≡ 0 → (v then w) ≡ none
unfolding ◌then◌
then-by-0 v w h z = let t = then-good v w z in refuse-none v.number _ _ w t.0 ∙ h t.1

after-by-0 : (s : List ℕ) (k : ℕ) → (after_sheet s k).number ≡ 0 → after_sheet s k ≡ none
unfolding after_sheet
after-by-0 s k z = then-by-0 (verdict 1 s) (plain k) (none-by-0 k 0 0) z

join-by-0 : (a b : List ℕ) (room : ℕ) → (join_fault a b room).number ≡ 0 → join_fault a b room ≡ none
unfolding join_fault union_fault
join-by-0 a b room z = then-by-0 (sheets_fault a b) (union_fault a b room) (none-by-0 (too_much (header_of a).form (union_nodes a b) (union_edges a b) room) 0 0) z

file-by-0 : (f : List ℕ) (k : ℕ) → (after_file f k).number ≡ 0 → after_file f k ≡ none
unfolding after_file
file-by-0 f k z = then-by-0 (bytes_verdict 1 f) (plain k) (none-by-0 k 0 0) z

-- a reply
replies-say : (r : Refusal) (P : ℕ → ℕ → Type 0) → (r.number ≡ 0 → r ≡ none) → {a : Answer} → Replies r P a → said_in a ≡ r
replies-say r P by-0 (refused h) = refl
replies-say r P by-0 (answered v c z p) = sym (by-0 z)

pub sheet-says : (s : List ℕ) (k : ℕ) (P : ℕ → ℕ → Type 0) {a : Answer} → Replies (after_sheet s k) P a → said_in a ≡ after_sheet s k
sheet-says s k P = replies-say (after_sheet s k) P (after-by-0 s k)

desk-by-0 : (s : List ℕ) (k : ℕ) → (after_desk s k).number ≡ 0 → after_desk s k ≡ none
unfolding after_desk desk_fault
desk-by-0 s k z = then-by-0 (desk_fault s) (plain k) (none-by-0 k 0 0) z

pub desk-says : (s : List ℕ) (k : ℕ) (P : ℕ → ℕ → Type 0) {a : Answer} → Replies (after_desk s k) P a → said_in a ≡ after_desk s k
desk-says s k P = replies-say (after_desk s k) P (desk-by-0 s k)

pub file-says : (f : List ℕ) (k : ℕ) (P : ℕ → ℕ → Type 0) {a : Answer} → Replies (after_file f k) P a → said_in a ≡ after_file f k
file-says f k P = replies-say (after_file f k) P (file-by-0 f k)

look-by-0 : (a b : List ℕ) (k : Key) → (look_fault a b k).number ≡ 0 → look_fault a b k ≡ none
unfolding look_fault
look-by-0 a b k z = then-by-0 (verdict 1 a) _ (then-by-0 (verdict 2 b) _ (none-by-0 (neither a b k) 0 0)) z

pub lookup-says : (a b : List ℕ) (k : Key) {x : Answer} → PlacesIdentity a b k x → said_in x ≡ look_fault a b k
lookup-says a b k = replies-say (look_fault a b k) (StandsIn a b k) (look-by-0 a b k)

files-by-0 : (f g : List ℕ) (room : ℕ) → (files_fault f g room).number ≡ 0 → files_fault f g room ≡ none
unfolding files_fault
files-by-0 f g room z = then-by-0 (bytes_verdict 1 f) _ (then-by-0 (bytes_verdict 2 g) _ (join-by-0 (words_of f) (words_of g) (room / 4))) z

-- ---- what is written

-- words in front, and only those
only-front : (ws out : List ℕ) (n : ℕ) → length ws ≡ n → length ws ≤ length out
    → (n ≤ length out) × (length (ws ++ drop (length ws) out) ≡ length out) × (drop n (ws ++ drop (length ws) out) ≡ drop n out)
only-front ws out n e l = (omega arith, length-append ws (drop (length ws) out) ∙ omega (arith, length-drop (length ws) out), drop_at ws (drop (length ws) out) n e ∙ ap (λ (k : ℕ). drop k out) e)

-- a join, into words or into bytes
joined-keep : (spelled : List ℕ → List ℕ) (size : ℕ → ℕ) → ((j : List ℕ) → length (spelled j) ≡ size (length j)) → (refusal : Refusal) → (refusal.number ≡ 0 → refusal ≡ none) → (a b out : List ℕ) {r : Joined} {out' : List ℕ} → JoinsAs spelled refusal a b out r out'
    → Keeps (λ x. x ≡ refusal) (said_of r) (size r.words) out out'
joined-keep spelled size sized refusal by-0 a b out (not-joined h) = record { first = refl; no_other = λ r e. e; untouched = λ z. refl; only = λ z. absurd (h z) }
joined-keep spelled size sized refusal by-0 a b out (joined j z i n e l) = record { first = sym (by-0 z); no_other = λ r x. x ∙ by-0 z; untouched = λ x. absurd (x refl); only = λ x. only-front (spelled j) out _ (sized j) l }

pub joins-keep : (a b out : List ℕ) {r : Joined} {out' : List ℕ} → Joining a b out r out' → Keeps (λ x. x ≡ join_fault a b (length out)) (said_of r) r.words out out'
joins-keep a b out = joined-keep (λ j. j) (λ n. n) (λ j. refl) _ (join-by-0 a b (length out)) a b out

pub files-keep : (f g out : List ℕ) {r : Joined} {out' : List ℕ} → JoinsFiles f g out r out' → Keeps (λ x. x ≡ files_fault f g (length out)) (said_of r) (4 * r.words) out out'
files-keep f g out = joined-keep bytes_of (λ n. 4 * n) bytes-long _ (files-by-0 f g (length out)) (words_of f) (words_of g) out

-- a writer
left-as-it-was : (n : ℕ) (result out : List ℕ) → (n ≡ 0 → ⊥) → written-by n result out ≡ out
unfolding written-by
left-as-it-was zero result out z = absurd (z refl)
left-as-it-was (suc n) result out z = refl

in-front : (n : ℕ) (result out : List ℕ) → n ≡ 0 → written-by n result out ≡ result ++ drop (length result) out
unfolding written-by
in-front zero result out z = refl
in-front (suc n) result out z = absurd (omega (arith, z))

fits-room : (room size : ℕ) → (shorter room size).number ≡ 0 → size ≤ room
unfolding shorter
fits-room room size z = ltb-false room size (line-good 25 _ 0 tt (refuse-good _ 0 0 none z).0).0

pub writer-keeps : (refusal : Refusal) (result out : List ℕ) {r : Refusal} {out' : List ℕ} → Writes refusal result out r out'
    → Keeps (λ x. x ≡ (refusal then shorter (length out) (length result))) r (length result) out out' × (r.number ≡ 0 → InFront result out out')
writer-keeps refusal result out {r} {out'} w = (
  record { first = w.told; no_other = λ x e. e ∙ sym w.told; untouched = λ z. w.holds ∙ left-as-it-was r.number result out z; only = only },
  all,
)
  where
    all : r.number ≡ 0 → InFront result out out'
    all z = w.holds ∙ in-front r.number result out z

    only : r.number ≡ 0 → (length result ≤ length out) × (length out' ≡ length out) × (drop (length result) out' ≡ drop (length result) out)
    only z =
        let l = fits-room (length out) (length result) (then-good refusal (shorter (length out) (length result)) (ap (λ (x : Refusal). x.number) (sym w.told) ∙ z)).1 in
        rw (all z) (only-front result out _ refl l)

-- ---- a list shown

module _ (refusal : Refusal) (Missing : Type 0) (R : List ℕ → Type 0) (one : (xs ys : List ℕ) → R xs → R ys → xs ≡ ys) (same : refusal.number ≡ 0 → NoSuch R ↔ Missing) (out : List ℕ) where
  fits : (xs ys : List ℕ) → R xs → R ys → length out < length xs → length ys ≤ length out → ⊥
  fits xs ys x y l m = let e = ap length (one xs ys x y) in omega arith

  judged-one : {r r' : Refusal} → Judged refusal Missing R (length out) r → Judged refusal Missing R (length out) r' → r ≡ r'
  judged-one (by-the-table h) (by-the-table h') = refl
  judged-one (by-the-table h) (no_such z n) = absurd (h z)
  judged-one (by-the-table h) (too_short ws z x l) = absurd (h z)
  judged-one (by-the-table h) (not-refused ws z x l) = absurd (h z)
  judged-one (no_such z n) (by-the-table h) = absurd (h z)
  judged-one (no_such z n) (no_such z' n') = refl
  judged-one (no_such z n) (too_short ws z' x l) = absurd ((same z).1 n ws x)
  judged-one (no_such z n) (not-refused ws z' x l) = absurd ((same z).1 n ws x)
  judged-one (too_short ws z x l) (by-the-table h) = absurd (h z)
  judged-one (too_short ws z x l) (no_such z' n) = absurd ((same z).1 n ws x)
  judged-one (too_short ws z x l) (too_short ws' z' x' l') = refl
  judged-one (too_short ws z x l) (not-refused ws' z' x' l') = absurd (fits ws ws' x x' l l')
  judged-one (not-refused ws z x l) (by-the-table h) = absurd (h z)
  judged-one (not-refused ws z x l) (no_such z' n) = absurd ((same z).1 n ws x)
  judged-one (not-refused ws z x l) (too_short ws' z' x' l') = absurd (fits ws' ws x' x l' l)
  judged-one (not-refused ws z x l) (not-refused ws' z' x' l') = refl

  -- refused, the output being as it was
  keeping : {said : Refusal} → Judged refusal Missing R (length out) said → (said.number ≡ 0 → ⊥) → (count : ℕ) → Keeps (Judged refusal Missing R (length out)) said count out out
  keeping j h count = record { first = j; no_other = λ r k. judged-one k j; untouched = λ z. refl; only = λ z. absurd (h z) }

  pub shows-keep : {a : Answer} {out' : List ℕ} → Shows refusal R out a out' → Keeps (Judged refusal Missing R (length out)) (said_in a) a.count out out'
  unfolding refuse
  shows-keep (refused h) = keeping (by-the-table h) h 0
  shows-keep (missing z n) = keeping (no_such z ((same z).0 n)) (λ e. omega (arith, e)) 0
  shows-keep (short ws z x l) = keeping (too_short ws z x l) (λ e. omega (arith, e)) 0
  shows-keep (written ws z x l) = let j = not-refused ws z x l in record { first = j; no_other = λ r k. judged-one k j; untouched = λ h. absurd (h refl); only = λ e. only-front ws out _ refl l }

-- ---- a search, and a row that is added

verdict-by-0 : (s : List ℕ) → (verdict 1 s).number ≡ 0 → verdict 1 s ≡ none
verdict-by-0 s z = not-refused-by 1 s (accepted 1 s z)

pub search-says : (half : Half) (s : List ℕ) (k : Key) {a : Answer} → TellsPlace half s k a → said_in a ≡ verdict 1 s
search-says half s k = replies-say (verdict 1 s) _ (verdict-by-0 s)

-- the row that is told is no part of what the table says
pub adding-keeps : (half : Half) (s : List ℕ) (c : Cells) (out : List ℕ) {a : Answer} {out' : List ℕ} → AddsRow half s c out a out' → KeepsTable (after_sheet s) (add_fault half s c) ⊥ (IsAdded half s c) out a out'
adding-keeps half s c out (not-added h) = shows-keep _ ⊥ (IsAdded half s c) (added-one half s c) (λ z. absurd (h z)) out (refused h)
adding-keeps half s c out (too-little i t z x l) = shows-keep _ ⊥ (IsAdded half s c) (added-one half s c) (λ y. (λ n. n t x.0, λ b. absurd b)) out (short t z x.0 l)
adding-keeps half s c out (was-written i t z x l) = shows-keep _ ⊥ (IsAdded half s c) (added-one half s c) (λ y. (λ n. n t x.0, λ b. absurd b)) out (written t z x.0 l)
