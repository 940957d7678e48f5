-- Joining into bytes by way of words: a join that had room for any sheet is refused by what it would be refused by in any other room, but for 25.
-- Assumes nothing.
use Prim.Native.Nat.{ℕ, zero, suc, ◌+◌, ◌-◌, ◌*◌, ◌/◌, ◌<◌, ◌≤◌}
use mathlib.Core.Path.{◌≡◌, refl, sym, ap, subst, subst₂, ◌∙◌}
use mathlib.Core.Bool.{Bool, true, false}
use mathlib.Core.List.{List}
use native.Mathlib.Omega.{arith}
use native.Mathlib.Decide.{dec_lt}
use lib.ListN.{length, take, drop, length-append}
use lib.Seq.{take_at}
use borrow.Author.Tests.{ltb-false, le-ltb}
use Rattle.sheet.specs.declared.Refusal.{Refusal}
use Rattle.sheet.specs.Limits.{max_nodes, max_edges, max_words, max_bytes, sheet_words}
use Rattle.sheet.specs.Refusals.{◌when◌otherwise◌, none, refuse, ◌then◌, written, Writes}
use Rattle.sheet.specs.Rows.{header_of}
use Rattle.sheet.specs.Accepted.{Accepted}
use Rattle.sheet.proofs.Forming.{one_form}
use Rattle.sheet.proofs.Widths.{few}
use Rattle.sheet.proofs.Refusing.{refuse-good, then-good, then-some-is, then-none-is}
use Rattle.sheet.proofs.Writing.{short-lacks, writes-room}
use Rattle.files.specs.Bytes.{words_of, bytes_of, bytes_verdict}
use Rattle.files.proofs.Words.{words_long, bytes-long, bytes_good, decoded}
use Rattle.join.specs.declared.Joined.{Joined}
use Rattle.join.specs.Joins.{shared_nodes, shared_edges, union_nodes, union_edges, too_much, sheets_fault, union_fault, join_fault, refused_join, made_join, Joins, refused, joined}
use Rattle.join.proofs.Refusing.{first-opens, joins-refused, in-25, in-none, within-limits, too-much-is, union-passes}
use Rattle.meaning.specs.Join.{IsJoin}
use Rattle.join_files.specs.JoinedFiles.{files_fault, JoinsBytes, JoinsFiles}

-- ---- what is refused, whatever the room

-- lines of a table of which the third does not apply where the first two don't
third-line : (p q s t : Bool) → (p ≡ false → q ≡ false → s ≡ false) → ((29 when p otherwise 30 when q otherwise 25 when s otherwise 0) ≡ 0 → ⊥) → (29 when p otherwise 30 when q otherwise 25 when s otherwise 0) ≡ (29 when p otherwise 30 when q otherwise 25 when t otherwise 0)
unfolding ◌when◌otherwise◌
third-line true q s t h z = refl
third-line false true s t h z = refl
third-line false false s t h z = absurd (z (ap (λ (x : Bool). 25 when x otherwise 0) (h refl refl)))

any-room : (form n e room : ℕ) → (too_much form n e max_words ≡ 0 → ⊥) → too_much form n e max_words ≡ too_much form n e room
unfolding too_much
any-room form n e room z = third-line _ _ _ _ (λ p q. le-ltb max_words (sheet_words form n e) (omega (arith, ltb-false max_nodes n p, (few form e (ltb-false (max_edges form) e q)).1))) z

union-any-room : (a b : List ℕ) (room : ℕ) → ((union_fault a b max_words).number ≡ 0 → ⊥) → union_fault a b max_words ≡ union_fault a b room
unfolding union_fault refuse
union-any-room a b room z = ap (λ (k : ℕ). refuse k 0 0 none) (any-room (header_of a).form (union_nodes a b) (union_edges a b) room (λ q. z (ap (λ (k : ℕ). (refuse k 0 0 none).number) q)))

refuse-same : (k p i : ℕ) (w w' : Refusal) → ((refuse k p i w).number ≡ 0 → ⊥) → ((w.number ≡ 0 → ⊥) → w ≡ w') → refuse k p i w ≡ refuse k p i w'
unfolding refuse
refuse-same zero p i w w' z h = h z
refuse-same (suc k) p i w w' z h = refl

module _ (a b : List ℕ) (room : ℕ) where
  fault-any-room : ((join_fault a b max_words).number ≡ 0 → ⊥) → join_fault a b max_words ≡ join_fault a b room
  unfolding join_fault ◌then◌
  fault-any-room z = refuse-same _ _ _ _ _ z (union-any-room a b room)

  -- where nothing refuses a join with room for any sheet, the room alone decides
  module _ (z : (join_fault a b max_words).number ≡ 0) where
    passed : ((sheets_fault a b).number ≡ 0) × (union_nodes a b ≤ max_nodes) × (union_edges a b ≤ max_edges (header_of a).form)
    unfolding join_fault union_fault
    passed =
        let t = then-good _ _ z in
        let u = within-limits _ _ _ _ (sym (refuse-good _ 0 0 none t.1).0) in
        (t.0, u.0, u.1)

    past : union_fault a b room ≡ join_fault a b room
    unfolding join_fault
    past = then-none-is (sheets_fault a b) (sheets_fault a b) _ _ refl passed.0 refl

    -- the joint sheet is of the first sheet's form
    form-kept : (j : List ℕ) → Accepted j → (header_of j).form ≡ (header_of a).form
    form-kept j v = one_form j a v (first-opens a b (sheets_fault a b) refl passed.0 (header_of a) refl).accepted

    pub fits : sheet_words (header_of a).form (union_nodes a b) (union_edges a b) ≤ room → (join_fault a b room).number ≡ 0
    fits l = ap (λ (r : Refusal). r.number) (sym past) ∙ union-passes a b _ _ _ room (in-none _ _ _ room passed.1 passed.2 l) refl refl refl

    lacks : room < sheet_words (header_of a).form (union_nodes a b) (union_edges a b) → record { number = 25; sheet = 0; row = 0 } ≡ join_fault a b room
    lacks l = too-much-is a b _ _ _ room 25 (in-25 _ _ _ room passed.1 passed.2 l) refl refl refl (λ q. omega (arith, q)) ∙ past

-- ---- the joint sheet's bytes

joint-long : (a b j : List ℕ) → IsJoin a b j → (header_of j).form ≡ (header_of a).form
    → (header_of j).nodes + shared_nodes a b ≡ (header_of a).nodes + (header_of b).nodes
    → (header_of j).edges + shared_edges a b ≡ (header_of a).edges + (header_of b).edges
    → length j ≡ sheet_words (header_of a).form (union_nodes a b) (union_edges a b)
unfolding union_nodes union_edges
joint-long a b j i f n e = i.accepted.nodes.header.whole ∙ (λ x. sheet_words (f x) (nodes x) (edges x))
  where
    nodes : (header_of j).nodes ≡ (header_of a).nodes + (header_of b).nodes - shared_nodes a b
    nodes = omega (arith, n)

    edges : (header_of j).edges ≡ (header_of a).edges + (header_of b).edges - shared_edges a b
    edges = omega (arith, e)

-- a writer whose result does not fit
lacking : (result out : List ℕ) (r : Refusal) (o : List ℕ) → Writes none result out r o → length out < length result → (r ≡ record { number = 25; sheet = 0; row = 0 }) × (o ≡ out)
unfolding ◌then◌ refuse written
lacking result out r o w l =
    let e : r ≡ record { number = 25; sheet = 0; row = 0 } = w.told ∙ short-lacks (length out) (length result) l in
    (e, w.holds ∙ ap (λ (x : Refusal). written x.number result out) e)

-- what the code returns of a join that had room for any sheet, and of the writer of its bytes
module _ (a b w : List ℕ) where
  refused-words : {r : Joined} {w' : List ℕ} (out : List ℕ) (room : ℕ) → Joins (join_fault a b max_words) a b w r w' → (r.number ≡ 0 → ⊥) → JoinsBytes (join_fault a b room) a b out r out
  refused-words out room (refused h) z = joins-refused _ _ (join_fault a b max_words) a b out _ (fault-any-room a b room h) h refl
  refused-words out room (joined j q i n e l) z = absurd (z refl)

  words-fit : {r : Joined} {w' : List ℕ} → Joins (join_fault a b max_words) a b w r w' → r.number ≡ 0 → r.words ≤ length w'
  words-fit (refused h) z = absurd (h z)
  words-fit (joined j q i n e l) z = omega (arith, length-append j (drop (length j) w))

  module _ (out : List ℕ) (x : Refusal) (out' : List ℕ) where
    abbrev Tells : Joined → Type 0
    Tells y = JoinsBytes (join_fault a b (length out / 4)) a b out y out'

    encoded : {r : Joined} {w' : List ℕ} → Joins (join_fault a b max_words) a b w r w' → r.number ≡ 0 → Writes none (bytes_of (take r.words w')) out x out' → (x.number ≡ 0 → Tells r) × ((x.number ≡ 0 → ⊥) → Tells (refused_join x))
    encoded (refused h) z y = absurd (h z)
    encoded (joined j q i n e l) z y = go (dec_lt (length out) (length (bytes_of j)))
      where
        bytes : Writes none (bytes_of j) out x out'
        bytes = subst (λ (v : List ℕ). Writes none (bytes_of v) out x out') (take_at j (drop (length j) w) (length j) (omega arith)) y

        long : length (bytes_of j) ≡ 4 * sheet_words (header_of a).form (union_nodes a b) (union_edges a b)
        long = bytes-long j ∙ ap (λ (k : ℕ). 4 * k) (joint-long a b j i (form-kept a b max_words q j i.accepted) n e)

        go : Dec (length out < length (bytes_of j)) → (x.number ≡ 0 → Tells (made_join a b j)) × ((x.number ≡ 0 → ⊥) → Tells (refused_join x))
        go (yes k) =
            let u = lacking (bytes_of j) out x out' bytes k in
            let v = lacks a b (length out / 4) q (omega (arith, k, long)) in (
              λ o. absurd (omega (arith, ap (λ (t : Refusal). t.number) (sym u.0) ∙ o)),
              λ o. subst (JoinsBytes (join_fault a b (length out / 4)) a b out (refused_join x)) (sym u.1) (joins-refused _ _ x a b out _ (u.0 ∙ v) o refl),
            )
        go (no k) =
            let f : length (bytes_of j) ≤ length out = omega (arith, k) in
            let u = writes-room (bytes_of j) out x out' bytes f in (
              λ o. subst (JoinsBytes (join_fault a b (length out / 4)) a b out (made_join a b j)) (sym u.1) (joined j (fits a b (length out / 4) q (omega (arith, f, long))) i n e f),
              λ o. absurd (o (ap (λ (t : Refusal). t.number) u.0)),
            )

-- the same, of words that are as many as the longest sheet has
module _ (a b w w' : List ℕ) (r : Joined) (k : length w ≡ max_words) (x : Joins (join_fault a b (length w)) a b w r w') where
  at-longest : Joins (join_fault a b max_words) a b w r w'
  at-longest = subst (λ (m : ℕ). Joins (join_fault a b m) a b w r w') k x

  pub words-refused : (out : List ℕ) (room : ℕ) → (r.number ≡ 0 → ⊥) → JoinsBytes (join_fault a b room) a b out r out
  words-refused out room = refused-words a b w out room at-longest

  module _ (z : r.number ≡ 0) where
    pub part-fits : r.words ≤ length w'
    part-fits = words-fit a b w at-longest z

    module _ (out : List ℕ) (y : Refusal) (out' : List ℕ) (e : Writes none (bytes_of (take r.words w')) out y out') where
      pub bytes-written : y.number ≡ 0 → JoinsBytes (join_fault a b (length out / 4)) a b out r out'
      bytes-written = (encoded a b w out y out' at-longest z e).0

      pub bytes-short : (j : Joined) → j ≡ refused_join y → (y.number ≡ 0 → ⊥) → JoinsBytes (join_fault a b (length out / 4)) a b out j out'
      bytes-short j q o = subst (λ (v : Joined). JoinsBytes (join_fault a b (length out / 4)) a b out v out') (sym q) ((encoded a b w out y out' at-longest z e).1 o)

-- ---- the files

-- the words that a file is decoded into, as far as they are its own
pub decoded-part : (bytes w w' : List ℕ) (r : Refusal) → length bytes ≤ 4 * length w → Writes none (words_of bytes) w r w' → take (length bytes / 4) w' ≡ words_of bytes
decoded-part bytes w w' r l x = decoded w' bytes _ (writes-room (words_of bytes) w r w' x (omega (arith, l, words_long bytes))).1

-- the join of the parts is the join of the files' words
pub words-joined : (first second out : List ℕ) (a b : List ℕ) → a ≡ words_of first → b ≡ words_of second → (j : Joined) (out' : List ℕ)
    → JoinsBytes (join_fault a b (length out / 4)) a b out j out'
    → JoinsBytes (join_fault (words_of first) (words_of second) (length out / 4)) (words_of first) (words_of second) out j out'
words-joined first second out a b e f j out' x = subst₂ (λ (p q : List ℕ). JoinsBytes (join_fault p q (length out / 4)) p q out j out') e f x

module _ (first second out : List ℕ) (r : Refusal) (x : r ≡ bytes_verdict 1 first) where
  pub first-file-refused : (j : Joined) → j ≡ refused_join r → (r.number ≡ 0 → ⊥) → JoinsFiles first second out j out
  unfolding files_fault
  first-file-refused j q z = joins-refused _ _ r _ _ out j (then-some-is r _ _ x z) z q

  module _ (z : r.number ≡ 0) (s : Refusal) (y : s ≡ bytes_verdict 2 second) where
    pub second-refused : (j : Joined) → j ≡ refused_join s → (s.number ≡ 0 → ⊥) → JoinsFiles first second out j out
    unfolding files_fault
    second-refused j q o = joins-refused _ _ s _ _ out j (then-none-is r _ s _ x z (then-some-is s _ _ y o)) o q

    pub files-joined : (j : Joined) (out' : List ℕ) → s.number ≡ 0 → JoinsBytes (join_fault (words_of first) (words_of second) (length out / 4)) (words_of first) (words_of second) out j out' → JoinsFiles first second out j out'
    unfolding files_fault
    files-joined j out' o f = subst (λ (v : Refusal). JoinsBytes v (words_of first) (words_of second) out j out') (then-none-is r _ _ _ x z (then-none-is s _ _ _ y o refl)) f

-- a file that is not refused is no longer than a sheet's
pub file-fits : (p : ℕ) (bytes : List ℕ) (r : Refusal) → r ≡ bytes_verdict p bytes → r.number ≡ 0 → length bytes ≤ max_bytes
unfolding bytes_verdict
file-fits p bytes r e z = bytes_good (length bytes) (refuse-good _ _ _ _ (ap (λ (v : Refusal). v.number) (sym e) ∙ z)).0

-- the bytes of a join that is not refused are a part of the output
pub joint-part : (refusal : Refusal) (a b out : List ℕ) {j : Joined} {out' : List ℕ} → JoinsBytes refusal a b out j out' → j.number ≡ 0 → 4 * j.words ≤ length out'
joint-part refusal a b out (refused h) z = absurd (h z)
joint-part refusal a b out (joined j q i n e l) z = omega (arith, bytes-long j, length-append (bytes_of j) (drop (length (bytes_of j)) out))
