-- The words of bytes and the bytes of words: how many there are, and each.
-- Assumes nothing.
use Prim.Native.Nat.{ℕ, zero, suc, ◌+◌, ◌-◌, ◌*◌, ◌/◌, ◌%◌, ◌<◌, ◌≤◌}
use mathlib.Core.Path.{◌≡◌, refl, sym, ap, ◌∙◌}
use mathlib.Core.List.{List, [], ◌∷◌, ◌++◌, append_assoc}
use mathlib.Core.Bool.{Bool, false, true, not, ◌||◌, true≢false}
use native.Mathlib.Omega.{arith}
use lib.Dec.{eqb, ltb}
use lib.ListN.{length, get_or, take, drop}
use lib.Seq.{drop-cons, take_at, drop-drop, sets-eq}
use borrow.Rule.Slice.PartMut.{put_mid}
use Rattle.sheet.proofs.Writing.{front_of, front_long, front-run}
use borrow.Author.Tests.{ltb-false}
use Rattle.sheet.specs.Limits.{max_bytes}
use Rattle.sheet.proofs.Refusing.{line-good}
use Rattle.std.specs.Int.{w32, from_le_bytes}
use Rattle.std.specs.Simd.{first_chunks}
use Rattle.files.specs.Bytes.{words_of, bytes_of_word, bytes_of, bytes_fault, word_of}

-- the word in the four bytes from a place on
abbrev pub word_from : List ℕ → ℕ → ℕ
word_from bs at = word_of (get_or bs at 0) (get_or bs (at + 1) 0) (get_or bs (at + 2) 0) (get_or bs (at + 3) 0)

pub words_long : (bs : List ℕ) → length (words_of bs) ≡ length bs / 4
unfolding words_of
words_long [] = refl
words_long (a ∷ []) = refl
words_long (a ∷ b ∷ []) = refl
words_long (a ∷ b ∷ c ∷ []) = refl
words_long (a ∷ b ∷ c ∷ d ∷ rest) = let e = words_long rest in omega arith

pub words-at : (bs : List ℕ) (i : ℕ) → i < length bs / 4 → get_or (words_of bs) i 0 ≡ word_from bs (4 * i)
unfolding words_of
words-at [] i h = absurd (omega (arith, h))
words-at (a ∷ []) i h = absurd (omega (arith, h))
words-at (a ∷ b ∷ []) i h = absurd (omega (arith, h))
words-at (a ∷ b ∷ c ∷ []) i h = absurd (omega (arith, h))
words-at (a ∷ b ∷ c ∷ d ∷ rest) zero h = refl
words-at (a ∷ b ∷ c ∷ d ∷ rest) (suc i) h =
    let e0 : 4 * suc i ≡ suc (suc (suc (suc (4 * i)))) = omega arith in
    let e1 : 4 * suc i + 1 ≡ suc (suc (suc (suc (4 * i + 1)))) = omega arith in
    let e2 : 4 * suc i + 2 ≡ suc (suc (suc (suc (4 * i + 2)))) = omega arith in
    let e3 : 4 * suc i + 3 ≡ suc (suc (suc (suc (4 * i + 3)))) = omega arith in
    rw (e1, e2, e3, e0) (words-at rest i (omega (arith, h)))

-- .. as the run that stands next
pub word-run : (bs : List ℕ) (i : ℕ) → i < length bs / 4 → take 1 (drop i (words_of bs)) ≡ word_from bs (4 * i) ∷ []
word-run bs i h =
    ap (take 1) (drop-cons (words_of bs) i 0 (omega (arith, words_long bs)))
    ∙ ap (λ (w : ℕ). w ∷ []) (words-at bs i h)

-- the word that is read from the i-th four bytes
word_in : (bs : List ℕ) (n i : ℕ) → n ≡ length bs / 4 → i < n → (d : List ℕ) → get_or (words_of bs) i 0 ≡ from_le_bytes w32 (get_or (first_chunks 4 n bs) i d)
unfolding words_of
word_in bs zero i e h d = absurd (omega (arith, h))
word_in [] (suc n) i e h d = absurd (omega (arith, e))
word_in (a ∷ []) (suc n) i e h d = absurd (omega (arith, e))
word_in (a ∷ b ∷ []) (suc n) i e h d = absurd (omega (arith, e))
word_in (a ∷ b ∷ c ∷ []) (suc n) i e h d = absurd (omega (arith, e))
word_in (a ∷ b ∷ c ∷ x ∷ rest) (suc n) zero e h d = omega arith
word_in (a ∷ b ∷ c ∷ x ∷ rest) (suc n) (suc i) e h d = word_in rest n i (omega (arith, e)) (omega (arith, h)) d

-- the run of one word that stands next
pub word_next : (bs : List ℕ) (n i : ℕ) → n ≡ length bs / 4 → i < n → (d : List ℕ) (w : ℕ) → w ≡ from_le_bytes w32 (get_or (first_chunks 4 n bs) i d) → take 1 (drop i (words_of bs)) ≡ w ∷ []
word_next bs n i e h d w g =
    ap (take 1) (drop-cons (words_of bs) i 0 (omega (arith, words_long bs)))
    ∙ ap (λ (x : ℕ). x ∷ []) (word_in bs n i e h d ∙ sym g)

pub bytes-long : (ws : List ℕ) → length (bytes_of ws) ≡ 4 * length ws
unfolding bytes_of
bytes-long [] = refl
bytes-long (w ∷ ws) = let e = bytes-long ws in omega arith

-- the run of four bytes that stands next
pub bytes_next : (ws : List ℕ) (i : ℕ) → i < length ws → take 4 (drop (4 * i) (bytes_of ws)) ≡ bytes_of_word (get_or ws i 0)
unfolding bytes_of
bytes_next [] i h = absurd (omega (arith, h))
bytes_next (w ∷ ws) zero h = refl
bytes_next (w ∷ ws) (suc i) h = let e : 4 * suc i ≡ suc (suc (suc (suc (4 * i)))) = omega arith in rw e (bytes_next ws i (omega (arith, h)))

-- .. written in place of the four bytes that stand there
pub four_put : (w d ws : List ℕ) (i : ℕ) → w ≡ front_of d (bytes_of ws) (4 * i) → i < length ws → 4 * length ws ≤ length d
    → put_mid (4 * i) (4 * i + 4 - 4 * i) w (bytes_of_word (get_or ws i 0)) ≡ front_of d (bytes_of ws) (4 * (i + 1))
four_put w d ws i e h r =
    let long = bytes-long ws in
    let all : length w ≡ length d = front_long w d (bytes_of ws) (4 * i) e (omega arith) (omega arith) in
    let four : 4 * i + 4 - 4 * i ≡ 4 = omega arith in
    let again : 4 * i + 4 ≡ 4 * (i + 1) = omega arith in
    rw (four, ← again, drop-drop 4 (4 * i) w)
    (sym (append_assoc (take (4 * i) w) (bytes_of_word (get_or ws i 0)) (drop (4 * i + 4) w)) ∙ sym (sets-eq (bytes_of_word (get_or ws i 0)) w (4 * i) (omega (arith, all))) ∙ front-run w d (bytes_of ws) (4 * i) e (bytes_of_word (get_or ws i 0)) (omega arith) (omega arith) (bytes_next ws i h))

-- of words that the file's words stand in front of, the part that is the file's
pub decoded : (w bs d : List ℕ) → w ≡ words_of bs ++ d → take (length bs / 4) w ≡ words_of bs
decoded w bs d e =
    let n : length (words_of bs) ≡ length bs / 4 = omega (arith, words_long bs) in
    rw e (take_at (words_of bs) d (length bs / 4) n)

-- bytes without 33 are no longer than a sheet's file
pub bytes_good : (n : ℕ) → bytes_fault n ≡ 0 → n ≤ max_bytes
unfolding bytes_fault
bytes_good n e = ltb-false max_bytes n (right (not (eqb (n % 4) 0)) (ltb max_bytes n) (line-good _ _ _ tt e).0)
  where
    right : (a b : Bool) → (a || b) ≡ false → b ≡ false
    right true b e = absurd (true≢false e)
    right false b e = e
