-- What comes of a file that was read: with 33 it is refused by that, and else it is refused, and answered, as its words are.
-- Assumes nothing.
use Prim.Native.Nat.{ℕ, zero, suc, ◌/◌}
use native.Mathlib.Omega.{arith}
use mathlib.Core.Path.{◌≡◌, refl, sym, ap, subst, ◌∙◌}
use mathlib.Core.List.{List}
use lib.ListN.{length, take}
use Rattle.sheet.specs.declared.Refusal.{Refusal}
use Rattle.sheet.specs.Limits.{max_words}
use Rattle.sheet.specs.Refusals.{none, refuse, ◌then◌, written, Writes}
use Rattle.sheet.specs.Verdict.{verdict}
use Rattle.sheet.proofs.Refusing.{refuse-some-is, refuse-none, refuse-none-is, then-some-is}
use Rattle.sheet.proofs.Writing.{writes-room}
use Rattle.files.specs.Bytes.{words_of, bytes_fault, bytes_verdict}
use Rattle.files.proofs.Words.{words_long, bytes_good, decoded}
use Rattle.question.specs.declared.Answer.{Answer}
use Rattle.question.specs.Asked.{plain, after_sheet}
use Rattle.question.specs.Replies.{refused_by, Replies, Shows}
use Rattle.counter.specs.Filed.{after_file}

-- ---- reading

left_out_lem : (k : ℕ) (result out : List ℕ) → (k ≡ 0 → ⊥) → written k result out ≡ out
unfolding written
left_out_lem zero result out h = absurd (h refl)
left_out_lem (suc k) result out h = refl

module _ (file : List ℕ) (k : ℕ) (is : k ≡ bytes_fault (length file)) where
  -- 33 into lent words: they are as they were
  pub not-lent : (out out' : List ℕ) → (k ≡ 0 → ⊥) → out' ≡ out → Writes (refuse (bytes_fault (length file)) 1 0 none) (words_of file) out (record { number = k; sheet = 1; row = 0 }) out'
  not-lent out out' h o = record { told = then-some-is (record { number = k; sheet = 1; row = 0 }) _ _ (refuse-some-is k (bytes_fault (length file)) 1 0 none is h) h; holds = o ∙ sym (left_out_lem k (words_of file) out h) }

  -- no 33: the words are written, or refused by 25, as if there were no such number
  pub words-lent : (out out' : List ℕ) (r : Refusal) → k ≡ 0 → Writes none (words_of file) out r out' → Writes (refuse (bytes_fault (length file)) 1 0 none) (words_of file) out r out'
  words-lent out out' r z w = subst (λ (v : Refusal). Writes v (words_of file) out r out') (refuse-none-is k (bytes_fault (length file)) 1 0 none none is z refl) w

-- a file that was read into words that have room for any sheet: refused by 33, or its words stand in front of them
pub record FileRead (file : List ℕ) (r : Refusal) (words : List ℕ) : Type 0 where
  pub refusal : r ≡ refuse (bytes_fault (length file)) 1 0 none
  pub good : r.number ≡ 0 → bytes_fault (length file) ≡ 0
  pub stand : r.number ≡ 0 → take (length file / 4) words ≡ words_of file

pub was_read : (file words₀ words : List ℕ) (r : Refusal) → length words₀ ≡ max_words → Writes (refuse (bytes_fault (length file)) 1 0 none) (words_of file) words₀ r words → FileRead file r words
was_read file words₀ words r long w = go (bytes_fault (length file)) refl
  where
    go : (k : ℕ) → k ≡ bytes_fault (length file) → FileRead file r words
    go zero is =
        let e = refuse-none (bytes_fault (length file)) 1 0 none (sym is) in
        let most = bytes_good (length file) (sym is) in
        let n = words_long file in
        let all = writes-room (words_of file) words₀ r words (subst (λ (v : Refusal). Writes v (words_of file) words₀ r words) e w) (omega arith) in
        record { refusal = all.0 ∙ sym e; good = λ y. sym is; stand = λ y. decoded words file _ all.1 }
    go (suc k) is =
        let v = refuse-some-is (suc k) (bytes_fault (length file)) 1 0 none is (λ z. absurd (omega (arith, z))) in
        let e = w.told ∙ sym (then-some-is (record { number = suc k; sheet = 1; row = 0 }) _ _ v (λ z. absurd (omega (arith, z)))) in
        let some : r.number ≡ 0 → ⊥ = λ z. absurd (omega (arith, sym z ∙ ap (λ (x : Refusal). x.number) e)) in
        record { refusal = e ∙ v; good = λ z. absurd (some z); stand = λ z. absurd (some z) }

-- ---- what is asked of it

some_first : (n k : ℕ) (v : Refusal) → (n ≡ 0 → ⊥) → refuse n 1 0 none ≡ (refuse n 1 0 v then plain k)
unfolding refuse ◌then◌
some_first zero k v h = absurd (h refl)
some_first (suc n) k v h = refl

-- 33 refuses it, whatever is asked
module _ (file : List ℕ) (r : Refusal) (e : r ≡ refuse (bytes_fault (length file)) 1 0 none) (h : r.number ≡ 0 → ⊥) where
  first-33 : (k : ℕ) → r ≡ after_file file k
  unfolding after_file bytes_verdict
  first-33 k = e ∙ some_first (bytes_fault (length file)) k (verdict 1 (words_of file)) (λ z. h (ap (λ (y : Refusal). y.number) (e ∙ refuse-none (bytes_fault (length file)) 1 0 none z)))

  first-some : (k : ℕ) → (after_file file k).number ≡ 0 → ⊥
  first-some k z = h (ap (λ (y : Refusal). y.number) (first-33 k) ∙ z)

  pub reply-unread : (P : ℕ → ℕ → Type 0) (k : ℕ) (a : Answer) → a ≡ refused_by r → Replies (after_file file k) P a
  reply-unread P k a q = subst (λ (y : Answer). Replies (after_file file k) P y) (sym (q ∙ ap refused_by (first-33 k))) (Replies.refused (first-some k))

  pub show-unread : (R : List ℕ → Type 0) (k : ℕ) (a : Answer) (out : List ℕ) → a ≡ refused_by r → Shows (after_file file k) R out a out
  show-unread R k a out q = subst (λ (y : Answer). Shows (after_file file k) R out y out) (sym (q ∙ ap refused_by (first-33 k))) (Shows.refused (first-some k))

-- read, it is refused as its words are: so whatever is told of the words, after the sheet's refusal, is told of the file, after the file's
module _ (file s : List ℕ) (is : s ≡ words_of file) (z : bytes_fault (length file) ≡ 0) where
  as-words : (k : ℕ) → after_sheet (words_of file) k ≡ after_file file k
  unfolding after_file after_sheet bytes_verdict
  as-words k = ap (λ (v : Refusal). v then plain k) (sym (refuse-none (bytes_fault (length file)) 1 0 (verdict 1 (words_of file)) z))

  pub of-file : (C : (ℕ → Refusal) → List ℕ → Type 0) → C (after_sheet s) s → C (after_file file) (words_of file)
  of-file C y = subst (λ (v : ℕ → Refusal). C v (words_of file)) (λ i k. as-words k i) (subst (λ (t : List ℕ). C (after_sheet t) t) is y)
