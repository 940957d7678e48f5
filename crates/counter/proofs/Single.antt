-- Any two answers that a byte entry's statement allows are equal, and so is what they leave in the output. On words the entries say what the functions below them say, and the laws stand there.
-- Assumes nothing.
use Prim.Native.Nat.{ℕ}
use mathlib.Core.Path.{◌≡◌, ap}
use mathlib.Core.List.{List}
use Rattle.tables.specs.Office.{View}
use Rattle.meaning.specs.Paths.{Side}
use Rattle.meaning.specs.Questions.{WitnessIs}
use Rattle.meaning.proofs.Unique.{witness-one}
use Rattle.files.specs.Bytes.{bytes_of}
use Rattle.question.specs.declared.Answer.{Answer}
use Rattle.question.specs.Replies.{tells, Replies, Shows}
use Rattle.question.proofs.Single.{replies-one, shows-one}
use Rattle.counter.specs.Filed.{InBytes, in_bytes, after_file}

-- questions 1 and 2: `ask`'s `answer-single` and `joint-single` are such a `one`
pub file-reply-one : (file : List ℕ) (k : ℕ) (P : ℕ → ℕ → Type 0) → ((v c v' c' : ℕ) → P v c → P v' c' → tells v c ≡ tells v' c')
    → {a b : Answer} → Replies (after_file file k) P a → Replies (after_file file k) P b → a ≡ b
file-reply-one file k P one = replies-one (after_file file k) P one

-- the bytes of a list of words are as many lists as those words
pub bytes_one : (R : List ℕ → Type 0) → ((xs ys : List ℕ) → R xs → R ys → xs ≡ ys) → (bs cs : List ℕ) → InBytes R bs → InBytes R cs → bs ≡ cs
bytes_one R one bs cs (in_bytes xs x) (in_bytes ys y) = ap bytes_of (one xs ys x y)

-- question 3
pub file-witness-one : (file : List ℕ) (k : ℕ) (g : View) (side : Side) (p d f : ℕ) (out : List ℕ) {a b : Answer} {o o' : List ℕ}
    → Shows (after_file file k) (InBytes (WitnessIs g side p d f)) out a o → Shows (after_file file k) (InBytes (WitnessIs g side p d f)) out b o' → (a ≡ b) × (o ≡ o')
file-witness-one file k g side p d f out = shows-one (after_file file k) (InBytes (WitnessIs g side p d f)) (bytes_one (WitnessIs g side p d f) (witness-one g side p d f)) out
