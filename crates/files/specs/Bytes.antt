-- A file: each word as four bytes, low byte first.
-- Assumes nothing.
use Rattle.std.specs.Prelude.{ℕ, ◌+◌, ◌*◌, ◌/◌, ◌%◌, List, [], ◌∷◌, ◌++◌, ◌||◌, not, length}
use Rattle.sheet.specs.declared.Refusal.{Refusal}
use Rattle.sheet.specs.Limits.{max_bytes}
use Rattle.sheet.specs.Refusals.{◌is◌, ◌below◌, ◌when◌otherwise◌, refuse}
use Rattle.sheet.specs.Verdict.{verdict}

-- four bytes as a word, low byte first
abbrev pub word_of : ℕ → ℕ → ℕ → ℕ → ℕ
word_of a b c d = a + 256 * b + 65536 * c + 16777216 * d

-- the words of bytes; one to three bytes left over are no word
unfoldable pub words_of : List ℕ → List ℕ
words_of [] = []
words_of (a ∷ []) = []
words_of (a ∷ b ∷ []) = []
words_of (a ∷ b ∷ c ∷ []) = []
words_of (a ∷ b ∷ c ∷ d ∷ rest) = word_of a b c d ∷ words_of rest

-- a word as four bytes, low byte first
abbrev pub bytes_of_word : ℕ → List ℕ
bytes_of_word w = (w % 256) ∷ (w / 256 % 256) ∷ (w / 65536 % 256) ∷ (w / 16777216 % 256) ∷ []

-- the bytes of words
unfoldable pub bytes_of : List ℕ → List ℕ
bytes_of [] = []
bytes_of (w ∷ ws) = bytes_of_word w ++ bytes_of ws

-- 33 bytes: length not a multiple of 4, or above 40,984
unfoldable pub bytes_fault : ℕ → ℕ
bytes_fault n = 33 when not (n % 4 is 0) || max_bytes below n otherwise 0

-- the verdict on a file as sheet p: 33, then 1 to 17 of its words
unfoldable pub bytes_verdict : ℕ → List ℕ → Refusal
bytes_verdict p bytes = refuse (bytes_fault (length bytes)) p 0 (verdict p (words_of bytes))
