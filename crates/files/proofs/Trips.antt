-- Words to bytes and back give the same words, and bytes to words and back the same bytes.
-- Assumes nothing.
use Prim.Native.Nat.{ℕ, ◌+◌, ◌*◌, ◌/◌, ◌%◌, ◌^◌, ◌<◌}
use mathlib.Core.Path.{◌≡◌, refl, sym, ap, ap₂, ◌∙◌}
use mathlib.Core.List.{List, [], ◌∷◌, ◌++◌}
use native.Mathlib.Nat.{div-div-eq-div-mul, mod-eq_of_lt}
use native.Mathlib.Omega.{arith}
use lib.ListN.{length}
use Rattle.files.specs.Bytes.{word_of, words_of, bytes_of_word, bytes_of}

-- each number of the list is below the bound
abbrev pub Below : ℕ → List ℕ → Type 0
Below bound [] = Unit {0}
Below bound (x ∷ l) = (x < bound) × Below bound l

-- a lowest digit, in base 256, and what stands above it
digit : (a r : ℕ) → a < 256 → ((a + 256 * r) % 256 ≡ a) × ((a + 256 * r) / 256 ≡ r)
digit a r h = (omega arith, omega arith)

split : (w : ℕ) → w ≡ w % 256 + 256 * (w / 256)
split w = omega arith

-- four digits, one above the other
nested : (w a b c d q r : ℕ) → w ≡ a + 256 * q → q ≡ b + 256 * r → r ≡ c + 256 * d → word_of a b c d ≡ w
nested w a b c d q r e f g = omega arith

module _ (w : ℕ) where
  above : (w / 256 / 256 ≡ w / 65536) × (w / 65536 / 256 ≡ w / 16777216)
  above = (div-div-eq-div-mul w 256 256, div-div-eq-div-mul w 65536 256)

  pub word-again : w < 2 ^ 32 → word_of (w % 256) (w / 256 % 256) (w / 65536 % 256) (w / 16777216 % 256) ≡ w
  word-again h =
      let top : w / 16777216 % 256 ≡ w / 16777216 = mod-eq_of_lt (omega arith) in
      nested w (w % 256) (w / 256 % 256) (w / 65536 % 256) (w / 16777216 % 256) (w / 256) (w / 65536)
      (split w)
      (split (w / 256) ∙ ap (λ (x : ℕ). w / 256 % 256 + 256 * x) above.0)
      (split (w / 65536) ∙ ap (λ (x : ℕ). w / 65536 % 256 + 256 * x) (above.1 ∙ sym top))

pub bytes-again : (a b c d : ℕ) → a < 256 → b < 256 → c < 256 → d < 256 → bytes_of_word (word_of a b c d) ≡ a ∷ b ∷ c ∷ d ∷ []
bytes-again a b c d ha hb hc hd =
    let w = word_of a b c d in
    let e : word_of a b c d ≡ a + 256 * (b + 256 * (c + 256 * d)) = omega arith in
    let low = digit a (b + 256 * (c + 256 * d)) ha in
    let one = digit b (c + 256 * d) hb in
    let two = digit c d hc in
    let q1 : word_of a b c d / 256 ≡ b + 256 * (c + 256 * d) = ap (λ (x : ℕ). x / 256) e ∙ low.1 in
    let q2 : word_of a b c d / 65536 ≡ c + 256 * d = sym (above (word_of a b c d)).0 ∙ ap (λ (x : ℕ). x / 256) q1 ∙ one.1 in
    let q3 : word_of a b c d / 16777216 ≡ d = sym (above (word_of a b c d)).1 ∙ ap (λ (x : ℕ). x / 256) q2 ∙ two.1 in
    let ea : word_of a b c d % 256 ≡ a = ap (λ (x : ℕ). x % 256) e ∙ low.0 in
    let eb : word_of a b c d / 256 % 256 ≡ b = ap (λ (x : ℕ). x % 256) q1 ∙ one.0 in
    let ec : word_of a b c d / 65536 % 256 ≡ c = ap (λ (x : ℕ). x % 256) q2 ∙ two.0 in
    let ed : word_of a b c d / 16777216 % 256 ≡ d = ap (λ (x : ℕ). x % 256) q3 ∙ mod-eq_of_lt hd in
    cc

pub there_and_back : (ws : List ℕ) → Below (2 ^ 32) ws → words_of (bytes_of ws) ≡ ws
unfolding words_of bytes_of
there_and_back [] h = refl
there_and_back (w ∷ ws) h = ap₂ ◌∷◌ (word-again w h.0) (there_and_back ws h.1)

pub back-and-there : (bs : List ℕ) → length bs % 4 ≡ 0 → Below 256 bs → bytes_of (words_of bs) ≡ bs
unfolding words_of bytes_of
back-and-there [] m h = refl
back-and-there (a ∷ []) m h = absurd (omega (arith, m))
back-and-there (a ∷ b ∷ []) m h = absurd (omega (arith, m))
back-and-there (a ∷ b ∷ c ∷ []) m h = absurd (omega (arith, m))
back-and-there (a ∷ b ∷ c ∷ d ∷ rest) m h =
    ap₂ ◌++◌ (bytes-again a b c d h.0 h.1.0 h.1.1.0 h.1.1.1.0) (back-and-there rest (omega (arith, m)) h.1.1.1.1)
