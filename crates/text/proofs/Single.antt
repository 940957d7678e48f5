-- Any two results that a text's writers allow are equal, and so is what they leave in the text.
-- Assumes nothing.
use Prim.Native.Nat.{ℕ}
use mathlib.Core.Path.{◌≡◌, sym, ◌∙◌}
use mathlib.Core.List.{List}
use Rattle.text.specs.Growing.{Grows}

pub grows_one : (text : List ℕ) (at : ℕ) (put : List ℕ) {r q : ℕ} {t t' : List ℕ} → Grows text at put r t → Grows text at put q t' → (r ≡ q) × (t ≡ t')
grows_one text at put a b =
    (a.ends ∙ sym b.ends, a.holds ∙ sym b.holds)
