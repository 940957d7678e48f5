-- Trails as lists of nodes: the one with the fewest, and among those the first in dictionary order.
-- Assumes nothing.
use Rattle.std.specs.Prelude.{ℕ, ◌≤◌, ◌<◌, ◌≡◌, List, [], ◌∷◌, ◌++◌, length, drop}

-- the list starts at a, follows R, and ends at a node of T
pub data Trail (R : ℕ → ℕ → Type 0) (T : ℕ → Type 0) : ℕ → List ℕ → Type 0 where
  ends : {a : ℕ} → T a → Trail R T a (a ∷ [])
  goes : {a b : ℕ} {l : List ℕ} → R a b → Trail R T b l → Trail R T a (a ∷ l)

-- dictionary order, equality included
pub data Before : List ℕ → List ℕ → Type 0 where
  none : {l : List ℕ} → Before [] l
  less : {a b : ℕ} {l l' : List ℕ} → a < b → Before (a ∷ l) (b ∷ l')
  same : {a : ℕ} {l l' : List ℕ} → Before l l' → Before (a ∷ l) (a ∷ l')

-- the trail from a to T with the fewest nodes, and among those the first in dictionary order
pub record Best (R : ℕ → ℕ → Type 0) (T : ℕ → Type 0) (a : ℕ) (l : List ℕ) : Type 0 where
  pub leads : Trail R T a l
  pub short : (l' : List ℕ) → Trail R T a l' → length l ≤ length l'
  pub first : (l' : List ℕ) → Trail R T a l' → length l' ≡ length l → Before l l'

-- out is out₀ with the best trail from a written to its front, r nodes, and nothing else changed
pub record Traced (R : ℕ → ℕ → Type 0) (T : ℕ → Type 0) (a : ℕ) (out₀ out : List ℕ) (r : ℕ) : Type 0 where
  pub trail : List ℕ
  pub best : Best R T a trail
  pub size : length trail ≡ r
  pub wrote : out ≡ trail ++ drop r out₀
