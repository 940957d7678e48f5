-- Two texts with the same lines in another order, and what reading them has in common.
-- Assumes nothing.
use Rattle.std.specs.Prelude.{ℕ, ◌≡◌, List, [], ◌∷◌}
use Rattle.listing.specs.declared.Listing.{Listing}
use Rattle.listing.specs.Cut.{cut_up}

-- the same lines in another order
pub data Reordered : List (List ℕ) → List (List ℕ) → Type 0 where
  -- no lines
  empty : Reordered [] []
  -- the same line in front of lines in another order
  behind : {l : List ℕ} {ls ms : List (List ℕ)} → Reordered ls ms → Reordered (l ∷ ls) (l ∷ ms)
  -- the first two lines exchanged
  exchanged : {l m : List ℕ} {ls : List (List ℕ)} → Reordered (l ∷ m ∷ ls) (m ∷ l ∷ ls)
  -- one after another
  onward : {ls ms ns : List (List ℕ)} → Reordered ls ms → Reordered ms ns → Reordered ls ns

-- two texts with the same lines in another order. Behind the last line feed both have the same, and where nothing refuses them that is nothing
pub record SameLines (text text' : List ℕ) : Type 0 where
  pub ended : Reordered (cut_up text).ended (cut_up text').ended
  pub left : (cut_up text).left ≡ (cut_up text').left

-- two readings into the same output are alike: both refuse, perhaps by different lines, and write nothing, or the reply and the output are the same
pub data ReadAlike (out : List ℕ) (a b : Listing) (o o' : List ℕ) : Type 0 where
  both-refuse : (a.number ≡ 0 → ⊥) → (b.number ≡ 0 → ⊥) → o ≡ out → o' ≡ out → ReadAlike out a b o o'
  the_same : a ≡ b → o ≡ o' → ReadAlike out a b o o'
