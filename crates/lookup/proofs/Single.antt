-- Any two parts that the statement of a lookup allows are the same part, where it lies and what stands there, and any two places are equal; the third entry's statement is an equation.
-- Assumes nothing.
use mathlib.Core.Path.{◌≡◌, refl, sym, ap, ◌∙◌}
use mathlib.Core.Bool.{true, true≢false}
use mathlib.Core.List.{List}
use Prim.Native.Nat.{ℕ, ◌<◌}
use Rattle.tables.specs.Key.{Key}
use Rattle.tables.proofs.Keys.{one-row}
use Rattle.sheet.specs.Parts.{Part}
use Rattle.sheet.specs.Rows.{header_of, node_key_at}
use Rattle.sheet.specs.Accepted.{Accepted}
use Rattle.question.specs.declared.Answer.{Answer}
use Rattle.question.specs.Replies.{tells, Replies}
use Rattle.lookup.specs.Looked.{has_identity, row_part, look_fault, LooksUp, refused, in-first, in-second, StandsIn, of-first, of-second, PlacesIdentity}
use Rattle.lookup.proofs.Looking.{identity-in, both-accepted}

-- one row has an identity
one_place : (s : List ℕ) → Accepted s → (k : Key) (i j : ℕ) → i < (header_of s).nodes → j < (header_of s).nodes → node_key_at s i ≡ k → node_key_at s j ≡ k → i ≡ j
one_place s acc k i j l m e f = one-row (node_key_at s) (header_of s).nodes acc.nodes.rise i j l m (e ∙ sym f)

pub looked-single : (a b : Part) (k : Key) {p q : Part} → LooksUp a b k p → LooksUp a b k q → p ≡ q
looked-single a b k (refused z) (refused z') = refl
looked-single a b k (refused z) (in-first i e l n) = absurd (z e)
looked-single a b k (refused z) (in-second i e h l n) = absurd (z e)
looked-single a b k (in-first i e l n) (refused z) = absurd (z e)
looked-single a b k (in-first i e l n) (in-first j e' l' n') = ap (row_part a) (one_place a.words (both-accepted a.words b.words k _ refl e).0 k i j l l' n n')
looked-single a b k (in-first i e l n) (in-second j e' h l' n') = absurd (true≢false (sym (identity-in a.words k i l n) ∙ h))
looked-single a b k (in-second i e h l n) (refused z) = absurd (z e)
looked-single a b k (in-second i e h l n) (in-first j e' l' n') = absurd (true≢false (sym (identity-in a.words k j l' n') ∙ h))
looked-single a b k (in-second i e h l n) (in-second j e' h' l' n') = ap (row_part b) (one_place b.words (both-accepted a.words b.words k _ refl e).1 k i j l l' n n')

-- where the first sheet has the identity the part lies in it, and so it is none of the second's, not even one of the same words
pub lies-in-first : (a b : Part) (k : Key) {p : Part} → has_identity a.words k ≡ true → LooksUp a b k p → p.block ≡ a.block
lies-in-first a b k h (refused z) = refl
lies-in-first a b k h (in-first i e l n) = refl
lies-in-first a b k h (in-second i e n l m) = absurd (true≢false (sym h ∙ n))

-- one row of one sheet has the identity that is looked up
stands_one : (a b : List ℕ) (k : Key) → Accepted a × Accepted b → (v c v' c' : ℕ) → StandsIn a b k v c → StandsIn a b k v' c' → tells v c ≡ tells v' c'
stands_one a b k acc v c v' c' (of-first i l n) (of-first j l' n') = ap (tells 1) (one_place a acc.0 k i j l l' n n')
stands_one a b k acc v c v' c' (of-first i l n) (of-second j h l' n') = absurd (true≢false (sym (identity-in a k i l n) ∙ h))
stands_one a b k acc v c v' c' (of-second i h l n) (of-first j l' n') = absurd (true≢false (sym (identity-in a k j l' n') ∙ h))
stands_one a b k acc v c v' c' (of-second i h l n) (of-second j h' l' n') = ap (tells 2) (one_place b acc.1 k i j l l' n n')

pub place-single : (a b : List ℕ) (k : Key) {x y : Answer} → PlacesIdentity a b k x → PlacesIdentity a b k y → x ≡ y
place-single a b k (Replies.refused h) (Replies.refused h') = refl
place-single a b k (Replies.refused h) (Replies.answered v c z p) = absurd (h z)
place-single a b k (Replies.answered v c z p) (Replies.refused h) = absurd (h z)
place-single a b k (Replies.answered v c z p) (Replies.answered v' c' z' p') = stands_one a b k (both-accepted a b k (look_fault a b k) refl z) v c v' c' p p'
