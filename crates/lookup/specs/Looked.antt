-- Looking an identity up in two sheets at once.
-- Assumes nothing.
use Rattle.std.specs.Prelude.{ℕ, ◌<◌, ◌≡◌, Bool, false, not, ◌||◌, List}
use Rattle.tables.specs.Count.{has}
use Rattle.tables.specs.Key.{Key}
use Rattle.sheet.specs.declared.Refusal.{Refusal}
use Rattle.sheet.specs.Limits.{node_words, edges_from}
use Rattle.sheet.specs.Parts.{Part, stretch}
use Rattle.sheet.specs.Refusals.{◌when◌otherwise◌, none, refuse, ◌then◌}
use Rattle.sheet.specs.Rows.{header_of, node_key_at}
use Rattle.sheet.specs.Verdict.{verdict}
use Rattle.question.specs.declared.Answer.{Answer}
use Rattle.question.specs.Replies.{Replies}

-- a sheet has the identity
unfoldable pub has_identity : List ℕ → Key → Bool
has_identity s k = has (header_of s).nodes (node_key_at s) k

-- 32 identity in neither sheet
unfoldable pub neither : List ℕ → List ℕ → Key → ℕ
neither a b k = 32 when not (has_identity a k || has_identity b k) otherwise 0

-- what is refused: the first sheet's, the second's, then 32
unfoldable pub look_fault : List ℕ → List ℕ → Key → Refusal
look_fault a b k = verdict 1 a then (verdict 2 b then refuse (neither a b k) 0 0 none)

-- the four words of node row i, where they stand
abbrev pub row_part : Part → ℕ → Part
row_part s i = stretch s (edges_from i) node_words

-- the part that a lookup gives: the empty one where refused, else the row of the first sheet that has the identity, first before second; no copy
pub data LooksUp (a b : Part) (k : Key) : Part → Type 0 where
  refused : ((look_fault a.words b.words k).number ≡ 0 → ⊥) → LooksUp a b k (stretch a 0 0)
  in-first : (i : ℕ) → (look_fault a.words b.words k).number ≡ 0 → i < (header_of a.words).nodes → node_key_at a.words i ≡ k → LooksUp a b k (row_part a i)
  in-second : (i : ℕ) → (look_fault a.words b.words k).number ≡ 0 → has_identity a.words k ≡ false → i < (header_of b.words).nodes → node_key_at b.words i ≡ k → LooksUp a b k (row_part b i)

-- where the row stands that a lookup gives: in the first sheet or the second, and at which node row; first before second
pub data StandsIn (a b : List ℕ) (k : Key) : ℕ → ℕ → Type 0 where
  of-first : (i : ℕ) → i < (header_of a).nodes → node_key_at a i ≡ k → StandsIn a b k 1 i
  of-second : (i : ℕ) → has_identity a k ≡ false → i < (header_of b).nodes → node_key_at b i ≡ k → StandsIn a b k 2 i

-- the place of the row that a lookup gives, or what the lookup is refused by
abbrev pub PlacesIdentity : List ℕ → List ℕ → Key → Answer → Type 0
PlacesIdentity a b k = Replies (look_fault a b k) (StandsIn a b k)
