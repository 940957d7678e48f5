-- What a search for an identity tells of a sheet: that it has the identity, where its row stands, and what a lookup gives.
-- Assumes nothing.
use Prim.Native.Nat.{ℕ, ◌+◌, ◌<◌, ◌≤◌, ◌*◌, ◌-◌}
use native.Mathlib.Omega.{arith}
use mathlib.Core.Path.{◌≡◌, refl, sym, ap, subst, ◌∙◌, ap₂}
use mathlib.Core.Bool.{Bool, true, false, not, ◌||◌, true≢false}
use mathlib.Core.List.{List}
use lib.ListN.{length, drop, length-take, take}
use Rattle.std.specs.Prelude.{Result, Ok, Err, is_ok}
use Rattle.tables.specs.Key.{Key}
use Rattle.tables.proofs.Counts.{has-row, has_some}
use Rattle.sheet.specs.declared.Refusal.{Refusal}
use Rattle.sheet.specs.declared.Header.{Header}
use Rattle.sheet.specs.Limits.{node_words, edges_from, max_nodes}
use Rattle.sheet.specs.Parts.{Part, stretch}
use Rattle.sheet.specs.Refusals.{◌when◌otherwise◌, none, refuse}
use Rattle.sheet.specs.Rows.{header_of, edge_table, node_key_at}
use Rattle.sheet.specs.Verdict.{verdict}
use Rattle.sheet.specs.Accepted.{WellFormed, Accepted}
use Rattle.sheet.specs.Found.{FoundAt, row_told}
use Rattle.sheet.proofs.Refusing.{refuse-plain, then-some-is, then-none-is, then-good}
use Rattle.sheet.proofs.Accepting.{accepted}
use Rattle.sheet.proofs.Places.{stands-there, found-there}
use Rattle.sheet.proofs.Forming.{words_of}
use Rattle.sheet.proofs.Reading.{node-room}
use Rattle.question.specs.declared.Answer.{Answer}
use Rattle.question.specs.Replies.{refused_by, tells, Replies}
use Rattle.question.proofs.Telling.{refuses}
use Rattle.lookup.specs.Looked.{has_identity, neither, look_fault, row_part, LooksUp, refused, in-first, in-second, StandsIn, of-first, of-second, PlacesIdentity}
use Rattle.lookup.specs.Standing.{IsStanding}
use Rattle.lookup.specs.declared.standing.Standing.{Standing}
use Rattle.lookup.specs.declared.standing.Standing.TheVariants.{First, Second}

-- ---- whether a sheet has the identity

pub identity-in : (s : List ℕ) (k : Key) (i : ℕ) → i < (header_of s).nodes → node_key_at s i ≡ k → has_identity s k ≡ true
unfolding has_identity
identity-in s k i l e = has-row (header_of s).nodes (node_key_at s) k i l e

-- what a search tells of a sheet that passed the check
module _ (s t : List ℕ) (h : Header) (w : WellFormed s t h) (k : Key) where
  own-nodes : (r : Result ℕ ℕ) → FoundAt (node_key_at s) h.nodes k r → FoundAt (node_key_at s) (header_of s).nodes k r
  own-nodes r f = subst (λ (x : Header). FoundAt (node_key_at s) x.nodes k r) w.head f

  pub looked-stands : (i : ℕ) → FoundAt (node_key_at s) h.nodes k (Ok i) → (i < (header_of s).nodes) × (node_key_at s i ≡ k)
  looked-stands i f =
      let g = own-nodes (Ok i) f in
      let (j, l, d) = has_some (header_of s).nodes (node_key_at s) k (sym g.told) in
      stands-there (node_key_at s) (header_of s).nodes (words_of s t h w).nodes.rise k i j g.place l d

  pub looked-missing : (i : ℕ) → FoundAt (node_key_at s) h.nodes k (Err i) → has_identity s k ≡ false
  unfolding has_identity
  looked-missing i f = sym (own-nodes (Err i) f).told

-- ---- what a search tells of the words' own node rows

-- a row that stands: its words are there
pub record StandingRow (s : List ℕ) (k : Key) (row : ℕ) : Type 0 where
  pub inside : row < (header_of s).nodes
  pub names : node_key_at s row ≡ k
  pub room : edges_from row + node_words ≤ length s
  pub few : row ≤ max_nodes

-- what a search told of a sheet
abbrev IdentityFound : List ℕ → Key → Result ℕ ℕ → Type 0
IdentityFound s k r = FoundAt (node_key_at s) (header_of s).nodes k r

-- by the header that was read, and by the words' own
pub found-own : (s : List ℕ) (h : Header) (k : Key) (r : Result ℕ ℕ) → h ≡ header_of s → FoundAt (node_key_at s) h.nodes k r → IdentityFound s k r
found-own s h k r e f = subst (λ (x : Header). FoundAt (node_key_at s) x.nodes k r) e f

pub stands-row : (s : List ℕ) (k : Key) (i : ℕ) → Accepted s → IdentityFound s k (Ok i) → StandingRow s k i
stands-row s k i acc f =
    let (l, n) = found-there (node_key_at s) (header_of s).nodes acc.nodes.rise k i f in
    record { inside = l; names = n; room = omega (arith, l, acc.nodes.header.whole); few = omega (arith, l, acc.nodes.header.nodes) }

-- what is told is whether the sheet has it
pub told-has : (s : List ℕ) (k : Key) (r : Result ℕ ℕ) (b : Bool) → IdentityFound s k r → is_ok r ≡ b → has_identity s k ≡ b
unfolding has_identity
told-has s k r b f e = sym f.told ∙ e

-- ---- 32

module _ (a b : List ℕ) (k : Key) where
  pub found_first : has_identity a k ≡ true → 0 ≡ neither a b k
  unfolding neither ◌when◌otherwise◌
  found_first e = rw e refl

  pub found-second : has_identity b k ≡ true → 0 ≡ neither a b k
  unfolding neither ◌when◌otherwise◌
  found-second e = go (has_identity a k)
    where
      go : (t : Bool) → 0 ≡ (32 when not (t || has_identity b k) otherwise 0)
      go true = refl
      go false = rw e refl

  pub found-neither : has_identity a k ≡ false → has_identity b k ≡ false → 32 ≡ neither a b k
  unfolding neither ◌when◌otherwise◌
  found-neither e f = rw (e, f) refl

  -- ---- what is refused, in order

  pub first-refuses : (r : Refusal) → r ≡ verdict 1 a → (r.number ≡ 0 → ⊥) → r ≡ look_fault a b k
  unfolding look_fault
  first-refuses r e z = then-some-is r (verdict 1 a) _ e z

  pub second-refuses : (r t : Refusal) → r ≡ verdict 1 a → r.number ≡ 0 → t ≡ verdict 2 b → (t.number ≡ 0 → ⊥) → t ≡ look_fault a b k
  unfolding look_fault
  second-refuses r t e z f y = then-none-is r (verdict 1 a) t _ e z (then-some-is t (verdict 2 b) _ f y)

  pub neither-refuses : (r t : Refusal) (n : ℕ) → r ≡ verdict 1 a → r.number ≡ 0 → t ≡ verdict 2 b → t.number ≡ 0 → n ≡ neither a b k → record { number = n; sheet = 0; row = 0 } ≡ look_fault a b k
  unfolding look_fault
  neither-refuses r t n e z f y q = then-none-is r (verdict 1 a) (record { number = n; sheet = 0; row = 0 }) _ e z (then-none-is t (verdict 2 b) (record { number = n; sheet = 0; row = 0 }) _ f y (refuse-plain (neither a b k) n q))

  -- ---- what is given

  module _ (r : Refusal) (f : r ≡ look_fault a b k) where
    fault : (look_fault a b k).number ≡ r.number
    fault = sym (ap (λ (x : Refusal). x.number) f)

    -- nothing is refused, so both sheets are accepted, and one that the first does not have is in the second
    pub both-accepted : r.number ≡ 0 → Accepted a × Accepted b
    unfolding look_fault
    both-accepted z =
        let v = then-good (verdict 1 a) _ (fault ∙ z) in
        (accepted 1 a v.0, accepted 2 b (then-good (verdict 2 b) _ v.1).0)

    pub in-other : r.number ≡ 0 → has_identity a k ≡ false → has_identity b k ≡ true
    unfolding look_fault neither refuse ◌when◌otherwise◌
    in-other z h =
        let v = then-good (verdict 1 a) _ (fault ∙ z) in
        go (has_identity b k) (rw h at (then-good (verdict 2 b) _ v.1).1)
      where
        go : (t : Bool) → (refuse (32 when not (false || t) otherwise 0) 0 0 none).number ≡ 0 → t ≡ true
        go true e = refl
        go false e = absurd (omega (arith, e))

    -- the row that a search found in the first sheet
    pub first-row : (i : ℕ) → r.number ≡ 0 → IdentityFound a k (Ok i) → StandingRow a k i
    first-row i z st = stands-row a k i (both-accepted z).0 st

    -- the second sheet has what the first has not, so its row stands there
    pub second-row : (i : ℕ) (q : Result ℕ ℕ) → r.number ≡ 0 → IdentityFound a k (Err i) → IdentityFound b k q → StandingRow b k (row_told q)
    second-row i (Ok j) z st su = stands-row b k j (both-accepted z).1 su
    second-row i (Err j) z st su = absurd (true≢false (sym (in-other z (told-has a k (Err i) false st refl)) ∙ told-has b k (Err j) false su refl))

    -- ---- where it stands, by the refusal's number

    told-at : (x : Answer) (sheet row : ℕ) → r.number ≡ 0 → StandsIn a b k sheet row → x ≡ tells sheet row → PlacesIdentity a b k x
    told-at x sheet row z st e = subst (λ (y : Answer). PlacesIdentity a b k y) (sym e) (Replies.answered sheet row (fault ∙ z) st)

    pub row-in-first : (x : Answer) (row : ℕ) → r.number ≡ 0 → StandingRow a k row → x ≡ tells 1 row → PlacesIdentity a b k x
    row-in-first x row z w e = told-at x 1 row z (of-first row w.inside w.names) e

    pub row-in-second : (x : Answer) (row : ℕ) → r.number ≡ 0 → has_identity a k ≡ false → StandingRow b k row → x ≡ tells 2 row → PlacesIdentity a b k x
    row-in-second x row z h w e = told-at x 2 row z (of-second row h w.inside w.names) e

-- ---- what is found

standing-in : (a b : List ℕ) (k : Key) (p : Standing) → IsStanding a b k p → 0 ≡ neither a b k
standing-in a b k (First i) e = found_first a b k (identity-in a k i e.0 e.1)
standing-in a b k (Second i) e = found-second a b k (identity-in b k i e.1 e.2)

-- d and e are the words that were accepted
pub finds-standing : (a b d e : List ℕ) (k : Key) (p : Standing) → verdict 1 a ≡ none → verdict 2 b ≡ none → d ≡ a → e ≡ b → IsStanding d e k p → (look_fault a b k ≡ none) × IsStanding a b k p
unfolding look_fault
finds-standing a b d e k p v w f g x =
    let y = subst (λ (z : List ℕ). IsStanding a z k p) g (subst (λ (z : List ℕ). IsStanding z e k p) f x) in
    (sym (then-none-is none (verdict 1 a) none _ (sym v) refl (then-none-is none (verdict 2 b) none _ (sym w) refl (refuse-plain (neither a b k) 0 (standing-in a b k p y)))), y)

pub finds-none : (a b d e : List ℕ) (k : Key) → verdict 1 a ≡ none → verdict 2 b ≡ none → d ≡ a → e ≡ b → (has_identity d k ≡ false) × (has_identity e k ≡ false) → record { number = 32; sheet = 0; row = 0 } ≡ look_fault a b k
finds-none a b d e k v w f g x =
    neither-refuses a b k none none 32 (sym v) refl (sym w) refl
    (found-neither a b k (subst (λ (z : List ℕ). has_identity z k ≡ false) f x.0) (subst (λ (z : List ℕ). has_identity z k ≡ false) g x.1))

-- both sheets are accepted where nothing is refused, so that a row's words are there
pub row-room : (s : List ℕ) → Accepted s → (i : ℕ) → i < (header_of s).nodes → edges_from i + node_words ≤ length s
row-room s w i l = node-room s (edge_table s) (header_of s) w i l

pub row_few : (s : List ℕ) → Accepted s → (i : ℕ) → i < (header_of s).nodes → i ≤ max_nodes
row_few s w i l = omega (arith, l, w.nodes.header.nodes)

-- ---- which part is given

module _ (a b : Part) (k k' : Key) (named : k ≡ k') where
  -- by the key that was asked for
  by_key : (x y : Part) → x ≡ y → LooksUp a b k x → LooksUp a b k' y
  by_key x y e w = subst (λ (p : Part). LooksUp a b k' p) e (subst (λ (j : Key). LooksUp a b j x) named w)

  pub gives_none : (r : Refusal) (y : Part) → r ≡ look_fault a.words b.words k → (r.number ≡ 0 → ⊥) → stretch a 0 0 ≡ y → LooksUp a b k' y
  gives_none r y f z e = by_key _ y e (refused (λ q. z (ap (λ (x : Refusal). x.number) f ∙ q)))

  pub gives-first : (row : ℕ) (y : Part) → look_fault a.words b.words k ≡ none → IsStanding a.words b.words k (First row) → y ≡ row_part a row → LooksUp a b k' y
  gives-first row y f x e = by_key _ y (sym e) (in-first row (ap (λ (x : Refusal). x.number) f) x.0 x.1)

  pub gives-second : (row : ℕ) (y : Part) → look_fault a.words b.words k ≡ none → IsStanding a.words b.words k (Second row) → y ≡ row_part b row → LooksUp a b k' y
  gives-second row y f x e = by_key _ y (sym e) (in-second row (ap (λ (x : Refusal). x.number) f) x.0 x.1 x.2)

-- .. by the refusal's number, of a row that stands

-- words of a part, as the code reaches them: from word i to word e, at that many times four bytes
abbrev reached : Part → ℕ → ℕ → Part
reached p i e = record { block = p.block; offset = i * 4 + p.offset; words = take (e - i) (drop i p.words) }

-- they are a stretch of it
reached-is : (p : Part) (i e n : ℕ) → e ≡ i + n → stretch p i n ≡ reached p i e
reached-is p i e n q =
    let l : n ≡ e - i = omega (arith, q) in
    let o : p.offset + 4 * i ≡ i * 4 + p.offset = omega arith in
    ap₂ (λ (x y : ℕ). record { block = p.block; offset = x; words = take y (drop i p.words) }) o l

module _ (a b : Part) (k k' : Key) (r : Refusal) (f : r ≡ look_fault a.words b.words k) (named : k ≡ k') where
  fault-of : (look_fault a.words b.words k).number ≡ r.number
  fault-of = sym (ap (λ (x : Refusal). x.number) f)

  pub first-part : (row : ℕ) → r.number ≡ 0 → StandingRow a.words k row → LooksUp a b k' (reached a (edges_from row) (edges_from row + node_words))
  first-part row z x = by_key a b k k' named _ _ (reached-is a (edges_from row) (edges_from row + node_words) node_words refl) (in-first row (fault-of ∙ z) x.inside x.names)

  pub second-part : (row : ℕ) → r.number ≡ 0 → has_identity a.words k ≡ false → StandingRow b.words k row → LooksUp a b k' (reached b (edges_from row) (edges_from row + node_words))
  second-part row z h x = by_key a b k k' named _ _ (reached-is b (edges_from row) (edges_from row + node_words) node_words refl) (in-second row (fault-of ∙ z) h x.inside x.names)

-- ---- where it stands

module _ (a b : List ℕ) (k k' : Key) (named : k ≡ k') where
  -- by the key that was asked for
  by_asked : (x : Answer) → PlacesIdentity a b k x → PlacesIdentity a b k' x
  by_asked x y = subst (λ (j : Key). PlacesIdentity a b j x) named y

  pub places-none : (r : Refusal) (x : Answer) → r ≡ look_fault a b k → (r.number ≡ 0 → ⊥) → x ≡ refused_by r → PlacesIdentity a b k' x
  places-none r x f z e = by_asked x (refuses (StandsIn a b k) (look_fault a b k) r x f z e)

  places : (x : Answer) (sheet row : ℕ) → look_fault a b k ≡ none → StandsIn a b k sheet row → x ≡ tells sheet row → PlacesIdentity a b k' x
  places x sheet row f st e = by_asked x (subst (λ (y : Answer). PlacesIdentity a b k y) (sym e) (Replies.answered sheet row (ap (λ (r : Refusal). r.number) f) st))

  pub places-first : (x : Answer) (row : ℕ) → look_fault a b k ≡ none → IsStanding a b k (First row) → x ≡ tells 1 row → PlacesIdentity a b k' x
  places-first x row f w e = places x 1 row f (of-first row w.0 w.1) e

  pub places-second : (x : Answer) (row : ℕ) → look_fault a b k ≡ none → IsStanding a b k (Second row) → x ≡ tells 2 row → PlacesIdentity a b k' x
  places-second x row f w e = places x 2 row f (of-second row w.0 w.1 w.2) e

-- by the key that was asked for
pub place-part : (a b : List ℕ) (k k' : Key) (x : Answer) → k ≡ k' → PlacesIdentity a b k x → PlacesIdentity a b k' x
place-part a b k k' x e y = subst (λ (j : Key). PlacesIdentity a b j x) e y

-- a part has four words, or none
pub looked-long : (a b : Part) (k : Key) (p : Part) → LooksUp a b k p → length p.words ≤ 4
looked-long a b k p (refused z) = omega (arith, length-take 0 (drop 0 a.words))
looked-long a b k p (in-first i e l n) = omega (arith, length-take node_words (drop (edges_from i) a.words))
looked-long a b k p (in-second i e h l n) = omega (arith, length-take node_words (drop (edges_from i) b.words))
