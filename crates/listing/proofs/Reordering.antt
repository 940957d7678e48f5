-- The order of the lines does not matter: of lines in another order as many pass any test, and what refuses lines, and what they mean, are counts of them.
-- Assumes nothing.
use Prim.Native.Nat.{ℕ, zero, suc, ◌+◌, ◌<◌, ◌≤◌}
use mathlib.Core.Path.{◌≡◌, refl, sym, ap, subst, ◌∙◌}
use mathlib.Core.Bool.{Bool, true, false, not, ◌||◌, true≢false}
use mathlib.Core.List.{List, [], ◌∷◌, ◌++◌}
use native.Mathlib.Omega.{arith}
use native.Mathlib.Decide.{ℕ_discrete}
use lib.Dec.{ltb}
use lib.ListN.{length}
use borrow.Author.Tests.{lt-ltb, eqb-true, eq-eqb, not-false}
use Rattle.tables.specs.Count.{number_of, how_many, some_row}
use Rattle.tables.proofs.Counts.{many-next, many-none, many-rises, some-none}
use Rattle.tables.proofs.Keys.{same_refl, same-eq, eq-same}
use Rattle.sheet.specs.Limits.{max_nodes, max_edges}
use Rattle.sheet.specs.declared.Refusal.{Refusal}
use Rattle.sheet.specs.Refusals.{◌is◌, ◌below◌, ◌when◌otherwise◌, none}
use Rattle.sheet.proofs.Writing.{gives-refused, gives_one, gives_as}
use Rattle.lines.specs.declared.Line.{Line}
use Rattle.lines.specs.Nine.{characters}
use Rattle.lines.specs.Naming.{is_node_line, from_line, to_line, same_line, line_key}
use Rattle.listing.specs.declared.Listing.{Listing}
use Rattle.listing.specs.Cut.{begun, each_said, unended, cut_up, lines_said, line_at}
use Rattle.listing.specs.Faults.{says_this, node_lines, edge_lines, count_fault, listing_fault}
use Rattle.listing.specs.LineByLine.{own_fault, lacks_end}
use Rattle.listing.specs.Meant.{some_line, names_node, names_edge, Means}
use Rattle.listing.specs.Promises.{refusal_in, GivesListing, ReadsListing}
use Rattle.listing.specs.Reordered.{Reordered, empty, behind, exchanged, onward, SameLines, ReadAlike, both-refuse, the_same}
use Rattle.listing.proofs.Giving.{listing-one}
use Rattle.listing.proofs.Meaning.{means-one}
use Rattle.listing.proofs.Unrefused.{Unrefused, false-at, unrefused, unrefused-none}

-- ---- counts

-- how many of the lines pass
abbrev lines_that : (Line → Bool) → List Line → ℕ
lines_that test [] = 0
lines_that test (l ∷ ls) = number_of (test l) + lines_that test ls

count-first : (p : ℕ → Bool) (n : ℕ) → how_many p (suc n) ≡ number_of (p 0) + how_many (λ i. p (suc i)) n
unfolding how_many
count-first p zero = omega arith
count-first p (suc n) = omega (arith, count-first p n)

lines-counted : (test : Line → Bool) (ls : List Line) → how_many (λ i. test (line_at ls i)) (length ls) ≡ lines_that test ls
unfolding how_many
lines-counted test [] = refl
lines-counted test (l ∷ ls) = count-first (λ i. test (line_at (l ∷ ls) i)) (length ls) ∙ ap (λ (n : ℕ). number_of (test l) + n) (lines-counted test ls)

some-counted : (p : ℕ → Bool) (n : ℕ) → some_row p n ≡ ltb 0 (how_many p n)
unfolding some_row how_many
some-counted p zero = refl
some-counted p (suc n) = go (p n) (some-counted p n)
  where
    go : (b : Bool) → some_row p n ≡ ltb 0 (how_many p n) → (b || some_row p n) ≡ ltb 0 (how_many p n + number_of b)
    go true e = sym (lt-ltb 0 (how_many p n + 1) (omega arith))
    go false e = let z : how_many p n ≡ how_many p n + 0 = omega arith in e ∙ ap (ltb 0) z

-- one passes at most, or two do
many-single : (p : ℕ → Bool) (n : ℕ) → ((x y : ℕ) → x < y → y < n → p x ≡ true → p y ≡ true → ⊥) → how_many p n ≤ 1
unfolding how_many
many-single p zero h = omega arith
many-single p (suc n) h = go (p n) refl (many-single p n (λ x y l m. h x y l (omega arith)))
  where
    go : (b : Bool) → p n ≡ b → how_many p n ≤ 1 → how_many p n + number_of b ≤ 1
    go true e more = let z = many-none p n (λ x l. off x l (p x) refl) in omega arith
      where
        off : (x : ℕ) → x < n → (b : Bool) → p x ≡ b → b ≡ false
        off x l true q = absurd (h x n l (omega arith) q e)
        off x l false q = refl
    go false e more = omega arith

many-double : (p : ℕ → Bool) (n x y : ℕ) → x < y → y < n → p x ≡ true → p y ≡ true → 1 < how_many p n
many-double p n x y l h e q = omega (arith, many-next p x, ap number_of e, many-rises p (x + 1) y (omega arith), many-next p y, ap number_of q, many-rises p (y + 1) n (omega arith))

-- two lines that say what a third says
both-same : (a b l : Line) → same_line a l ≡ true → same_line b l ≡ true → same_line a b ≡ true
both-same a b l e q = eq-same (line_key a) (line_key b) (same-eq (line_key a) (line_key l) e ∙ sym (same-eq (line_key b) (line_key l) q))

-- ---- lines of which as many pass any test

abbrev SameCounts : List Line → List Line → Type 0
SameCounts ls ms = (test : Line → Bool) → lines_that test ls ≡ lines_that test ms

module _ (ls ms : List Line) (c : SameCounts ls ms) where
  many-alike : (test : Line → Bool) → how_many (λ i. test (line_at ls i)) (length ls) ≡ how_many (λ i. test (line_at ms i)) (length ms)
  many-alike test = lines-counted test ls ∙ c test ∙ sym (lines-counted test ms)

  some_alike : (test : Line → Bool) → some_line test ls ≡ some_line test ms
  some_alike test = some-counted _ (length ls) ∙ ap (ltb 0) (many-alike test) ∙ sym (some-counted _ (length ms))

  none_alike : (test : Line → Bool) → ((i : ℕ) → i < length ls → test (line_at ls i) ≡ false) → (i : ℕ) → i < length ms → test (line_at ms i) ≡ false
  none_alike test h i l = false-at _ (length ms) i l (sym (some_alike test) ∙ some-none _ (length ls) h)

  -- the same lines are there
  says-alike : (l : Line) → says_this ls (length ls) l ≡ says_this ms (length ms) l
  unfolding says_this
  says-alike l = some_alike (λ m. same_line m l)

  lacks-alike : (l : Line) → lacks_end ls (length ls) l ≡ lacks_end ms (length ms) l
  lacks-alike l = rw (says-alike (from_line l), says-alike (to_line l)) refl

  unrefused-alike : Unrefused ls → Unrefused ms
  unfolding count_fault node_lines edge_lines
  unrefused-alike u =
      record {
        own = λ i h. eqb-true _ 0 (not-false _ (none_alike (λ l. not (own_fault l is 0)) (λ j g. ap not (eq-eqb _ 0 (u.own j g))) i h));
        once = λ i j g h. apart i j g h (same_line (line_at ms j) (line_at ms i)) refl;
        ends = λ i h. sym (lacks-alike (line_at ms i)) ∙ none_alike (lacks_end ls (length ls)) u.ends i h;
        few = (λ k. 4 when max_nodes below sym (many-alike is_node_line) k || max_edges 1 below sym (many-alike (λ l. not (is_node_line l))) k otherwise 0) ∙ u.few;
      }
    where
      single : (l : Line) → how_many (λ i. same_line (line_at ls i) l) (length ls) ≤ 1
      single l = many-single (λ i. same_line (line_at ls i) l) (length ls) (λ x y g h e q. true≢false (sym (both-same (line_at ls x) (line_at ls y) l e q) ∙ u.once y x g h))

      apart : (i j : ℕ) → j < i → i < length ms → (b : Bool) → same_line (line_at ms j) (line_at ms i) ≡ b → b ≡ false
      apart i j g h true e =
          absurd (omega (arith, single (line_at ms i), many-alike (λ m. same_line m (line_at ms i)), many-double (λ k. same_line (line_at ms k) (line_at ms i)) (length ms) j i g h e (same_refl (line_key (line_at ms i)))))
      apart i j g h false e = refl

  means-alike : (s : List ℕ) → Means ls s → Means ms s
  means-alike s m =
      record {
        accepted = m.accepted;
        one-office = m.one-office;
        nodes = λ k. m.nodes k ∙ some_alike (names_node k);
        edges = λ k. m.edges k ∙ some_alike (names_edge k);
      }

-- ---- the same lines in another order

lines-append : (test : Line → Bool) (ls ms : List Line) → lines_that test (ls ++ ms) ≡ lines_that test ls + lines_that test ms
lines-append test [] ms = omega arith
lines-append test (l ∷ ls) ms = omega (arith, lines-append test ls ms)

reordered-counts : {ls ms : List (List ℕ)} → Reordered ls ms → SameCounts (each_said ls) (each_said ms)
reordered-counts empty test = refl
reordered-counts (behind r) test = omega (arith, reordered-counts r test)
reordered-counts exchanged test = omega arith
reordered-counts (onward r q) test = reordered-counts r test ∙ reordered-counts q test

text-counts : (text text' : List ℕ) → SameLines text text' → SameCounts (lines_said text) (lines_said text')
unfolding lines_said
text-counts text text' r test =
    lines-append test (each_said (cut_up text).ended) (unended (cut_up text).left)
    ∙ (λ i. reordered-counts r.ended test i + lines_that test (unended (r.left i)))
    ∙ sym (lines-append test (each_said (cut_up text').ended) (unended (cut_up text').left))

-- and back
reordered-back : {ls ms : List (List ℕ)} → Reordered ls ms → Reordered ms ls
reordered-back empty = empty
reordered-back (behind r) = behind (reordered-back r)
reordered-back exchanged = exchanged
reordered-back (onward r q) = onward (reordered-back q) (reordered-back r)

module _ (text text' : List ℕ) (r : SameLines text text') where
  pub same-lines-back : SameLines text' text
  same-lines-back = record { ended = reordered-back r.ended; left = sym r.left }

  -- where nothing refuses one, nothing refuses the other ..
  pub order-refuses : (listing_fault text).number ≡ 0 → (listing_fault text').number ≡ 0
  order-refuses e = ap (λ (v : Refusal). v.number) (unrefused-none _ (unrefused-alike _ _ (text-counts text text' r) (unrefused _ e)))

  -- .. and whatever sheet one means, the other means
  pub order-means : (s : List ℕ) → Means (lines_said text) s → Means (lines_said text') s
  order-means = means-alike _ _ (text-counts text text' r)

-- ---- reading

module _ (text out : List ℕ) (a : Listing) (o : List ℕ) (x : ReadsListing text out a o) where
  -- a refused text: the reply is a refusal, and nothing is written
  text-refused : ((listing_fault text).number ≡ 0 → ⊥) → (a.number ≡ 0 → ⊥) × (o ≡ out)
  text-refused h =
      let w = gives_one x.sheet out (listing_fault text) (refusal_in a) (listing_fault text) a.count 0 o out x.gives (gives-refused x.sheet out (listing_fault text) h) in
      (λ z. h (ap (λ (v : Refusal). v.number) (sym w.0) ∙ z), w.2)

  -- a text that is read: the reply and the output are those of its sheet
  text-read : (listing_fault text).number ≡ 0 → GivesListing none x.sheet out a o
  text-read e = gives_as _ _ x.sheet out (refusal_in a) a.count o (unrefused-none _ (unrefused _ e)) x.gives

-- two texts with the same lines in another order, read into the same output: both are refused, or the reply and the output are the same
pub order-free : (text text' out : List ℕ) → SameLines text text' → (a b : Listing) (o o' : List ℕ) → ReadsListing text out a o → ReadsListing text' out b o' → ReadAlike out a b o o'
order-free text text' out r a b o o' x y = go (ℕ_discrete (listing_fault text).number 0)
  where
    go : Dec ((listing_fault text).number ≡ 0) → ReadAlike out a b o o'
    go (yes e) =
        let e' = order-refuses text text' r e in
        let s : x.sheet ≡ y.sheet = means-one (lines_said text') x.sheet y.sheet (order-means text text' r x.sheet (x.means e)) (y.means e') in
        let g = listing-one none y.sheet out a b o o' (subst (λ (w : List ℕ). GivesListing none w out a o) s (text-read text out a o x e)) (text-read text' out b o' y e') in
        the_same g.0 g.1
    go (no h) =
        let u = text-refused text out a o x h in
        let v = text-refused text' out b o' y (λ e. h (order-refuses text' text (same-lines-back text text' r) e)) in
        both-refuse u.0 v.0 u.1 v.1

-- person 11 and then category 21, or the other way round
pub either_first : SameLines (characters "person 11" ++ 10 ∷ characters "category 21" ++ 10 ∷ []) (characters "category 21" ++ 10 ∷ characters "person 11" ++ 10 ∷ [])
unfolding cut_up begun
either_first = record { ended = exchanged; left = refl }
