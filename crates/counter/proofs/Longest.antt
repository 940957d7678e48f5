-- No path has more categories than there are node rows: its categories are distinct, and each is the number of some row.
-- Assumes nothing.
use Prim.Native.Nat.{ℕ, zero, suc, ◌+◌, ◌*◌, ◌≤◌}
use native.Mathlib.Omega.{arith}
use mathlib.Core.Path.{◌≡◌, refl, sym, ap, subst}
use mathlib.Core.Bool.{Bool, true, false, ◌||◌, cond, false≢true}
use mathlib.Core.List.{List, [], ◌∷◌}
use mathlib.Core.Logic.{◌⊎◌, inl, inr}
use lib.Dec.{eqb}
use lib.ListN.{length}
use borrow.Author.Tests.{eqb-true, eq-eqb, not-true}
use Rattle.tables.specs.Office.{View}
use Rattle.sheet.specs.Limits.{max_nodes}
use Rattle.sheet.specs.Rows.{header_of, node_at}
use Rattle.sheet.specs.Verdict.{verdict}
use Rattle.sheet.specs.Accepted.{Accepted}
use Rattle.sheet.specs.Named.{node_row, seen_at}
use Rattle.sheet.proofs.Naming.{node_seen, ends-seen}
use Rattle.paths.specs.Leads.{among, leads}
use Rattle.sheet.proofs.Accepting.{or-false, accepted}
use Rattle.sheet.proofs.Refusing.{then-good}
use Rattle.paths.proofs.Tests.{and_left, and_right, or_cases, or_left, or_right, either}
use Rattle.paths.proofs.Ways.{first_step}
use Rattle.meaning.specs.Paths.{Side, grant, ban, category, member, step, carries, path, is_path}
use Rattle.meaning.proofs.Spelling.{spelt, spell-long}
use Rattle.meaning.specs.Questions.{WitnessIs}
use Rattle.tables.specs.Count.{some_row}
use Rattle.question.specs.Asked.{plain, after_sheet}
use Rattle.tables.proofs.Counts.{some_at}

-- how many numbers of a list pass
count : (ℕ → Bool) → List ℕ → ℕ
count f [] = 0
count f (c ∷ cs) = cond (f c) 1 0 + count f cs

count-all : (f : ℕ → Bool) (cs : List ℕ) → ((c : ℕ) → among c cs ≡ true → f c ≡ true) → length cs ≤ count f cs
unfolding count
count-all f [] h = omega arith
count-all f (c ∷ cs) h = rw (h c (or_left (eqb c c) _ (eq-eqb c c refl))) (omega (arith, count-all f cs (λ x m. h x (or_right (eqb x c) _ m))))

count_none : (a : ℕ) (cs : List ℕ) → among a cs ≡ false → count (eqb a) cs ≡ 0
unfolding count
count_none a [] e = refl
count_none a (c ∷ cs) e = let q = or-false (eqb a c) (among a cs) e in rw q.0 (omega (arith, count_none a cs q.1))

one-or-other : (a b : Bool) → cond (a || b) 1 0 ≤ cond a 1 0 + cond b 1 0
one-or-other true b = omega arith
one-or-other false b = omega arith

-- a number is that of one of the first n rows
abbrev numbers : (ℕ → ℕ) → ℕ → ℕ → Bool
numbers number n c = some_row (λ i. eqb (number i) c) n

-- numbers of a way, which are distinct
module _ (on : ℕ → ℕ → Bool) (ends : ℕ → Bool) where
  count-once : (a c : ℕ) (cs : List ℕ) → leads on ends c cs ≡ true → count (eqb a) (c ∷ cs) ≤ 1
  unfolding count
  count-once a c [] e = omega (arith, at_most_one (eqb a c))
    where
      at_most_one : (b : Bool) → cond b 1 0 ≤ 1
      at_most_one true = omega arith
      at_most_one false = omega arith
  count-once a c (b ∷ cs) e = go (either (eqb a c)) (count-once a b cs (first_step on ends c b cs e).2)
    where
      apart : eqb a c ≡ true → among a (b ∷ cs) ≡ false
      apart q = subst (λ (x : ℕ). among x (b ∷ cs) ≡ false) (sym (eqb-true a c q)) (not-true (among c (b ∷ cs)) (first_step on ends c b cs e).1)

      go : (eqb a c ≡ true) ⊎ (eqb a c ≡ false) → count (eqb a) (b ∷ cs) ≤ 1 → cond (eqb a c) 1 0 + count (eqb a) (b ∷ cs) ≤ 1
      go (inl q) later = rw q (omega (arith, count_none a (b ∷ cs) (apart q)))
      go (inr q) later = rw q (omega arith)

  -- each row has one number, so they are at most as many as the rows that they are numbers of
  module _ (number : ℕ → ℕ) where
    no_rows : (cs : List ℕ) → count (numbers number 0) cs ≡ 0
    unfolding count some_row
    no_rows [] = refl
    no_rows (c ∷ cs) = omega (arith, no_rows cs)

    row_more : (n : ℕ) (cs : List ℕ) → count (numbers number (suc n)) cs ≤ count (eqb (number n)) cs + count (numbers number n) cs
    unfolding count some_row
    row_more n [] = omega arith
    row_more n (c ∷ cs) = omega (arith, one-or-other (eqb (number n) c) (numbers number n c), row_more n cs)

    at_most : (n c : ℕ) (cs : List ℕ) → leads on ends c cs ≡ true → count (numbers number n) (c ∷ cs) ≤ n
    at_most zero c cs e = omega (arith, no_rows (c ∷ cs))
    at_most (suc n) c cs e = omega (arith, row_more n (c ∷ cs), count-once (number n) c cs e, at_most n c cs e)

    pub as-many-rows : (n c : ℕ) (cs : List ℕ) → leads on ends c cs ≡ true → ((x : ℕ) → among x (c ∷ cs) ≡ true → numbers number n x ≡ true) → length (c ∷ cs) ≤ n
    as-many-rows n c cs e h = omega (arith, count-all (numbers number n) (c ∷ cs) h, at_most n c cs e)

-- ---- a path at an office of an accepted sheet

module _ (s : List ℕ) (acc : Accepted s) (office : ℕ) (side : Side) where
  abbrev g : View
  g = seen_at s office

  -- a category that the office sees has a row
  category-row : (c : ℕ) → g.node (category c) ≡ true → numbers (λ i. (node_at s i).number) (header_of s).nodes c ≡ true
  unfolding node_row
  category-row c e =
      let r = node_seen s acc office (category c) e in
      let n : (node_at s r.row).number ≡ c = cc r.names in
      some_at (λ i. eqb (node_at s i).number c) (header_of s).nodes r.row r.inside (eq-eqb _ c n)

  stepped-to : (side : Side) (a b : ℕ) → step g side a b ≡ true → g.node (category b) ≡ true
  stepped-to grant a b e = (ends-seen s acc office 2 2 a 0 2 b 0 e).1
  stepped-to ban a b e = (ends-seen s acc office 2 2 b 0 2 a 0 e).0

  this : (x c : ℕ) → g.node (category c) ≡ true → {t : Bool} → (eqb x c ≡ true) ⊎ (t ≡ true) → (t ≡ true → g.node (category x) ≡ true) → g.node (category x) ≡ true
  this x c h (inl q) later = subst (λ (y : ℕ). g.node (category y) ≡ true) (sym (eqb-true x c q)) h
  this x c h (inr q) later = later q

  -- each category of a way is seen
  all_seen : (ends : ℕ → Bool) (c : ℕ) (cs : List ℕ) → g.node (category c) ≡ true → leads (step g side) ends c cs ≡ true → (x : ℕ) → among x (c ∷ cs) ≡ true → g.node (category x) ≡ true
  all_seen ends c [] h e x m = this x c h (or_cases (eqb x c) false m) (λ q. absurd (false≢true q))
  all_seen ends c (b ∷ cs) h e x m =
      let f = first_step (step g side) ends c b cs e in
      this x c h (or_cases (eqb x c) (among x (b ∷ cs)) m) (all_seen ends b cs (stepped-to side c b f.0) f.2 x)

  pub path-short : (p d f : ℕ) (ws : List ℕ) → is_path g side p d f ws ≡ true → length ws ≤ 6 + 2 * (header_of s).nodes
  unfolding path
  path-short p d f ws e =
      let w = spelt g side p d f ws e in
      let n = ap length w.words in
      let m = spell-long p w.categories d w.variant f in
      omega (arith, few w.categories w.variant w.leads-on)
    where
      few : (cs : List ℕ) (v : ℕ) → path g side p d f cs v ≡ true → length cs ≤ (header_of s).nodes
      few [] v q = omega arith
      few (c ∷ cs) v q =
          let m = and_left (member g p c) _ q in
          let l = and_right (member g p c) _ q in
          as-many-rows (step g side) (carries g side d v f) (λ i. (node_at s i).number) (header_of s).nodes c cs l
          (λ x y. category-row x (all_seen (carries g side d v f) c cs (ends-seen s acc office 1 1 p 0 2 c 0 m).1 l x y))

-- so no witness of a sheet that is not refused has more words than are kept for one
pub witness-fits : (s : List ℕ) (k office : ℕ) (side : Side) (p d f : ℕ) (ws : List ℕ) → (after_sheet s k).number ≡ 0 → WitnessIs (seen_at s office) side p d f ws → length ws ≤ 2 * (max_nodes + 3)
unfolding after_sheet
witness-fits s k office side p d f ws z w =
    let acc = accepted 1 s (then-good (verdict 1 s) (plain k) z).0 in
    let most = acc.nodes.header.nodes in
    omega (arith, path-short s acc office side p d f ws w.holds)
