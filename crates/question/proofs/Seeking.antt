-- Rows of one type and number are neighbours: none stands before the place of the two, and none behind the first row from there that has others.
-- Assumes nothing.
use Prim.Native.Nat.{ℕ, ◌<◌, ◌≤◌}
use mathlib.Core.Path.{◌≡◌, refl, sym, ap, subst, ◌∙◌}
use mathlib.Core.Bool.{Bool, true, false, not, ◌||◌, true≢false}
use mathlib.Core.List.{List, [], ◌∷◌}
use native.Mathlib.Omega.{arith}
use native.Mathlib.Decide.{dec_lt}
use borrow.Author.Tests.{eq-eqb}
use lib.Dec.{eqb}
use Rattle.std.specs.Prelude.{Result, Ok, Err}
use Rattle.tables.specs.Key.{identity, below_key}
use Rattle.tables.proofs.Keys.{Ahead, first, rest, ahead, behind, rises}
use Rattle.tables.proofs.Counts.{some-none, seek-known, first-standing-one}
use Rattle.sheet.specs.declared.Node.{Node}
use Rattle.sheet.specs.Accepted.{RowsRise}
use Rattle.sheet.specs.Found.{PlaceIs, row_told}
use Rattle.sheet.specs.Rows.{node_at, node_key_at}
use Rattle.sheet.proofs.Places.{place-one}
use Rattle.question.specs.Asked.{stands, SoughtIn}
use Rattle.question.proofs.Known.{found-class}

-- no key of a type and number is lower than theirs without a variant
not_lower : (class number v : ℕ) → below_key (identity class number v) (identity class number 0) ≡ true → ⊥
not_lower class number v e = one (ahead class class _ _ e)
  where
    three : Ahead v 0 [] [] → ⊥
    three (first l) = omega (arith, l)
    three (rest d l) = true≢false (sym l)

    two : Ahead number number (v ∷ []) (0 ∷ []) → ⊥
    two (first l) = omega (arith, l)
    two (rest d l) = three (ahead v 0 [] [] l)

    one : Ahead class class (number ∷ v ∷ []) (number ∷ 0 ∷ []) → ⊥
    one (first l) = omega (arith, l)
    one (rest d l) = two (ahead number number (v ∷ []) (0 ∷ []) l)

-- a key that is not lower than these, and lower than one of them with a variant, is of their type and number
same-two : (c m w class number v : ℕ) → below_key (identity c m w) (identity class number 0) ≡ false → below_key (identity c m w) (identity class number v) ≡ true → (c ≡ class) × (m ≡ number)
same-two c m w class number v n e = one (ahead c class _ _ e)
  where
    two : c ≡ class → Ahead m number (w ∷ []) (v ∷ []) → (c ≡ class) × (m ≡ number)
    two d (first l) = absurd (true≢false (sym (behind c class (m ∷ w ∷ []) (number ∷ 0 ∷ []) (rest d (behind m number (w ∷ []) (0 ∷ []) (first l)))) ∙ n))
    two d (rest q l) = (d, q)

    one : Ahead c class (m ∷ w ∷ []) (number ∷ v ∷ []) → (c ≡ class) × (m ≡ number)
    one (first l) = absurd (true≢false (sym (behind c class (m ∷ w ∷ []) (number ∷ 0 ∷ []) (first l)) ∙ n))
    one (rest d l) = two d (ahead m number (w ∷ []) (v ∷ []) l)

-- the test by which the search ends
pub other_row : (s : List ℕ) (i class number : ℕ) (r : Node) → r ≡ node_at s i → (not (eqb r.class class) || not (eqb r.number number)) ≡ true
    → (node_at s i).class ≡ class → (node_at s i).number ≡ number → ⊥
other_row s i class number r q e c m = true≢false (sym e ∙ rw (q, eq-eqb (node_at s i).class class c, eq-eqb (node_at s i).number number m) refl)

module _ (s : List ℕ) (any : Bool) (office class number : ℕ) where
  stands-not : (i : ℕ) → ((node_at s i).class ≡ class → (node_at s i).number ≡ number → ⊥) → stands s any office class number i ≡ false
  stands-not i h = go (stands s any office class number i) refl
    where
      go : (b : Bool) → stands s any office class number i ≡ b → b ≡ false
      go true e = let (c, m) = found-class s any office class number i e in absurd (h c m)
      go false e = refl

  module _ (n i : ℕ) (p : PlaceIs (node_key_at s) n (identity class number 0) i) where
    pub none_before_lem : (j : ℕ) → j < i → stands s any office class number j ≡ false
    none_before_lem j l =
        stands-not j (λ c m. not_lower class number (node_at s j).variant (subst (λ (x : ℕ). below_key (identity class x (node_at s j).variant) (identity class number 0) ≡ true) m (subst (λ (x : ℕ). below_key (identity x (node_at s j).number (node_at s j).variant) (identity class number 0) ≡ true) c (p.before j l))))

    module _ (up : RowsRise (node_key_at s) n) (k : ℕ) (from : i ≤ k) (h : k < n) (other : (node_at s k).class ≡ class → (node_at s k).number ≡ number → ⊥) where
      pub none-behind : (j : ℕ) → k ≤ j → j < n → stands s any office class number j ≡ false
      none-behind j l m = stands-not j (λ c d. go c d (dec_lt k j))
        where
          go : (node_at s j).class ≡ class → (node_at s j).number ≡ number → Dec (k < j) → ⊥
          go c d (no x) = let z : j ≡ k = omega arith in other (subst (λ (y : ℕ). (node_at s y).class ≡ class) z c) (subst (λ (y : ℕ). (node_at s y).number ≡ number) z d)
          go c d (yes x) =
              let v = (node_at s j).variant in
              let e = rises (node_key_at s) n up k j x m in
              let q = subst (λ (y : ℕ). below_key (node_key_at s k) (identity class y v) ≡ true) d (subst (λ (y : ℕ). below_key (node_key_at s k) (identity y (node_at s j).number v) ≡ true) c e) in
              let (a, b) = same-two (node_at s k).class (node_at s k).number (node_at s k).variant class number v (p.after k from h) q in
              other a b

-- ---- what a search tells

module _ (s : List ℕ) (any : Bool) (office class number n : ℕ) where
  pub search-met : (k : ℕ) → k < n → ((j : ℕ) → j < k → stands s any office class number j ≡ false) → stands s any office class number k ≡ true → SoughtIn s any office class number n (Ok k)
  search-met k h before e = (h, record { most = omega arith; before = before; found = λ l. e })

  module _ (i : ℕ) (p : PlaceIs (node_key_at s) n (identity class number 0) i) (k : ℕ) (before : (j : ℕ) → j < k → stands s any office class number j ≡ false) where
    -- all rows were passed
    pub search-passed : n ≤ k → SoughtIn s any office class number n (Err i)
    search-passed h = (some-none _ n (λ j l. before j (omega arith)), p)

    -- the search ends here, and nothing stands
    pub search-left : RowsRise (node_key_at s) n → i ≤ k → k < n → ((node_at s k).class ≡ class → (node_at s k).number ≡ number → ⊥) → SoughtIn s any office class number n (Err i)
    search-left up from h other = (some-none _ n (λ j l. go j l (dec_lt j k)), p)
      where
        go : (j : ℕ) → j < n → Dec (j < k) → stands s any office class number j ≡ false
        go j l (yes x) = before j x
        go j l (no x) = none-behind s any office class number n i p up k from h other j (omega arith) l

  -- wherever it ends, a search tells a row or the end of them
  pub search-inside : (r : Result ℕ ℕ) → SoughtIn s any office class number n r → row_told r ≤ n
  search-inside (Ok i) x = omega (arith, x.0)
  search-inside (Err i) x = x.1.inside

  -- any two results of a search are equal
  pub search-one : RowsRise (node_key_at s) n → (r q : Result ℕ ℕ) → SoughtIn s any office class number n r → SoughtIn s any office class number n q → r ≡ q
  search-one up (Ok i) (Ok j) x y = ap Ok (first-standing-one _ n _ _ x.1 y.1)
  search-one up (Ok i) (Err j) x y = absurd (true≢false (sym (seek-known _ n i x.1 x.0) ∙ y.0))
  search-one up (Err i) (Ok j) x y = absurd (true≢false (sym (seek-known _ n j y.1 y.0) ∙ x.0))
  search-one up (Err i) (Err j) x y = ap Err (place-one (node_key_at s) n up (identity class number 0) _ _ x.1 y.1)
