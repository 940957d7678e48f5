-- What has no least has none: words of one length can't go down for ever in dictionary order, nor lists by their lengths.
-- Assumes nothing.
use Prim.Native.Nat.{ℕ, zero, suc, ◌<◌}
use mathlib.Core.Path.{◌≡◌, refl, sym, subst, ◌∙◌}
use mathlib.Core.Bool.{Bool, true, false, true≢false, ◌&&◌}
use mathlib.Core.Logic.{◌↔◌, ◌⊎◌, inl, inr}
use mathlib.Core.List.{List, [], ◌∷◌}
use native.Mathlib.Omega.{arith}
use lib.Dec.{eqb, ltb}
use borrow.Author.Tests.{ltb-true, eqb-true}
use lib.ListN.{length}
use Rattle.tables.specs.Key.{below_key}
use Rattle.tables.proofs.Keys.{Ahead, first, rest, ahead}
use Rattle.paths.proofs.Tests.{and_left, and_right, or_cases}
use Rattle.meaning.specs.Forms.{FirstIs, fewer}
use Rattle.demands.specs.Demands.{NoSuch}

-- there are no words of P before xs
abbrev NoneBefore : (List ℕ → List ℕ → Bool) → (List ℕ → Type 0) → List ℕ → Type 0
NoneBefore before P xs = (ys : List ℕ) → before ys xs ≡ true → P ys → ⊥

-- words with none before them are the first
first-is : (before : List ℕ → List ℕ → Bool) (P : List ℕ → Type 0) (xs : List ℕ) → P xs → NoneBefore before P xs → FirstIs before P xs
first-is before P xs p none = record { holds = p; first = λ ys q. go ys q (before ys xs) refl }
  where
    go : (ys : List ℕ) → P ys → (b : Bool) → before ys xs ≡ b → before ys xs ≡ false
    go ys q true e = absurd (none ys e q)
    go ys q false e = e

-- no words of P have none of the same length before them in dictionary order
abbrev NoLowest : (List ℕ → Type 0) → Type 0
NoLowest P = (xs : List ℕ) → P xs → ((ys : List ℕ) → length ys ≡ length xs → below_key ys xs ≡ true → P ys → ⊥) → ⊥

-- words before x ∷ zs start with a lower number, or with x and go on before zs
before_head : (n : ℕ) (P : List ℕ → Type 0) (x : ℕ) → ((y : ℕ) → y < x → (ys : List ℕ) → length ys ≡ n → P (y ∷ ys) → ⊥) → (zs : List ℕ) → length zs ≡ n
    → ((ys : List ℕ) → length ys ≡ length zs → below_key ys zs ≡ true → P (x ∷ ys) × (length ys ≡ n) → ⊥)
    → (ys : List ℕ) → length ys ≡ length (x ∷ zs) → below_key ys (x ∷ zs) ≡ true → P ys → ⊥
before_head n P x under zs e none [] f b r = absurd (omega (arith, f))
before_head n P x under zs e none (y ∷ ys) f b r = go (ahead y x ys zs b)
  where
    go : Ahead y x ys zs → ⊥
    go (first h) = under y h ys (omega (arith, f, e)) r
    go (rest h k) = none ys (omega (arith, f)) k (subst (λ (z : ℕ). P (z ∷ ys)) h r, omega (arith, f, e))

-- then none that start with a number below m, by the same for words one shorter
heads : (n : ℕ) → ((Q : List ℕ → Type 0) → NoLowest Q → (xs : List ℕ) → length xs ≡ n → Q xs → ⊥)
    → (P : List ℕ → Type 0) → NoLowest P → (m x : ℕ) → x < m → (xs : List ℕ) → length xs ≡ n → P (x ∷ xs) → ⊥
heads n shorter P un zero x l xs e p = absurd (omega (arith, l))
heads n shorter P un (suc m) x l xs e p =
    shorter (λ zs. P (x ∷ zs) × (length zs ≡ n))
    (λ zs q none. un (x ∷ zs) q.0 (before_head n P x (λ y h. heads n shorter P un m y (omega (arith, h, l))) zs q.1 none)) xs e (p, e)

-- so there are none of any length
pub none-lowest : (n : ℕ) (P : List ℕ → Type 0) → NoLowest P → (xs : List ℕ) → length xs ≡ n → P xs → ⊥
none-lowest zero P un [] e p = un [] p (λ ys f b q. nothing ys f b)
  where
    nothing : (ys : List ℕ) → length ys ≡ 0 → below_key ys [] ≡ true → ⊥
    nothing [] f b = true≢false (sym b)
    nothing (y ∷ ys) f b = true≢false (sym b)
none-lowest zero P un (x ∷ xs) e p = absurd (omega (arith, e))
none-lowest (suc n) P un [] e p = absurd (omega (arith, e))
none-lowest (suc n) P un (x ∷ xs) e p = heads n (none-lowest n) P un (suc x) x (omega arith) xs (omega (arith, e)) p

-- words with fewer nodes are shorter; or as long, and before in dictionary order
before-fewer : (P : List ℕ → Type 0) (n : ℕ) → ((ys : List ℕ) → length ys < n → P ys → ⊥) → (zs : List ℕ) → length zs ≡ n
    → ((ys : List ℕ) → length ys ≡ length zs → below_key ys zs ≡ true → P ys × (length ys ≡ n) → ⊥) → NoneBefore fewer P zs
before-fewer P n under zs e none ys b r = go (or_cases _ _ b)
  where
    go : (ltb (length ys) (length zs) ≡ true) ⊎ ((eqb (length ys) (length zs) && below_key ys zs) ≡ true) → ⊥
    go (inl h) = let k = ltb-true (length ys) (length zs) h in under ys (omega (arith, k, e)) r
    go (inr h) = let k = eqb-true (length ys) (length zs) (and_left _ _ h) in none ys k (and_right (eqb (length ys) (length zs)) _ h) (r, k ∙ e)

-- no words of P have none before them by their number of nodes and then in dictionary order: then there are none
none-fewest : (P : List ℕ → Type 0) → ((xs : List ℕ) → P xs → NoneBefore fewer P xs → ⊥) → (n : ℕ) (xs : List ℕ) → length xs < n → P xs → ⊥
none-fewest P un zero xs l p = absurd (omega (arith, l))
none-fewest P un (suc n) xs l p =
    none-lowest (length xs) (λ zs. P zs × (length zs ≡ length xs))
    (λ zs q none. un zs q.0 (before-fewer P (length xs) (λ ys h. none-fewest P un n ys (omega (arith, h, l))) zs q.1 none)) xs refl (p, refl)

-- where there is no first, there is none, and the other way round: of words in the order of paths
pub none_first : (P : List ℕ → Type 0) → NoSuch (FirstIs fewer P) ↔ NoSuch P
none_first P = (λ un ws p. none-fewest P (λ xs q none. un xs (first-is fewer P xs q none)) (suc (length ws)) ws (omega arith) p, λ none ws x. none ws x.holds)

-- and of words that are all of one length
pub none-least : (n : ℕ) (P : List ℕ → Type 0) → ((ws : List ℕ) → P ws → length ws ≡ n) → NoSuch (FirstIs below_key P) ↔ NoSuch P
none-least n P long = (
  λ un ws p. none-lowest n P (λ xs q none. un xs (first-is below_key P xs q (λ ys b r. none ys (long ys r ∙ sym (long xs q)) b r))) ws (long ws p) p,
  λ none ws x. none ws x.holds,
)
