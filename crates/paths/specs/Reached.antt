-- Steps by the rows of a table: a table is told by which rows count, and by the node that a row leaves and the one that it enters.
-- Assumes nothing.
use Rattle.std.specs.Prelude.{ℕ, zero, suc, ◌+◌, ◌<◌, ◌≤◌, ◌≡◌, Bool, true, List, [], ◌∷◌, ◌⊎◌, length, get_or}

-- one step from a to b, by a row below the limit
pub record Via (on : ℕ → Bool) (near far : ℕ → ℕ) (limit a b : ℕ) : Type 0 where
  pub row : ℕ
  pub inside : row < limit
  pub is : on row ≡ true
  pub leaves : near row ≡ a
  pub enters : far row ≡ b

-- i is reached from a start in n steps
pub data Reached (R : ℕ → ℕ → Type 0) (S : ℕ → Type 0) : ℕ → ℕ → Type 0 where
  start : {i : ℕ} → S i → Reached R S 0 i
  then : {n a i : ℕ} → Reached R S n a → R a i → Reached R S (suc n) i

-- d numbers the nodes by distance: 0 for one that no start reaches, and else one more than the fewest steps
pub record Layers (R : ℕ → ℕ → Type 0) (S : ℕ → Type 0) (d : List ℕ) : Type 0 where
  pub sound : (i n : ℕ) → get_or d i 0 ≡ suc n → Reached R S n i
  pub least : (i n : ℕ) → Reached R S n i → (0 < get_or d i 0) × (get_or d i 0 ≤ suc n)

-- the starts are the nodes that are numbered 1
abbrev pub Starts : List ℕ → ℕ → Type 0
Starts d i = get_or d i 0 ≡ 1

-- d is d₀ after each step from a node numbered v has numbered its end v + 1, unless it had a number
pub record Spread (R : ℕ → ℕ → Type 0) (v : ℕ) (d₀ d : List ℕ) : Type 0 where
  pub kept : (i : ℕ) → 0 < get_or d₀ i 0 → get_or d i 0 ≡ get_or d₀ i 0
  pub new : (i : ℕ) → get_or d₀ i 0 ≡ 0 → (get_or d i 0 ≡ 0) ⊎ ((get_or d i 0 ≡ suc v) × ((a : ℕ) × (get_or d₀ a 0 ≡ v) × R a i))
  pub all : (a i : ℕ) → R a i → get_or d₀ a 0 ≡ v → 0 < get_or d i 0

-- how many nodes have no number
unfoldable pub zeros : List ℕ → ℕ
zeros [] = 0
zeros (zero ∷ l) = suc (zeros l)
zeros (suc n ∷ l) = zeros l

-- node i waits in the queue q, at a place from lo up to hi
pub record Queued (q : List ℕ) (lo hi i : ℕ) : Type 0 where
  pub place : ℕ
  pub from : lo ≤ place
  pub below : place < hi
  pub is : get_or q place 0 ≡ i

-- the nodes below the limit that are numbered v wait from lo up to hi, and the queue has room for every node that has no number
pub record Waiting (limit v : ℕ) (d q : List ℕ) (lo hi : ℕ) : Type 0 where
  pub all : (i : ℕ) → i < limit → get_or d i 0 ≡ v → Queued q lo hi i
  pub inside : (k : ℕ) → lo ≤ k → k < hi → get_or q k 0 < limit
  pub room : hi + zeros d ≤ length q

-- steps from one node
abbrev pub From : ℕ → (ℕ → ℕ → Type 0) → ℕ → ℕ → Type 0
From at R a b = (a ≡ at) × R a b

-- the steps from the nodes numbered v were taken, and the nodes that got a number, and no others, came behind the n₀ that waited: now n wait
pub record Round (R : ℕ → ℕ → Type 0) (v : ℕ) (d₀ q₀ : List ℕ) (n₀ : ℕ) (d q : List ℕ) (n : ℕ) : Type 0 where
  pub spread : Spread R v d₀ d
  pub long : length d ≡ length d₀
  pub queue : length q ≡ length q₀
  pub count : n + zeros d ≡ n₀ + zeros d₀
  pub grows : n₀ ≤ n
  pub front : (k : ℕ) → k < n₀ → get_or q k 0 ≡ get_or q₀ k 0
  pub came : (i : ℕ) → get_or d₀ i 0 ≡ 0 → 0 < get_or d i 0 → Queued q n₀ n i
  pub led : (k : ℕ) → n₀ ≤ k → k < n → (a : ℕ) × R a (get_or q k 0)

-- r is the least node that a step leads to from a and that is numbered w; no node stands at the limit
pub record LeastNext (limit : ℕ) (R : ℕ → ℕ → Type 0) (d : List ℕ) (a w r : ℕ) : Type 0 where
  pub most : r ≤ limit
  pub found : r < limit → (get_or d r 0 ≡ w) × R a r
  pub low : (b : ℕ) → R a b → get_or d b 0 ≡ w → r ≤ b
