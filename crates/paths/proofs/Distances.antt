-- Distances over any relation: a round of spreading takes the layers up to r to the layers up to r + 1, and a round that changes nothing shows that all are there.
-- Assumes nothing.
use mathlib.Core.Path.{◌≡◌, refl, ap, subst, ◌∙◌}
use mathlib.Core.List.{List}
use mathlib.Core.Logic.{◌⊎◌, inl, inr, ⊎_elim}
use Prim.Native.Nat.{ℕ, zero, suc, ◌+◌, ◌<◌, ◌≤◌}
use native.Mathlib.Nat.{eq-or-lt_of_le}
use native.Mathlib.Omega.{arith}
use lib.ListN.{get_or}
use Rattle.paths.specs.Reached.{Reached, start, then, Layers, Spread}

-- a number is 0 or a successor
pub zero_or : (n : ℕ) → (n ≡ 0) ⊎ ((m : ℕ) × (n ≡ suc m))
zero_or zero = inl refl
zero_or (suc m) = inr (m, refl)

module _ (R : ℕ → ℕ → Type 0) (S : ℕ → Type 0) where
  pub record Upto (r : ℕ) (d : List ℕ) : Type 0 where
    pub sound : (i n : ℕ) → get_or d i 0 ≡ suc n → Reached R S n i
    pub bound : (i : ℕ) → get_or d i 0 ≤ suc r
    pub least : (i n : ℕ) → n ≤ r → Reached R S n i → (0 < get_or d i 0) × (get_or d i 0 ≤ suc n)

  module _ (r : ℕ) (d₀ d : List ℕ) (u : Upto r d₀) (s : Spread R (suc r) d₀ d) where
    grows : (i n : ℕ) → (0 < get_or d₀ i 0) × (get_or d₀ i 0 ≤ suc n) → (0 < get_or d i 0) × (get_or d i 0 ≤ suc n)
    grows i n h = let k = s.kept i h.0 in (omega arith, omega arith)

    spread-sound : (i n : ℕ) → get_or d i 0 ≡ suc n → Reached R S n i
    spread-sound i n e = ⊎_elim fresh old (zero_or (get_or d₀ i 0))
      where
        old : (m : ℕ) × (get_or d₀ i 0 ≡ suc m) → Reached R S n i
        old w = let q = w.1 in let k = s.kept i (omega arith) in u.sound i n (omega arith)

        made : (get_or d i 0 ≡ suc (suc r)) × ((a : ℕ) × (get_or d₀ a 0 ≡ suc r) × R a i) → Reached R S n i
        made w =
            let q = w.0 in
            let m : suc r ≡ n = omega arith in
            subst (λ (x : ℕ). Reached R S x i) m (then (u.sound w.1.0 r w.1.1) w.1.2)

        fresh : get_or d₀ i 0 ≡ 0 → Reached R S n i
        fresh z = ⊎_elim (λ q. absurd (omega arith)) made (s.new i z)

    spread-bound : (i : ℕ) → get_or d i 0 ≤ suc (suc r)
    spread-bound i = ⊎_elim fresh old (zero_or (get_or d₀ i 0))
      where
        old : (m : ℕ) × (get_or d₀ i 0 ≡ suc m) → get_or d i 0 ≤ suc (suc r)
        old w = let q = w.1 in let k = s.kept i (omega arith) in let b = u.bound i in omega arith

        fresh : get_or d₀ i 0 ≡ 0 → get_or d i 0 ≤ suc (suc r)
        fresh z = ⊎_elim (λ q. omega arith) (λ w. let q = w.0 in omega arith) (s.new i z)

    -- the end of a step from a node that d₀ numbers n + 1 or less
    one_more : (a i n : ℕ) → n ≤ r → (0 < get_or d₀ a 0) × (get_or d₀ a 0 ≤ suc n) → R a i → (0 < get_or d i 0) × (get_or d i 0 ≤ suc (suc n))
    one_more a i n le h st = ⊎_elim none some (zero_or (get_or d₀ a 0))
      where
        last : (m : ℕ) → get_or d₀ a 0 ≡ suc m → m ≡ r → (0 < get_or d i 0) × (get_or d i 0 ≤ suc (suc n))
        last m q e = (s.all a i st (q ∙ ap suc e), let b = spread-bound i in omega arith)

        early : (m : ℕ) → get_or d₀ a 0 ≡ suc m → m < r → (0 < get_or d i 0) × (get_or d i 0 ≤ suc (suc n))
        early m q l =
            let g = grows i (suc m) (u.least i (suc m) l (then (u.sound a m q) st)) in
            (g.0, let g1 = g.1 in omega arith)

        some : (m : ℕ) × (get_or d₀ a 0 ≡ suc m) → (0 < get_or d i 0) × (get_or d i 0 ≤ suc (suc n))
        some w = let q = w.1 in let h1 = h.1 in ⊎_elim (last w.0 q) (early w.0 q) (eq-or-lt_of_le (omega arith))

        none : get_or d₀ a 0 ≡ 0 → (0 < get_or d i 0) × (get_or d i 0 ≤ suc (suc n))
        none z = let h0 = h.0 in absurd (omega arith)

    spread-least : (i n : ℕ) → n ≤ suc r → Reached R S n i → (0 < get_or d i 0) × (get_or d i 0 ≤ suc n)
    spread-least i n le (start x) = grows i 0 (u.least i 0 (omega arith) (start x))
    spread-least i n le (then {n = m} {a = a} w st) = one_more a i m (omega arith) (u.least a m (omega arith) w) st

    pub spread-upto : Upto (suc r) d
    spread-upto = record { sound = spread-sound; bound = spread-bound; least = spread-least }

  -- a round that changes nothing: whatever is reached is in the layers that are there
  module _ (r : ℕ) (d : List ℕ) (u : Upto r d) (s : Spread R (suc r) d d) where
    all-least : (i n : ℕ) → Reached R S n i → (0 < get_or d i 0) × (get_or d i 0 ≤ suc n)
    all-least i n (start x) = u.least i 0 (omega arith) (start x)
    all-least i n (then {n = m} {a = a} w st) = step (all-least a m w)
      where
        step : (0 < get_or d a 0) × (get_or d a 0 ≤ suc m) → (0 < get_or d i 0) × (get_or d i 0 ≤ suc (suc m))
        step h = ⊎_elim (λ z. let h0 = h.0 in absurd (omega arith)) some (zero_or (get_or d a 0))
          where
            some : (k : ℕ) × (get_or d a 0 ≡ suc k) → (0 < get_or d i 0) × (get_or d i 0 ≤ suc (suc m))
            some q =
                let e = q.1 in
                let b = u.bound a in
                let h1 = h.1 in
                let o = one_more r d d u s a i q.0 (omega arith) (omega arith, omega arith) st in
                (o.0, let o1 = o.1 in omega arith)

    pub settled : Layers R S d
    settled = record { sound = u.sound; least = all-least }

  -- what a walk knows before the round from the nodes numbered v
  pub record Sofar (v : ℕ) (d : List ℕ) : Type 0 where
    pub r : ℕ
    pub is : v ≡ suc r
    pub upto : Upto r d

  pub sofar-more : (v : ℕ) (d₀ d : List ℕ) → Sofar v d₀ → Spread R v d₀ d → Sofar (v + 1) d
  sofar-more v d₀ d f s =
      let q = f.is in
      record { r = suc f.r; is = omega arith; upto = spread-upto f.r d₀ d f.upto (rw q at s) }

  pub sofar-all : (v : ℕ) (d₀ d : List ℕ) → Sofar v d₀ → Spread R v d₀ d → d ≡ d₀ → Layers R S d
  sofar-all v d₀ d f s e =
      rw e (settled f.r d₀ f.upto (rw f.is at (subst (λ (x : List ℕ). Spread R v d₀ x) e s)))

-- at the outset only the starts have a number
pub outset : (R : ℕ → ℕ → Type 0) (d : List ℕ) → ((i : ℕ) → get_or d i 0 ≤ 1) → Sofar R (λ i. get_or d i 0 ≡ 1) 1 d
outset R d h = record { r = 0; is = refl; upto = record { sound = sound; bound = h; least = least } }
  where
    sound : (i n : ℕ) → get_or d i 0 ≡ suc n → Reached R (λ i. get_or d i 0 ≡ 1) n i
    sound i n e = let b = h i in let z : 0 ≡ n = omega arith in subst (λ (x : ℕ). Reached R (λ i. get_or d i 0 ≡ 1) x i) z (start (omega arith))

    least : (i n : ℕ) → n ≤ 0 → Reached R (λ i. get_or d i 0 ≡ 1) n i → (0 < get_or d i 0) × (get_or d i 0 ≤ suc n)
    least i n le (start x) = (omega arith, omega arith)
    least i n le (then w st) = absurd (omega arith)

-- layers go by which steps there are
pub reached-map : {R R' : ℕ → ℕ → Type 0} {S S' : ℕ → Type 0} → ((a b : ℕ) → R a b → R' a b) → ((a : ℕ) → S a → S' a) → {n i : ℕ} → Reached R S n i → Reached R' S' n i
reached-map f g (start x) = start (g _ x)
reached-map f g (then w st) = then (reached-map f g w) (f _ _ st)

pub layers-map : {R R' : ℕ → ℕ → Type 0} {S S' : ℕ → Type 0} {d : List ℕ} → ((a b : ℕ) → R a b → R' a b) → ((a b : ℕ) → R' a b → R a b) → ((a : ℕ) → S a → S' a) → ((a : ℕ) → S' a → S a) → Layers R S d → Layers R' S' d
layers-map f f' g g' y = record { sound = λ i n e. reached-map f g (y.sound i n e); least = λ i n w. y.least i n (reached-map f' g' w) }

pub reached-none : {R : ℕ → ℕ → Type 0} {S : ℕ → Type 0} {n i : ℕ} → Reached R S n i → n ≡ 0 → S i
reached-none (start x) e = x
reached-none (then w st) e = absurd (omega arith)

-- the starts can be read off the numbers at the end too
pub started : {R : ℕ → ℕ → Type 0} {S : ℕ → Type 0} {d : List ℕ} → Layers R S d → (i : ℕ) → S i → get_or d i 0 ≡ 1
started y i x = let q = y.least i 0 (start x) in let q0 = q.0 in let q1 = q.1 in omega arith

pub starts : {R : ℕ → ℕ → Type 0} {S : ℕ → Type 0} {d : List ℕ} → Layers R S d → (i : ℕ) → get_or d i 0 ≡ 1 → S i
starts y i e = reached-none (y.sound i 0 e) refl
