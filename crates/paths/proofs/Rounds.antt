-- What one row does to the numbers, and what the rows below k + 1 do: for any table, told by which rows are on and by the node that a row leaves and the one that it enters.
-- Assumes nothing.
use mathlib.Core.Path.{◌≡◌, refl, sym, subst, ◌∙◌}
use mathlib.Core.Bool.{Bool, true}
use mathlib.Core.List.{List, [], ◌∷◌}
use mathlib.Core.Logic.{◌⊎◌, inl, inr, ⊎_elim}
use Prim.Native.Nat.{ℕ, zero, suc, ◌+◌, ◌<◌, ◌≤◌}
use native.Mathlib.Nat.{eq-or-lt_of_le}
use native.Mathlib.Decide.{ℕ_discrete, dec_lt}
use native.Mathlib.Numerals.{add-one}
use native.Mathlib.Omega.{arith}
use lib.ListN.{length, get_or, set, length-set}
use lib.Seq.{get_or-set_same, get_or-set_other}
use Rattle.paths.specs.Reached.{Via, Spread, zeros, Queued, Round, LeastNext}
use Rattle.paths.proofs.Distances.{zero_or}

pub positive : (n : ℕ) → (n ≡ 0 → ⊥) → 0 < n
positive zero h = absurd (h refl)
positive (suc n) h = omega arith

pub same-number-or : (i j : ℕ) → (i ≡ j) ⊎ (i ≡ j → ⊥)
same-number-or i j = elim (ℕ_discrete i j) [ yes p ↦ inl p | no q ↦ inr q ]

pub zeros-set : (l : List ℕ) (i v : ℕ) → i < length l → get_or l i 0 ≡ 0 → zeros (set l i (suc v)) + 1 ≡ zeros l
unfolding zeros
zeros-set [] i v h z = absurd (omega arith)
zeros-set (zero ∷ l) zero v h z = omega arith
zeros-set (suc x ∷ l) zero v h z = absurd (omega arith)
zeros-set (zero ∷ l) (suc i) v h z = omega (arith, zeros-set l i v (omega arith) z)
zeros-set (suc x ∷ l) (suc i) v h z = zeros-set l i v (omega arith) z

pub zeros-length : (l : List ℕ) → zeros l ≤ length l
unfolding zeros
zeros-length [] = omega arith
zeros-length (zero ∷ l) = omega (arith, zeros-length l)
zeros-length (suc x ∷ l) = omega (arith, zeros-length l)

module _ (on : ℕ → Bool) (near far : ℕ → ℕ) (k : ℕ) where
  pub wider : {a i : ℕ} → Via on near far k a i → Via on near far (k + 1) a i
  wider t =
      let w = t.inside in
      record { row = t.row; inside = omega arith; is = t.is; leaves = t.leaves; enters = t.enters }

  -- a step by a row below k + 1 goes by a row below k or by row k
  pub by_parts : {a i : ℕ} → Via on near far (k + 1) a i → Via on near far k a i ⊎ ((on k ≡ true) × (near k ≡ a) × (far k ≡ i))
  by_parts {a} {i} t = ⊎_elim at below (eq-or-lt_of_le w)
    where
      w : t.row ≤ k
      w = let w' = t.inside in omega arith

      at : t.row ≡ k → Via on near far k a i ⊎ ((on k ≡ true) × (near k ≡ a) × (far k ≡ i))
      at q = inr (rw q at t.is, rw q at t.leaves, rw q at t.enters)

      below : t.row < k → Via on near far k a i ⊎ ((on k ≡ true) × (near k ≡ a) × (far k ≡ i))
      below q = inl (record { row = t.row; inside = q; is = t.is; leaves = t.leaves; enters = t.enters })

-- ---- a round, part by part

-- where the steps from the nodes numbered v lead to numbered nodes, nothing is to be done
pub spread-stay : (R : ℕ → ℕ → Type 0) (v : ℕ) (d : List ℕ) → ((a i : ℕ) → R a i → get_or d a 0 ≡ v → 0 < get_or d i 0) → Spread R v d d
spread-stay R v d done = record { kept = λ i _. refl; new = λ i z. inl z; all = done }

pub round-stay : (R : ℕ → ℕ → Type 0) (v : ℕ) (d q : List ℕ) (n : ℕ) → ((a i : ℕ) → R a i → get_or d a 0 ≡ v → 0 < get_or d i 0) → Round R v d q n d q n
round-stay R v d q n done =
    record {
      spread = spread-stay R v d done;
      long = refl;
      queue = refl;
      count = refl;
      grows = omega arith;
      front = λ k _. refl;
      came = λ i z h. absurd (omega arith);
      led = λ k l h. absurd (omega arith);
    }

-- the end y of a step gets its number and its place in the queue
module _ (R : ℕ → ℕ → Type 0) (v : ℕ) (d q : List ℕ) (n x y : ℕ) (fits : y < length d) (st : R x y) (l : get_or d x 0 ≡ v) (z : get_or d y 0 ≡ 0)
    (only : (a i : ℕ) → R a i → i ≡ y) where
  here : get_or (set d y (v + 1)) y 0 ≡ suc v
  here = get_or-set_same d y (v + 1) 0 fits ∙ add-one v

  other-kept : (i : ℕ) → (i ≡ y → ⊥) → get_or (set d y (v + 1)) i 0 ≡ get_or d i 0
  other-kept i w = get_or-set_other d y i (v + 1) 0 w

  spread-put : Spread R v d (set d y (v + 1))
  spread-put = record { kept = kept; new = new; all = all }
    where
      kept : (i : ℕ) → 0 < get_or d i 0 → get_or (set d y (v + 1)) i 0 ≡ get_or d i 0
      kept i h = other-kept i (λ w. let e = rw w at h in omega arith)

      new : (i : ℕ) → get_or d i 0 ≡ 0 → (get_or (set d y (v + 1)) i 0 ≡ 0) ⊎ ((get_or (set d y (v + 1)) i 0 ≡ suc v) × ((a : ℕ) × (get_or d a 0 ≡ v) × R a i))
      new i z₀ = ⊎_elim (λ w. inr (rw w here, (x, l, rw w st))) (λ w. inl (other-kept i w ∙ z₀)) (same-number-or i y)

      all : (a i : ℕ) → R a i → get_or d a 0 ≡ v → 0 < get_or (set d y (v + 1)) i 0
      all a i t lv = rw (only a i t) (omega (arith, here))

  room-put : zeros (set d y (v + 1)) + 1 ≡ zeros d
  room-put = rw (add-one v) (zeros-set d y v fits z)

  pub round-put : n < length q → Round R v d q n (set d y (v + 1)) (set q n y) (n + 1)
  round-put room =
      record {
        spread = spread-put;
        long = length-set d y (v + 1);
        queue = length-set q n y;
        count = omega (arith, room-put);
        grows = omega arith;
        front = λ k h. get_or-set_other q n k y 0 (λ w. omega arith);
        came = came;
        led = led;
      }
    where
      came : (i : ℕ) → get_or d i 0 ≡ 0 → 0 < get_or (set d y (v + 1)) i 0 → Queued (set q n y) n (n + 1) i
      came i z₀ h =
          ⊎_elim (λ w. record { place = n; from = omega arith; below = omega arith; is = get_or-set_same q n y 0 room ∙ sym w })
          (λ w. let e = other-kept i w in absurd (omega arith)) (same-number-or i y)

      led : (k : ℕ) → n ≤ k → k < n + 1 → (a : ℕ) × R a (get_or (set q n y) k 0)
      led k g h = let e : k ≡ n = omega arith in (x, rw (e, get_or-set_same q n y 0 room) st)

-- one part after another is a part by the steps of both
module _ (R R' Q : ℕ → ℕ → Type 0) (v : ℕ) (pos : 0 < v) (d₀ d₁ d₂ : List ℕ) (f : (a b : ℕ) → R a b → Q a b) (f' : (a b : ℕ) → R' a b → Q a b)
    (part : (a b : ℕ) → Q a b → get_or d₀ a 0 ≡ v → R a b ⊎ R' a b) where
  module _ (sp : Spread R v d₀ d₁) where
    was-level : (a : ℕ) → get_or d₁ a 0 ≡ v → get_or d₀ a 0 ≡ v
    was-level a q = ⊎_elim fresh old (zero_or (get_or d₀ a 0))
      where
        fresh : get_or d₀ a 0 ≡ 0 → get_or d₀ a 0 ≡ v
        fresh z = ⊎_elim (λ y. absurd (omega arith)) (λ y. let y0 = y.0 in absurd (omega arith)) (sp.new a z)

        old : (x : ℕ) × (get_or d₀ a 0 ≡ suc x) → get_or d₀ a 0 ≡ v
        old x = let x1 = x.1 in sym (sp.kept a (omega arith)) ∙ q

    spread-then : Spread R' v d₁ d₂ → Spread Q v d₀ d₂
    spread-then sp' = record { kept = kept; new = new; all = all }
      where
        kept : (i : ℕ) → 0 < get_or d₀ i 0 → get_or d₂ i 0 ≡ get_or d₀ i 0
        kept i h = let y = sp.kept i h in sp'.kept i (omega arith) ∙ y

        still : (i : ℕ) → 0 < get_or d₁ i 0 → 0 < get_or d₂ i 0
        still i h = let y = sp'.kept i h in omega arith

        new : (i : ℕ) → get_or d₀ i 0 ≡ 0 → (get_or d₂ i 0 ≡ 0) ⊎ ((get_or d₂ i 0 ≡ suc v) × ((a : ℕ) × (get_or d₀ a 0 ≡ v) × Q a i))
        new i z =
            ⊎_elim
            (λ z₁. ⊎_elim inl (λ w. inr (w.0, (w.1.0, was-level w.1.0 w.1.1, f' w.1.0 i w.1.2))) (sp'.new i z₁))
            (λ w. let w0 = w.0 in inr (sp'.kept i (omega arith) ∙ w0, (w.1.0, w.1.1, f w.1.0 i w.1.2)))
            (sp.new i z)

        all : (a i : ℕ) → Q a i → get_or d₀ a 0 ≡ v → 0 < get_or d₂ i 0
        all a i t l =
            ⊎_elim (λ t'. still i (sp.all a i t' l)) (λ t'. sp'.all a i t' (sp.kept a (omega arith) ∙ l)) (part a i t l)

  pub round-then : {q₀ q₁ q₂ : List ℕ} {n₀ n₁ n₂ : ℕ} → Round R v d₀ q₀ n₀ d₁ q₁ n₁ → Round R' v d₁ q₁ n₁ d₂ q₂ n₂ → Round Q v d₀ q₀ n₀ d₂ q₂ n₂
  round-then {q₀} {q₁} {q₂} {n₀} {n₁} {n₂} ro ro' =
      record {
        spread = spread-then ro.spread ro'.spread;
        long = ro'.long ∙ ro.long;
        queue = ro'.queue ∙ ro.queue;
        count = ro'.count ∙ ro.count;
        grows = omega (arith, ro.grows, ro'.grows);
        front = λ k h. let g = ro.grows in ro'.front k (omega arith) ∙ ro.front k h;
        came = came;
        led = led;
      }
    where
      came : (i : ℕ) → get_or d₀ i 0 ≡ 0 → 0 < get_or d₂ i 0 → Queued q₂ n₀ n₂ i
      came i z h = ⊎_elim late early (zero_or (get_or d₁ i 0))
        where
          late : get_or d₁ i 0 ≡ 0 → Queued q₂ n₀ n₂ i
          late z₁ =
              let w = ro'.came i z₁ h in
              record { place = w.place; from = omega (arith, w.from, ro.grows); below = w.below; is = w.is }

          early : (m : ℕ) × (get_or d₁ i 0 ≡ suc m) → Queued q₂ n₀ n₂ i
          early m =
              let w = ro.came i z (omega (arith, m.1)) in
              record { place = w.place; from = w.from; below = omega (arith, w.below, ro'.grows); is = ro'.front w.place w.below ∙ w.is }

      led : (k : ℕ) → n₀ ≤ k → k < n₂ → (a : ℕ) × Q a (get_or q₂ k 0)
      led k g h = go (dec_lt k n₁)
        where
          go : Dec (k < n₁) → (a : ℕ) × Q a (get_or q₂ k 0)
          go (yes l) = let w = ro.led k g l in (w.0, rw (ro'.front k l) (f w.0 (get_or q₁ k 0) w.1))
          go (no l) = let w = ro'.led k (omega arith) h in (w.0, f' w.0 (get_or q₂ k 0) w.1)

-- a round goes by which steps there are from the nodes numbered v
pub round-map : {R Q : ℕ → ℕ → Type 0} {v : ℕ} {d₀ q₀ d q : List ℕ} {n₀ n : ℕ} → ((a b : ℕ) → R a b → Q a b) → ((a b : ℕ) → Q a b → get_or d₀ a 0 ≡ v → R a b)
    → Round R v d₀ q₀ n₀ d q n → Round Q v d₀ q₀ n₀ d q n
round-map f g ro =
    record {
      spread = record {
        kept = ro.spread.kept;
        new = λ i z. ⊎_elim inl (λ w. inr (w.0, (w.1.0, w.1.1, f w.1.0 i w.1.2))) (ro.spread.new i z);
        all = λ a i t l. ro.spread.all a i (g a i t l) l;
      };
      long = ro.long;
      queue = ro.queue;
      count = ro.count;
      grows = ro.grows;
      front = ro.front;
      came = ro.came;
      led = λ k l h. let w = ro.led k l h in (w.0, f _ _ w.1);
    }

-- ---- the least next node, row by row

module _ (on : ℕ → Bool) (near far : ℕ → ℕ) (k : ℕ) (limit : ℕ) (d : List ℕ) (a w best : ℕ) (ne : LeastNext limit (Via on near far k) d a w best) where
  pub next-stay : (on k ≡ true → near k ≡ a → get_or d (far k) 0 ≡ w → best ≤ far k) → LeastNext limit (Via on near far (k + 1)) d a w best
  next-stay h =
      record {
        most = ne.most;
        found = λ l. let p = ne.found l in (p.0, wider on near far k p.1);
        low = λ b t q. ⊎_elim (λ t'. ne.low b t' q) (λ p. rw p.2 at (h p.0 p.1 (rw p.2 q))) (by_parts on near far k t);
      }

  module _ (x b : ℕ) (ex : x ≡ near k) (eb : b ≡ far k) where
    pub next-take : on k ≡ true → x ≡ a → get_or d b 0 ≡ w → b < best → LeastNext limit (Via on near far (k + 1)) d a w b
    next-take c xa q l =
        record {
          most = let y = ne.most in omega arith;
          found = λ _. (q, record { row = k; inside = omega arith; is = c; leaves = sym ex ∙ xa; enters = sym eb });
          low = λ b' t q'. ⊎_elim (λ t'. let y = ne.low b' t' q' in omega arith) (λ p. let p2 = p.2 in omega arith) (by_parts on near far k t);
        }

pub next-none : (on : ℕ → Bool) (near far : ℕ → ℕ) (limit : ℕ) (d : List ℕ) (a w : ℕ) → LeastNext limit (Via on near far 0) d a w limit
next-none on near far limit d a w =
    record { most = omega arith; found = λ l. absurd (omega arith); low = λ b t _. let y = t.inside in absurd (omega arith) }

pub next-all : {on : ℕ → Bool} {near far : ℕ → ℕ} {limit k n : ℕ} {d : List ℕ} {a w r : ℕ} → k ≤ n → n ≤ k → LeastNext limit (Via on near far k) d a w r → LeastNext limit (Via on near far n) d a w r
next-all {on} {near} {far} {limit} {k} {n} {d} {a} {w} {r} h h' ne =
    let q : k ≡ n = omega arith in subst (λ (x : ℕ). LeastNext limit (Via on near far x) d a w r) q ne
