-- The queue of a walk: first the nodes numbered 1, then in each round those that the round numbered. When it is empty, every node has its number.
-- Assumes nothing.
use mathlib.Core.Path.{◌≡◌, refl, sym, ◌∙◌}
use mathlib.Core.List.{List, ◌∷◌}
use mathlib.Core.Logic.{⊎_elim}
use Prim.Native.Nat.{ℕ, zero, suc, ◌+◌, ◌<◌, ◌≤◌}
use native.Mathlib.Nat.{eq-or-lt_of_le}
use native.Mathlib.Numerals.{add-one}
use native.Mathlib.Omega.{arith}
use lib.ListN.{length, get_or, set, drop, length-drop}
use lib.Seq.{drop-cons, get_or-set_same, get_or-set_other}
use Rattle.paths.specs.Reached.{Layers, zeros, Queued, Waiting, Round}
use Rattle.paths.proofs.Distances.{zero_or, Sofar, outset, sofar-more, sofar-all}
use Rattle.paths.proofs.Rounds.{zeros-length, spread-stay}

-- ---- the nodes numbered 1

zeros-any : (x : ℕ) (l : List ℕ) → zeros (x ∷ l) ≤ 1 + zeros l
unfolding zeros
zeros-any zero l = omega arith
zeros-any (suc x) l = omega arith

zeros-one : (x : ℕ) (l : List ℕ) → x ≡ 1 → zeros (x ∷ l) ≡ zeros l
unfolding zeros
zeros-one zero l e = absurd (omega arith)
zeros-one (suc x) l e = refl

module _ (d : List ℕ) where
  -- the n nodes below k that are numbered 1 are in the queue
  pub record Gathered (q : List ℕ) (k n : ℕ) : Type 0 where
    pub all : (i : ℕ) → i < k → get_or d i 0 ≡ 1 → Queued q 0 n i
    pub inside : (j : ℕ) → j < n → get_or q j 0 < k
    pub few : n ≤ k
    pub fits : n + zeros d ≤ k + zeros (drop k d)

  pub gathered_none : (q : List ℕ) → Gathered q 0 0
  gathered_none q = record { all = λ i h. absurd (omega arith); inside = λ j h. absurd (omega arith); few = omega arith; fits = omega arith }

  module _ (q : List ℕ) (k n : ℕ) (g : Gathered q k n) (h : k < length d) where
    rest : zeros (drop k d) ≡ zeros (get_or d k 0 ∷ drop (k + 1) d)
    rest = rw (drop-cons d k 0 h, add-one k)

    pub gathered-skip : (get_or d k 0 ≡ 1 → ⊥) → Gathered q (k + 1) n
    gathered-skip no_one =
        record {
          all = λ i l e. ⊎_elim (λ w. absurd (no_one (rw w at e))) (λ w. g.all i w e) (eq-or-lt_of_le (omega arith));
          inside = λ j l. omega (arith, g.inside j l);
          few = omega (arith, g.few);
          fits = omega (arith, g.fits, rest, zeros-any (get_or d k 0) (drop (k + 1) d));
        }

    pub gathered-put : n < length q → get_or d k 0 ≡ 1 → Gathered (set q n k) (k + 1) (n + 1)
    gathered-put room one = record { all = all; inside = inside; few = omega (arith, g.few); fits = omega (arith, g.fits, rest, zeros-one (get_or d k 0) (drop (k + 1) d) one) }
      where
        all : (i : ℕ) → i < k + 1 → get_or d i 0 ≡ 1 → Queued (set q n k) 0 (n + 1) i
        all i l e = ⊎_elim last early (eq-or-lt_of_le (omega arith))
          where
            last : i ≡ k → Queued (set q n k) 0 (n + 1) i
            last w = record { place = n; from = omega arith; below = omega arith; is = get_or-set_same q n k 0 room ∙ sym w }

            early : i < k → Queued (set q n k) 0 (n + 1) i
            early w =
                let y = g.all i w e in
                let b = y.below in
                record { place = y.place; from = y.from; below = omega arith; is = get_or-set_other q n y.place k 0 (λ u. omega arith) ∙ y.is }

        inside : (j : ℕ) → j < n + 1 → get_or (set q n k) j 0 < k + 1
        inside j l = ⊎_elim last early (eq-or-lt_of_le (omega arith))
          where
            last : j ≡ n → get_or (set q n k) j 0 < k + 1
            last w = rw w (rw (get_or-set_same q n k 0 room) (omega arith))

            early : j < n → get_or (set q n k) j 0 < k + 1
            early w = rw (get_or-set_other q n j k 0 (λ u. omega arith)) (omega (arith, g.inside j w))

  pub gathered-all : (q : List ℕ) (k n limit : ℕ) → k ≤ limit → limit ≤ k → limit ≤ length d → length d ≤ length q → Gathered q k n → Waiting limit 1 d q 0 n
  gathered-all q k n limit h h' low room g =
      record {
        all = λ i l e. g.all i (omega arith) e;
        inside = λ j _ l. omega (arith, g.inside j l);
        room = omega (arith, g.fits, zeros-length (drop k d), length-drop k d);
      }

-- ---- the rounds

module _ (R : ℕ → ℕ → Type 0) (S : ℕ → Type 0) (limit : ℕ) where
  -- what a walk knows before the round from the nodes numbered v, which wait from lo up to hi
  pub record Running (v : ℕ) (d q : List ℕ) (lo hi : ℕ) : Type 0 where
    pub sofar : Sofar R S v d
    pub waiting : Waiting limit v d q lo hi
    pub pace : v ≤ lo + 1

  module _ (inside : (a b : ℕ) → R a b → (a < limit) × (b < limit)) (v : ℕ) (d q : List ℕ) (lo hi : ℕ) (ru : Running v d q lo hi) where
    pub running_more : lo < hi → {d' q' : List ℕ} {n : ℕ} → Round R v d q hi d' q' n → Running (v + 1) d' q' hi n
    running_more h {d'} {q'} {n} ro =
        record {
          sofar = sofar-more R S v d d' ru.sofar ro.spread;
          waiting = record { all = all; inside = λ k l l'. let w = ro.led k l l' in (inside w.0 (get_or q' k 0) w.1).1; room = omega (arith, ro.count, ro.queue, ru.waiting.room) };
          pace = omega (arith, ru.pace);
        }
      where
        all : (i : ℕ) → i < limit → get_or d' i 0 ≡ v + 1 → Queued q' hi n i
        all i _ e = ⊎_elim (λ z. ro.came i z (omega arith)) old (zero_or (get_or d i 0))
          where
            old : (m : ℕ) × (get_or d i 0 ≡ suc m) → Queued q' hi n i
            old m = let y = ro.spread.kept i (omega (arith, m.1)) in absurd (omega (arith, ru.sofar.upto.bound i, ru.sofar.is))

    pub running-all : hi ≤ lo → Layers R S d
    running-all h = sofar-all R S v d d ru.sofar (spread-stay R v d (λ a i st e. let w = ru.waiting.all a (inside a i st).0 e in absurd (omega (arith, w.from, w.below)))) refl

-- at the outset
pub running_none : (R : ℕ → ℕ → Type 0) (limit : ℕ) (d q : List ℕ) (n : ℕ) → ((i : ℕ) → get_or d i 0 ≤ 1) → Waiting limit 1 d q 0 n → Running R (λ i. get_or d i 0 ≡ 1) limit 1 d q 0 n
running_none R limit d q n h w = record { sofar = outset R d h; waiting = w; pace = omega arith }
