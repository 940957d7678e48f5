-- What a step that was read tells of its row: the walk takes the row, from the step's one end to the other.
-- Assumes nothing.
use Prim.Native.Nat.{ℕ, ◌+◌, ◌<◌, ◌≤◌}
use native.Mathlib.Omega.{arith}
use mathlib.Core.Path.{◌≡◌, refl, sym, ap, ◌∙◌}
use mathlib.Core.Bool.{Bool, true, false, ◌&&◌, cond, true≢false}
use mathlib.Core.List.{List}
use lib.Dec.{eqb}
use lib.ListN.{length, get_or, set}
use borrow.Author.Tests.{eqb-true, eq-eqb}
use Rattle.std.specs.Prelude.{Option, Some, None, IfSome}
use Rattle.paths.specs.Reached.{zeros, Round}
use Rattle.paths.proofs.Tests.{and_left, and_right, both}
use Rattle.paths.proofs.Rounds.{positive, zeros-set, round-stay, round-put, round-map}
use Rattle.walk.specs.declared.Step.{Step}
use Rattle.walk.specs.Arcs.{Arc, seen, Along, Makes, lower, bettered}

pub seen-some : (a : Arc) (st : Step) → Some st ≡ seen a → (a.taken ≡ true) × (a.near ≡ st.from) × (a.far ≡ st.to)
unfolding seen
seen-some a st e = go a.taken refl e
  where
    go : (b : Bool) → a.taken ≡ b → Some st ≡ cond b (Some (record { from = a.near; to = a.far })) None → (a.taken ≡ true) × (a.near ≡ st.from) × (a.far ≡ st.to)
    go true t q =
        let z : st ≡ record { from = a.near; to = a.far } = cc in
        (t, sym (ap (λ (x : Step). x.from) z), sym (ap (λ (x : Step). x.to) z))
    go false t q = absurd (cc)

pub seen-none : (a : Arc) → None ≡ seen a → a.taken ≡ false
unfolding seen
seen-none a e = go a.taken refl e
  where
    go : (b : Bool) → a.taken ≡ b → ◌≡◌ {A = Option Step} None (cond b (Some (record { from = a.near; to = a.far })) None) → a.taken ≡ false
    go true t q = absurd (cc)
    go false t q = t

pub seen-not : (a : Arc) → a.taken ≡ false → None ≡ seen a
unfolding seen
seen-not a e = rw e

pub seen-is : (a : Arc) (st : Step) → a.taken ≡ true → a.near ≡ st.from → a.far ≡ st.to → Some st ≡ seen a
unfolding seen
seen-is a st e n f = rw (e, n, f)

-- what is made by a step that was read is the row's own step
module _ (a : Arc) where
  makes-along : (step : Option Step) → step ≡ seen a → (x y : ℕ) → Makes step x y → Along a x y
  makes-along None e x y m = absurd m
  makes-along (Some st) e x y m = let s = seen-some a st e in record { taken = s.0; leaves = s.1 ∙ m.0; enters = s.2 ∙ m.1 }

  along-makes : (step : Option Step) → step ≡ seen a → (x y : ℕ) → Along a x y → Makes step x y
  along-makes None e x y al = absurd (true≢false (sym al.taken ∙ seen-none a e))
  along-makes (Some st) e x y al = let s = seen-some a st e in (sym s.1 ∙ al.leaves, sym s.2 ∙ al.enters)

  pub round-seen : (step : Option Step) → step ≡ seen a → {v : ℕ} {d q d' q' : List ℕ} {n n' : ℕ} → Round (Makes step) v d q n d' q' n' → Round (Along a) v d q n d' q' n'
  round-seen step e ro = round-map (λ x y m. makes-along step e x y m) (λ x y al _. along-makes step e x y al) ro

-- the test of a step that is better, and of one that is not
module _ (step : Option Step) (d : List ℕ) (at v : ℕ) (best : Option ℕ) where
  pub bettered-none : step ≡ None → best ≡ bettered step d at v best
  unfolding bettered
  bettered-none e = rw e

  module _ (st : Step) (low : Bool) (is : step ≡ Some st) (l : low ≡ lower st.to best) where
    pub bettered-yes : (eqb st.from at && (eqb (get_or d st.to 0) v && low)) ≡ true → Some st.to ≡ bettered step d at v best
    unfolding bettered
    bettered-yes e = rw (is, ← l, e)

    pub bettered-no : (eqb st.from at && (eqb (get_or d st.to 0) v && low)) ≡ false → best ≡ bettered step d at v best
    unfolding bettered
    bettered-no e = rw (is, ← l, e)

-- ---- what a touch does to the numbers and the queue

module _ (step : Option Step) (v : ℕ) (d q : List ℕ) (n : ℕ) where
  pub touch-none : step ≡ None → Round (Makes step) v d q n d q n
  touch-none e = rw e (round-stay _ v d q n (λ x y m _. absurd m))

  module _ (st : Step) (is : step ≡ Some st) where
    -- the step starts at a node numbered v, and its end has no number
    abbrev fresh : Bool
    fresh = eqb (get_or d st.from 0) v && eqb (get_or d st.to 0) 0

    pub touch-not : fresh ≡ false → Round (Makes step) v d q n d q n
    touch-not e = rw is (round-stay _ v d q n (λ x y m l. positive _ (λ z. true≢false (sym (both (eq-eqb _ v (ap (λ (i : ℕ). get_or d i 0) m.0 ∙ l)) (eq-eqb _ 0 (ap (λ (i : ℕ). get_or d i 0) m.1 ∙ z))) ∙ e))))

    module _ (fits : IfSome step (λ (s : Step). (s.from < length d) × (s.to < length d))) (e : fresh ≡ true) where
      inside : st.to < length d
      inside = (rw is at fits).1

      unnumbered : get_or d st.to 0 ≡ 0
      unnumbered = eqb-true _ 0 (and_right (eqb (get_or d st.from 0) v) _ e)

      pub touch-room : (limit : ℕ) → n + zeros d ≤ limit → n < limit
      touch-room limit l = omega (arith, zeros-set d st.to v inside unnumbered)

      pub touch-put : (q' : List ℕ) (n' : ℕ) → n < length q → q' ≡ set q n st.to → n' ≡ n + 1 → Round (Makes step) v d q n (set d st.to (v + 1)) q' n'
      touch-put q' n' room p r =
          rw (p, r, is)
          (round-put _ v d q n st.from st.to inside (refl, refl) (eqb-true _ v (and_left (eqb (get_or d st.from 0) v) _ e)) unnumbered (λ x y m. sym m.1) room)
