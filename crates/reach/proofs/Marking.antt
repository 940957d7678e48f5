-- What a walk's numbers tell of each row: from one row, from the deed rows of a number, from all persons' rows. A run from several starts is one from some start.
-- Assumes nothing.
use Prim.Native.Nat.{ℕ, ◌+◌, ◌<◌, ◌≤◌}
use native.Mathlib.Omega.{arith}
use mathlib.Core.Path.{◌≡◌, refl, sym, ap, subst, ◌∙◌}
use mathlib.Core.Bool.{Bool, true, false, not, true≢false}
use mathlib.Core.List.{List}
use mathlib.Core.Logic.{⊎_elim}
use lib.Dec.{eqb}
use lib.ListN.{length, get_or, set, length-set}
use lib.Seq.{get_or-set_same, get_or-set_other}
use borrow.Author.Tests.{eq-eqb, ne_eqb}
use Rattle.tables.specs.Count.{number_of}
use Rattle.sheet.specs.declared.Header.{Header}
use Rattle.sheet.specs.Limits.{max_nodes}
use Rattle.paths.specs.Reached.{Reached, start, then, Layers, Starts}
use Rattle.paths.proofs.Distances.{zero_or, reached-map}
use Rattle.paths.proofs.Rounds.{same-number-or}
use Rattle.walk.specs.declared.Walk.{Walk}
use Rattle.walk.specs.Arcs.{Steps}
use Rattle.walk.specs.Outset.{Blank}
use Rattle.reach.specs.Reaching.{Tells, LeadsTo, Started, ReachedFrom}

-- a test that a number is some
pub some_number : (v : ℕ) → not (eqb v 0) ≡ true → v ≡ 0 → ⊥
some_number v e z = true≢false (sym e ∙ ap not (eq-eqb v 0 z))

pub number-some : (v : ℕ) → (v ≡ 0 → ⊥) → not (eqb v 0) ≡ true
number-some v n = ap not (ne_eqb v 0 n)

-- a number tells whether the row is reached
pub layers-tell : {R : ℕ → ℕ → Type 0} {S : ℕ → Type 0} {d : List ℕ} → Layers R S d → (i : ℕ) (P : Type 0) → ((n : ℕ) → Reached R S n i → P) → (P → (n : ℕ) × Reached R S n i) → Tells (get_or d i 0) P
layers-tell {R = R} {S = S} {d = d} y i P f f' = record { no = no; yes = λ n. ⊎_elim (λ z. absurd (n z)) (λ m. f m.0 (y.sound i m.0 m.1)) (zero_or (get_or d i 0)) }
  where
    no : get_or d i 0 ≡ 0 → P → ⊥
    no z p = let r = f' p in omega (arith, z, (y.least i r.0 r.1).0)

pub tells-map : {n : ℕ} {P Q : Type 0} → (P → Q) → (Q → P) → Tells n P → Tells n Q
tells-map f f' t = record { no = λ z q. t.no z (f' q); yes = λ n. f (t.yes n) }

-- ---- from one row

pub reached-from : (s t : List ℕ) (h : Header) (w : Walk) (from : ℕ) (d : List ℕ) → length d ≡ max_nodes → Layers (Steps s t w h.edges) (λ x. x ≡ from) d → ReachedFrom s t h w from d
reached-from s t h w from d e y = record { long = e; each = λ i l. layers-tell y i (LeadsTo s t h w from i) (λ n r. record { steps = n; reached = r }) (λ p. (p.steps, p.reached)) }

-- ---- from the rows that pass a test

pub starts_none : (test : ℕ → Bool) (r : List ℕ) → Blank max_nodes r → Started test 0 r
starts_none test r b =
    record { long = b.long; low = λ i. omega (arith, b.none i); sound = λ i e. absurd (omega (arith, e, b.none i)); whole = λ i l. absurd (omega arith) }

module _ (test : ℕ → Bool) (j v : ℕ) (r : List ℕ) (st : Started test j r) (room : j < length r) (here : v ≡ number_of (test j)) where
  at : get_or (set r j v) j 0 ≡ v
  at = get_or-set_same r j v 0 room

  off : (i : ℕ) → (i ≡ j → ⊥) → get_or (set r j v) i 0 ≡ get_or r i 0
  off i n = get_or-set_other r j i v 0 n

  of_number_lem : (b : Bool) → number_of b ≡ 1 → b ≡ true
  of_number_lem true q = refl
  of_number_lem false q = absurd (omega arith)

  number-low : (b : Bool) → number_of b ≤ 1
  number-low true = omega arith
  number-low false = omega arith

  pub starts_more : Started test (j + 1) (set r j v)
  starts_more = record { long = length-set r j v ∙ st.long; low = low; sound = sound; whole = whole }
    where
      low : (i : ℕ) → get_or (set r j v) i 0 ≤ 1
      low i = ⊎_elim (λ q. rw q (omega (arith, at, here, number-low (test j)))) (λ n. omega (arith, off i n, st.low i)) (same-number-or i j)

      sound : (i : ℕ) → get_or (set r j v) i 0 ≡ 1 → (i < j + 1) × (test i ≡ true)
      sound i q = ⊎_elim same other (same-number-or i j)
        where
          same : i ≡ j → (i < j + 1) × (test i ≡ true)
          same z = (omega arith, rw z (of_number_lem (test j) (sym here ∙ sym at ∙ (rw z at q))))

          other : (i ≡ j → ⊥) → (i < j + 1) × (test i ≡ true)
          other n = let o = st.sound i (sym (off i n) ∙ q) in (omega (arith, o.0), o.1)

      whole : (i : ℕ) → i < j + 1 → test i ≡ true → get_or (set r j v) i 0 ≡ 1
      whole i l q = ⊎_elim same other (same-number-or i j)
        where
          same : i ≡ j → get_or (set r j v) i 0 ≡ 1
          same z = rw z (at ∙ here ∙ ap number_of (rw z at q))

          other : (i ≡ j → ⊥) → get_or (set r j v) i 0 ≡ 1
          other n = off i n ∙ st.whole i (omega arith) q

-- after the last row
pub starts-all : (test : ℕ → Bool) (j n : ℕ) (r : List ℕ) → Started test j r → j ≤ n → n ≤ j → Started test n r
starts-all test j n r st l m = let e : j ≡ n = omega arith in subst (λ (x : ℕ). Started test x r) e st

-- what is reached from some start is reached from that one
one-start : {R : ℕ → ℕ → Type 0} {S : ℕ → Type 0} {n i : ℕ} → Reached R S n i → (x : ℕ) × S x × Reached R (λ z. z ≡ x) n i
one-start (start {i = i} x) = (i, x, start refl)
one-start (then r st) = let o = one-start r in (o.0, o.1, then o.2 st)

-- a walk from the rows that pass tells whether one of them leads to a row
pub starts-tell : (s t : List ℕ) (h : Header) (w : Walk) (test : ℕ → Bool) (r₀ r : List ℕ) → Started test h.nodes r₀ → Layers (Steps s t w h.edges) (Starts r₀) r → (i : ℕ) (P : Type 0)
    → ((x : ℕ) → x < h.nodes → test x ≡ true → LeadsTo s t h w x i → P) → (P → (x : ℕ) × (x < h.nodes) × (test x ≡ true) × LeadsTo s t h w x i) → Tells (get_or r i 0) P
starts-tell s t h w test r₀ r st y i P f f' = layers-tell y i P from to
  where
    from : (n : ℕ) → Reached (Steps s t w h.edges) (Starts r₀) n i → P
    from n x =
        let o = one-start x in
        let q = st.sound o.0 o.1 in
        f o.0 q.0 q.1 (record { steps = n; reached = o.2 })

    to : P → (n : ℕ) × Reached (Steps s t w h.edges) (Starts r₀) n i
    to p =
        let b = f' p in
        (b.3.steps, reached-map (λ x z m. m) (λ x z. ap (λ (y : ℕ). get_or r₀ y 0) z ∙ st.whole b.0 b.1 b.2) b.3.reached)
