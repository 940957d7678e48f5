-- What a further row does to what the history says. Assumes nothing.
use Prim.Native.Nat.{ℕ, suc, ◌+◌}
use mathlib.Core.Path.{◌≡◌, refl, sym, ap, ◌∙◌}
use mathlib.Core.Bool.{Bool, true, false, cond, not, ◌&&◌, ◌||◌, or-false, and-false, or_assoc}
use mathlib.Core.List.{List, [], ◌∷◌, ◌++◌}
use native.Mathlib.Omega.{arith}
use lib.Dec.{ltb, eqb}
use borrow.Author.Tests.{eq-eqb, ne_eqb, eqb-true, eqb-false}
use Rattle.watch.specs.History.{repeats, some, starts_folio, ends_folio, holds_at, holding, held_before, is_held, held_folios, last_from}
use Rattle.watch.specs.WatchTable.{covers_minute}
use Rattle.watch.specs.declared.TraceRow.{TraceRow}
use Rattle.paths.proofs.Tests.{and_left, and_right}
use Rattle.watch.proofs.Tests.{by_cases, some-append, not-true-is, true-and-false, eqb_same}

-- what a row starts or ends, by its kind and folio
module _ (f : ℕ) (r : TraceRow) where
  pub starts-true : r.kind ≡ 1 → f ≡ r.folio → starts_folio f r ≡ true
  unfolding starts_folio
  starts-true k e = rw (eq-eqb _ _ k, eq-eqb _ _ e) refl

  pub starts-kind : (r.kind ≡ 1 → ⊥) → starts_folio f r ≡ false
  unfolding starts_folio
  starts-kind k = rw (ne_eqb _ _ k) refl

  pub starts-folio : (f ≡ r.folio → ⊥) → starts_folio f r ≡ false
  unfolding starts_folio
  starts-folio e = rw (ne_eqb _ _ e) (and-false (eqb r.kind 1))

  pub starts_is : starts_folio f r ≡ true → f ≡ r.folio
  unfolding starts_folio
  starts_is e = eqb-true _ _ (and_right (eqb r.kind 1) _ e)

  pub ends-kind : (r.kind ≡ 2 → ⊥) → ends_folio f r ≡ false
  unfolding ends_folio
  ends-kind k = rw (ne_eqb _ _ k) refl

  pub ends-both : ends_folio f r ≡ true → (r.kind ≡ 2) × (f ≡ r.folio)
  unfolding ends_folio
  ends-both e = (eqb-true _ _ (and_left _ (eqb f r.folio) e), eqb-true _ _ (and_right (eqb r.kind 2) _ e))

  pub ends-not : ends_folio f r ≡ false → r.kind ≡ 2 → f ≡ r.folio → ⊥
  unfolding ends_folio
  ends-not e k g = let z : ends_folio f r ≡ true = rw (eq-eqb _ _ k, eq-eqb _ _ g) refl in true-and-false (ends_folio f r) z e

module _ (f t timeout : ℕ) (r : TraceRow) where
  holds_on : (q : TraceRow) (later : List TraceRow) → ends_folio f r ≡ false → holds_at q (later ++ (r ∷ [])) f t timeout ≡ holds_at q later f t timeout
  unfolding holds_at some
  holds_on q later e = rw (some-append (ends_folio f) later (r ∷ []), e, or-false (some (ends_folio f) later)) refl

  pub holding-on : (h : List TraceRow) → ends_folio f r ≡ false → holding (h ++ (r ∷ [])) f t timeout ≡ holding h f t timeout ++ holding (r ∷ []) f t timeout
  unfolding holding
  holding-on [] e = refl
  holding-on (q ∷ h) e = rw (holds_on q h e, holding-on h e) (by_cases (holds_at q h f t timeout) (λ x. rw x refl) (λ x. rw x refl))

  holds-end : (q : TraceRow) (later : List TraceRow) → ends_folio f r ≡ true → holds_at q (later ++ (r ∷ [])) f t timeout ≡ false
  unfolding holds_at some
  holds-end q later e = rw (some-append (ends_folio f) later (r ∷ []), e, mathlib.Core.Bool.or-true (some (ends_folio f) later), and-false (ltb t (q.minute + timeout))) (and-false (starts_folio f q))

  holding-end : (h : List TraceRow) → ends_folio f r ≡ true → holding (h ++ (r ∷ [])) f t timeout ≡ []
  unfolding holding holds_at
  holding-end [] e = rw (starts-kind f r (λ k. omega (arith, (ends-both f r e).0))) refl
  holding-end (q ∷ h) e = rw (holds-end q h e) (holding-end h e)

  pub held-end : (b : ℕ) (h : List TraceRow) → ends_folio f r ≡ true → held_before b (h ++ (r ∷ [])) f t timeout ≡ false
  unfolding held_before some
  held-end b h e = rw (holding-end h e) refl

  -- one row alone
  one-by : (b : ℕ) (s u : Bool) → some (λ (q : TraceRow). ltb q.minute b) (cond (s && (u && true)) (r ∷ []) []) ≡ s && cond u (ltb r.minute b) false
  unfolding some
  one-by b true true = or-false _
  one-by b true false = refl
  one-by b false u = refl

  pub held_on : (b : ℕ) (h : List TraceRow) → ends_folio f r ≡ false → held_before b (h ++ (r ∷ [])) f t timeout ≡ held_before b h f t timeout || (starts_folio f r && covers_minute r.minute b t timeout)
  unfolding held_before holding holds_at some covers_minute
  held_on b h e =
      rw (holding-on h e, some-append (λ (q : TraceRow). ltb q.minute b) (holding h f t timeout) (holding (r ∷ []) f t timeout))
      (ap (λ (x : Bool). some (λ (q : TraceRow). ltb q.minute b) (holding h f t timeout) || x) (one-by b (starts_folio f r) (ltb t (r.minute + timeout))))

pub last_on : (m : ℕ) (h : List TraceRow) (r : TraceRow) → last_from m (h ++ (r ∷ [])) ≡ r.minute
unfolding last_from
last_on m [] r = refl
last_on m (q ∷ h) r = last_on q.minute h r

-- the folios held: each is listed, and once
single-cons : (r : TraceRow) (later : List TraceRow) (f t timeout : ℕ) → is_held later f t timeout ≡ true → is_held (r ∷ later) f t timeout ≡ true
unfolding is_held held_before holding some
single-cons r later f t timeout e = by_cases (holds_at r later f t timeout) (λ x. rw (x, e) (mathlib.Core.Bool.or-true (ltb r.minute (suc t)))) (λ x. rw x e)

held_cons : (r : TraceRow) (later : List TraceRow) (f t timeout : ℕ) → (f ≡ r.folio → ⊥) → is_held (r ∷ later) f t timeout ≡ is_held later f t timeout
unfolding is_held held_before holding holds_at
held_cons r later f t timeout e = rw (starts-folio f r e) refl

listed_by : (g : ℕ) (xs : List ℕ) (a : Bool) → (some (eqb g) xs ≡ true → a ≡ true) → some (eqb g) (cond (a && not (some (eqb g) xs)) (g ∷ xs) xs) ≡ a
unfolding some
listed_by g xs true h = by_cases (some (eqb g) xs) (λ x. rw (x, x) refl) (λ x. rw (x, eqb_same g) refl)
listed_by g xs false h = not-true-is (some (eqb g) xs) (λ x. mathlib.Core.Bool.false≢true (h x))

passed-by : (f g : ℕ) (xs : List ℕ) (a : Bool) → (f ≡ g → ⊥) → some (eqb f) (cond a (g ∷ xs) xs) ≡ some (eqb f) xs
unfolding some
passed-by f g xs true e = rw (ne_eqb _ _ e) refl
passed-by f g xs false e = refl

module _ (t timeout : ℕ) where
  none-listed : (f : ℕ) → some (eqb f) [] ≡ is_held [] f t timeout
  unfolding is_held held_before holding some
  none-listed f = refl

  pub held-listed : (h : List TraceRow) (f : ℕ) → some (eqb f) (held_folios h t timeout) ≡ is_held h f t timeout
  unfolding held_folios
  held-listed [] f = none-listed f
  held-listed (r ∷ later) f =
      by_cases (eqb f r.folio)
      (λ e. rw (eqb-true f r.folio e) (listed_by r.folio (held_folios later t timeout) (is_held (r ∷ later) r.folio t timeout) (λ x. single-cons r later r.folio t timeout (sym (held-listed later r.folio) ∙ x))))
      (λ e. passed-by f r.folio (held_folios later t timeout) (is_held (r ∷ later) r.folio t timeout && not (some (eqb r.folio) (held_folios later t timeout))) (eqb-false _ _ e) ∙ held-listed later f ∙ sym (held_cons r later f t timeout (eqb-false _ _ e)))

once_by : (g : ℕ) (xs : List ℕ) (a : Bool) → repeats xs ≡ false → repeats (cond (a && not (some (eqb g) xs)) (g ∷ xs) xs) ≡ false
unfolding repeats
once_by g xs true d = by_cases (some (eqb g) xs) (λ x. rw x d) (λ x. rw (x, x) d)
once_by g xs false d = d

pub held-once : (t timeout : ℕ) (h : List TraceRow) → repeats (held_folios h t timeout) ≡ false
unfolding held_folios repeats
held-once t timeout [] = refl
held-once t timeout (r ∷ later) = once_by r.folio (held_folios later t timeout) (is_held (r ∷ later) r.folio t timeout) (held-once t timeout later)
