-- A search along a list, and a list changed element by element, as loops go. Assumes nothing.
use Prim.Native.Nat.{ℕ, suc, ◌+◌, ◌-◌, ◌≤◌, ◌<◌}
use mathlib.Core.Path.{◌≡◌, refl, sym, ◌∙◌}
use mathlib.Core.Bool.{true, false, Bool}
use mathlib.Core.List.{List, [], ◌∷◌, ◌++◌, append_assoc}
use native.Mathlib.Omega.{arith}
use native.Mathlib.Numerals.{add-one}
use lib.ListN.{length, get_or, take, drop, set, drop_of_length-le, length-drop}
use lib.Seq.{drop-cons, take-suc, take_all, set_at, length-take-le}
use borrow.Author.Tests.{eq-eqb, ne_eqb, ltb-true}
use Rattle.watch.proofs.Tests.{length-changed, by_cases}
use lib.Dec.{eqb, ltb}
use Rattle.std.specs.Prelude.{Some, None}
use Rattle.std.specs.List.{position_or_len}
use Rattle.std.proofs.lemmas.Option.{cond_some}
use Rattle.watch.specs.History.{changed, some}
use Rattle.watch.specs.WatchTable.{free_at, free_place, doubled, names_folio}
use Rattle.watch.specs.declared.Emergency.{Emergency}

module _ {A : Type 0} (t : A → Bool) (l : List A) (i : ℕ) where
  pub some_end : length l ≤ i → some t (drop i l) ≡ false
  unfolding some
  some_end h = rw (drop_of_length-le l h) refl

  pub some-hit : (d : A) → i < length l → t (get_or l i d) ≡ true → some t (drop i l) ≡ true
  unfolding some
  some-hit d h e = rw (drop-cons l i d h, e) refl

  pub some-miss : (d : A) → i < length l → t (get_or l i d) ≡ false → some t (drop i l) ≡ some t (drop (i + 1) l)
  unfolding some
  some-miss d h e = rw (add-one i, drop-cons l i d h, e) refl

module _ (l : List Emergency) (i : ℕ) where
  pub free-end : length l ≤ i → free_at (drop i l) ≡ 0
  unfolding free_at
  free-end h = rw (drop_of_length-le l h) refl

  pub free-hit : (d : Emergency) → i < length l → (get_or l i d).mark ≡ 0 → free_at (drop i l) ≡ 0
  unfolding free_at
  free-hit d h e = rw (drop-cons l i d h, eq-eqb _ _ e) refl

  pub free-miss : (d : Emergency) → i < length l → ((get_or l i d).mark ≡ 0 → ⊥) → free_at (drop i l) ≡ suc (free_at (drop (i + 1) l))
  unfolding free_at
  free-miss d h e = rw (add-one i, drop-cons l i d h, ne_eqb _ _ e) refl

  pub doubled-end : length l ≤ i → doubled (drop i l) ≡ false
  unfolding doubled
  doubled-end h = rw (drop_of_length-le l h) refl

  pub doubled-skip : (d : Emergency) → i < length l → (get_or l i d).mark ≡ 0 → doubled (drop i l) ≡ doubled (drop (i + 1) l)
  unfolding doubled
  doubled-skip d h e = rw (add-one i, drop-cons l i d h, eq-eqb _ _ e) refl

  pub doubled-hit : (d : Emergency) → i < length l → ((get_or l i d).mark ≡ 0 → ⊥) → some (names_folio (get_or l i d).folio) (drop (i + 1) l) ≡ true → doubled (drop i l) ≡ true
  unfolding doubled
  doubled-hit d h e g = rw (drop-cons l i d h, ne_eqb _ _ e, ← (add-one i), g) refl

  pub doubled-miss : (d : Emergency) → i < length l → ((get_or l i d).mark ≡ 0 → ⊥) → some (names_folio (get_or l i d).folio) (drop (i + 1) l) ≡ false → doubled (drop i l) ≡ doubled (drop (i + 1) l)
  unfolding doubled
  doubled-miss d h e g = rw (add-one i, drop-cons l i d h, ne_eqb _ _ e, rw (add-one i) at g) refl

-- the places from i on, as the code takes them
pub rest-is : (l : List Emergency) (i : ℕ) → length l ≡ 32 → take (32 - i) (drop i l) ≡ drop i l
rest-is l i e = take_all (32 - i) (drop i l) (omega (arith, length-drop i l, e))

free-is : (ps : List Emergency) → free_at ps ≡ position_or_len (λ (p : Emergency). eqb p.mark 0) ps
unfolding free_at
free-is [] = refl
free-is (p ∷ ps) = by_cases (eqb p.mark 0) (λ e. rw e refl) (λ e. rw e (omega (arith, free-is ps)))

-- an empty place that was found is the first, and one of the table's
pub free-some : (ps : List Emergency) (i : ℕ) → length ps ≡ 32 → Some i ≡ free_place ps → (i < 32) × (free_at ps ≡ i)
free-some ps i l e =
    let p : (ltb (position_or_len (λ (q : Emergency). eqb q.mark 0) ps) (length ps) ≡ true) × (position_or_len (λ (q : Emergency). eqb q.mark 0) ps ≡ i) = cond_some _ _ _ (sym e) in
    (omega (arith, ltb-true _ _ p.0, p.1, l), free-is ps ∙ p.1)

pub free-none : (ps : List Emergency) → length ps ≡ 32 → None ≡ free_place ps → ltb (free_at ps) 32 ≡ false
free-none ps l e =
    by_cases (ltb (position_or_len (λ (q : Emergency). eqb q.mark 0) ps) (length ps))
    (λ t. let z = rw t at e in cc)
    (λ f. rw (free-is ps, ← l) f)

changed-append : {A : Type 0} (f : A → A) (xs ys : List A) → changed f (xs ++ ys) ≡ changed f xs ++ changed f ys
changed-append f [] ys = refl
changed-append f (x ∷ xs) ys = rw (changed-append f xs ys) refl

module _ {A : Type 0} (f : A → A) (l : List A) (i : ℕ) where
  -- the first i elements changed: one more is
  pub mapped-step : (d : A) → i < length l → set (changed f (take i l) ++ drop i l) i (f (get_or l i d)) ≡ changed f (take (i + 1) l) ++ drop (i + 1) l
  mapped-step d h =
      rw (add-one i, drop-cons l i d h, take-suc l i d h, set_at (changed f (take i l)) (get_or l i d) (drop (suc i) l) (f (get_or l i d)) i (length-changed f (take i l) ∙ length-take-le i l (omega arith)), changed-append f (take i l) (get_or l i d ∷ []))
      (sym (append_assoc (changed f (take i l)) (f (get_or l i d) ∷ []) (drop (suc i) l)))

  -- what is read there is what stood there
  pub mapped-read : (d : A) → i < length l → get_or (changed f (take i l) ++ drop i l) i d ≡ get_or l i d
  mapped-read d h = rw (drop-cons l i d h) (lib.Seq.get_or_at (changed f (take i l)) (get_or l i d) (drop (suc i) l) d i (length-changed f (take i l) ∙ length-take-le i l (omega arith)))

  pub mapped_next : (d : A) (out : List A) (v : A) → i < length l → out ≡ changed f (take i l) ++ drop i l → v ≡ f (get_or out i d) → set out i v ≡ changed f (take (i + 1) l) ++ drop (i + 1) l
  mapped_next d out v h e g = rw (g, e, mapped-read d h) (mapped-step d h)

  pub mapped-all : length l ≤ i → changed f (take i l) ++ drop i l ≡ changed f l
  mapped-all h = rw (take_all i l h, drop_of_length-le l h) (mathlib.Core.List.append-nil (changed f l))
