-- What is refused of a row, line by line, and what an answer shows.
-- Assumes nothing.
use Prim.Native.Nat.{ℕ, ◌<◌, ◌≤◌}
use mathlib.Core.Path.{◌≡◌, refl, sym, ap, ap₂, subst, ◌∙◌}
use mathlib.Core.Bool.{Bool, true, false, not}
use mathlib.Core.List.{List, ◌++◌}
use native.Mathlib.Omega.{arith}
use lib.Dec.{ltb, T}
use lib.ListN.{length, take, drop}
use lib.Seq.{take_at}
use borrow.Author.Tests.{lt-ltb, le-ltb, ltb-true}
use Rattle.tables.specs.Count.{has}
use Rattle.sheet.specs.declared.Cells.{Cells}
use Rattle.sheet.specs.declared.Half.{Half}
use Rattle.sheet.specs.declared.Half.TheVariants.{Nodes, Edges}
use Rattle.sheet.specs.declared.Header.{Header}
use Rattle.sheet.specs.declared.Refusal.{Refusal}
use Rattle.sheet.specs.Refusals.{none, refuse}
use Rattle.sheet.specs.Rows.{header_of, count_in, row_key, row_key_at}
use Rattle.sheet.specs.Verdict.{row_fault, verdict}
use Rattle.sheet.proofs.Refusing.{taken, left, some_is, none_is, else-good, line-good}
use Rattle.question.specs.declared.Answer.{Answer}
use Rattle.std.specs.Prelude.{Ok, Err}
use Rattle.sheet.specs.declared.fault.Fault.{Fault}
use Rattle.sheet.specs.declared.formed.Sheet.{Sheet}
use Rattle.sheet.specs.FaultNumbers.{fault_number}
use Rattle.sheet.specs.Found.{PlaceIs}
use Rattle.combine.specs.Made as puts
use Rattle.question.specs.Asked.{after_sheet}
use Rattle.question.specs.Replies.{refused_by, tells}
use Rattle.question.proofs.Telling.{after-bad, after-fault, after-nothing}
use Rattle.add.specs.Adding.{already_there, most_in, add_fault, ShowsRow, refused, short, written, AddsRow, PutsRow}

module _ (half : Half) (s : List ℕ) (h : Header) (head : h ≡ header_of s) (c : Cells) where
  own-fault : (k : ℕ) → k ≡ row_fault half s h c → k ≡ row_fault half s (header_of s) c
  own-fault k e = subst (λ (x : Header). k ≡ row_fault half s x c) head e

  pub fault-own : (k : ℕ) → k ≡ row_fault half s h c → (k ≡ 0 → ⊥) → k ≡ add_fault half s c
  unfolding add_fault
  fault-own k e z = some_is _ _ _ (own-fault k e) z

  module _ (k : ℕ) (e : k ≡ row_fault half s h c) (z : k ≡ 0) where
    pub fault-there : (x : ℕ) → has (count_in half h) (row_key_at half s) (row_key c) ≡ true → x ≡ already_there half → x ≡ add_fault half s c
    unfolding add_fault
    fault-there x t q = none_is _ _ _ _ (own-fault k e) z (q ∙ taken _ _ _ (subst (λ (y : Header). has (count_in half y) (row_key_at half s) (row_key c) ≡ true) head t))

    module _ (free : has (count_in half h) (row_key_at half s) (row_key c) ≡ false) where
      not_there : has (count_in half (header_of s)) (row_key_at half s) (row_key c) ≡ false
      not_there = subst (λ (y : Header). has (count_in half y) (row_key_at half s) (row_key c) ≡ false) head free

      pub fault-full : most_in half h ≤ count_in half h → 4 ≡ add_fault half s c
      unfolding add_fault
      fault-full l = none_is _ _ _ _ (own-fault k e) z (left _ _ _ _ not_there (taken _ _ _ (ap not (le-ltb (count_in half (header_of s)) (most_in half (header_of s)) (subst (λ (y : Header). most_in half y ≤ count_in half y) head l)))))

      pub fault-free : count_in half h < most_in half h → 0 ≡ add_fault half s c
      unfolding add_fault
      fault-free l = none_is _ _ _ _ (own-fault k e) z (left _ _ _ _ not_there (left _ _ _ _ (ap not (lt-ltb (count_in half (header_of s)) (most_in half (header_of s)) (subst (λ (y : Header). count_in half y < most_in half y) head l))) refl))

-- a row of which nothing is refused
pub record Good (half : Half) (s : List ℕ) (c : Cells) : Type 0 where
  pub row : row_fault half s (header_of s) c ≡ 0
  pub free : has (count_in half (header_of s)) (row_key_at half s) (row_key c) ≡ false
  pub room : count_in half (header_of s) < most_in half (header_of s)

some-refusal : (half : Half) → T (ltb 0 (already_there half))
some-refusal Nodes = tt
some-refusal Edges = tt

pub fault-good : (half : Half) (s : List ℕ) (c : Cells) → add_fault half s c ≡ 0 → Good half s c
unfolding add_fault
fault-good half s c e =
    let a = else-good _ _ e in
    let b = line-good _ _ _ (some-refusal half) a.1 in
    let d = line-good _ _ _ tt b.1 in
    record { row = a.0; free = b.0; room = ltb-true _ _ (not-false _ d.0) }
  where
    not-false : (b : Bool) → not b ≡ false → b ≡ true
    not-false true q = refl
    not-false false q = sym q

-- ---- answers

-- any two answers that a statement allows are one, and so is what they leave, where R allows one sheet and one row
module _ (r : Refusal) (R : ℕ → List ℕ → Type 0) (one : r.number ≡ 0 → (i j : ℕ) (t u : List ℕ) → R i t → R j u → (i ≡ j) × (t ≡ u)) (out : List ℕ) where
  pub shows-row-one : {a b : Answer} {o o' : List ℕ} → ShowsRow r R out a o → ShowsRow r R out b o' → (a ≡ b) × (o ≡ o')
  shows-row-one (refused h) (refused h') = (refl, refl)
  shows-row-one (refused h) (short i t z x l) = absurd (h z)
  shows-row-one (refused h) (written i t z x l) = absurd (h z)
  shows-row-one (short i t z x l) (refused h) = absurd (h z)
  shows-row-one (short i t z x l) (short j u z' x' l') = (refl, refl)
  shows-row-one (short i t z x l) (written j u z' x' l') = let e = ap length (one z i j t u x x').1 in absurd (omega arith)
  shows-row-one (written i t z x l) (refused h) = absurd (h z)
  shows-row-one (written i t z x l) (short j u z' x' l') = let e = ap length (one z i j t u x x').1 in absurd (omega arith)
  shows-row-one (written i t z x l) (written j u z' x' l') =
      let e = one z i j t u x x' in
      (ap₂ (λ (x : ℕ) (w : List ℕ). tells x (length w)) e.0 e.1, ap (λ (w : List ℕ). w ++ drop (length w) out) e.1)

-- ---- what is told of a row

module _ (half : Half) (s : List ℕ) (c : Cells) (out : List ℕ) where
  -- as `verdict::accept` tells it
  pub adds-bad : (r : Refusal) → (r ≡ verdict 1 s) × (r.number ≡ 0 → ⊥) → AddsRow half s c out (refused_by r) out
  adds-bad r e = rw (← after-bad s (add_fault half s c) r e.0 e.1) (refused e.1)

  module _ (v : verdict 1 s ≡ none) (t : Sheet) (w : t.words.now ≡ s) where
    pub adds-fault : (f : Fault) (r : Refusal) → fault_number f ≡ add_fault half t.words.now c → r ≡ record { number = fault_number f; sheet = 0; row = 0 } → AddsRow half s c out (refused_by r) out
    adds-fault f r e q =
        let a = after-fault s (add_fault half s c) f r v (e ∙ ap (λ (x : List ℕ). add_fault half x c) w) q in
        rw (← a.0) (refused a.1)

    module _ (i : ℕ) (e : (add_fault half t.words.now c ≡ 0) × PlaceIs (row_key_at half t.words.now) (count_in half t.header) (row_key c) i) where
      -- nothing refuses the row
      stands : none ≡ after_sheet s (add_fault half s c)
      stands = after-nothing s (add_fault half s c) v (rw (← w) e.0)

      place : PlaceIs (row_key_at half s) (count_in half (header_of s)) (row_key c) i
      place = rw (← w, ← t.formed.head) e.1

      pub adds-short : (f : Fault) (r : Refusal) (out' : List ℕ) → r ≡ record { number = fault_number f; sheet = 0; row = 0 } → PutsRow half t.words.now c out (Err f) out' → AddsRow half s c out (refused_by r) out'
      unfolding refuse
      adds-short f r out' q (puts.short u x l) = rw (← stands, q) (short i u refl (rw (← w) x, place) l)

      pub adds-row : (n : ℕ) (out' : List ℕ) → PutsRow half t.words.now c out (Ok n) out' → AddsRow half s c out (tells i n) out'
      adds-row n out' (puts.written u x l) = rw (← stands) (written i u refl (rw (← w) x, place) l)

-- ---- what an answer shows

module _ (r : Refusal) (R : ℕ → List ℕ → Type 0) (out : List ℕ) where
  pub shown-row : {a : Answer} {o : List ℕ} → ShowsRow r R out a o → a.number ≡ 0 → (r.number ≡ 0) × R a.value (take a.count o)
  unfolding refuse
  shown-row (refused h) z = absurd (h z)
  shown-row (short i t y x l) z = absurd (omega (arith, z))
  shown-row (written i t y x l) z = (y, subst (R i) (sym (take_at t _ _ refl)) x)

  pub row-shown : {a : Answer} {o : List ℕ} → ShowsRow r R out a o → r.number ≡ 0 → ((i : ℕ) (t : List ℕ) → R i t → length t ≤ length out) → a.number ≡ 0
  row-shown (refused h) z room = absurd (h z)
  row-shown (short i t y x l) z room = absurd (omega (arith, room i t x, l))
  row-shown (written i t y x l) z room = refl
