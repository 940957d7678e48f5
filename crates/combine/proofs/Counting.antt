-- Counts of a combination. Where a rule makes nothing of the second table's marks alone, no row is the second's alone; a rule that drops no row has the rows of both tables, the shared ones once.
-- Assumes nothing.
use Prim.Native.Nat.{ℕ, ◌+◌, ◌<◌}
use mathlib.Core.Path.{◌≡◌, refl}
use mathlib.Core.Bool.{Bool, true, false, not, ◌&&◌}
use native.Mathlib.Omega.{arith}
use lib.Dec.{ltb}
use borrow.Author.Tests.{lt-ltb}
use Rattle.tables.specs.Count.{how_many, has, shared}
use Rattle.tables.specs.Table.{Row, rows_of, marks_at}
use Rattle.tables.proofs.Counts.{many-same, many-all, many-none, many-not, shared-swap}
use Rattle.tables.proofs.Keys.{one-row}
use Rattle.combine.specs.Combined.{Making, keys, IsTable, first_stays, second_stays, rows_kept}

pub kept-few : (F : Making) (n : ℕ) (f : ℕ → Row) (m : ℕ) (g : ℕ → Row) → ((y : ℕ) → F 0 y ≡ 0) → rows_kept F n f m g ≡ how_many (first_stays F f m g) n
unfolding rows_kept second_stays
kept-few F n f m g none = let z = many-none (second_stays F n f g) m (λ j l. alone j) in omega arith
  where
    and-false : (b : Bool) → (b && false) ≡ false
    and-false true = refl
    and-false false = refl

    alone : (j : ℕ) → second_stays F n f g j ≡ false
    alone j = rw (none (g j).marks) (and-false (not (has n (keys f) (g j).key)))

pub kept-both : (F : Making) (n : ℕ) (f : ℕ → Row) (A : IsTable n f) (m : ℕ) (g : ℕ → Row) (B : IsTable m g) → ((x y : ℕ) → 0 < x → 0 < F x y) → ((y : ℕ) → 0 < y → 0 < F 0 y)
    → rows_kept F n f m g + shared n (keys f) m (keys g) ≡ n + m
unfolding rows_kept first_stays second_stays
kept-both F n f A m g B first second =
    let a = many-all (λ i. ltb 0 (F (f i).marks (marks_at (rows_of m g) (f i).key))) n (λ i l. lt-ltb 0 _ (first _ _ (A.some i l))) in
    let b = many-same (λ j. not (has n (keys f) (g j).key) && ltb 0 (F 0 (g j).marks)) (λ j. not (has n (keys f) (g j).key)) m (λ j l. rw (lt-ltb 0 (F 0 (g j).marks) (second _ (B.some j l))) (and-true _)) in
    let c = many-not (λ j. has n (keys f) (g j).key) m in
    let d = shared-swap m (keys g) (one-row (keys g) m B.up) n (keys f) (one-row (keys f) n A.up) in
    omega arith
  where
    and-true : (t : Bool) → (t && true) ≡ t
    and-true true = refl
    and-true false = refl
