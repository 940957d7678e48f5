-- What holds a folio, in the request's own sentence.
-- Assumes nothing.
use Prim.Native.Nat.{ℕ, ◌+◌, ◌<◌}
use mathlib.Core.Path.{◌≡◌, refl, ap}
use mathlib.Core.Bool.{true, false, not, ◌&&◌, false≢true, or-true}
use mathlib.Core.List.{List, [], ◌∷◌, ◌++◌}
use lib.Dec.{ltb}
use borrow.Author.Tests.{lt-ltb, ltb-true, not-true}
use Rattle.watch.specs.History.{some, starts_folio, ends_folio, holds_at, holding, held_before, HeldBy}
use Rattle.watch.specs.declared.TraceRow.{TraceRow}
use Rattle.paths.proofs.Tests.{and_left, and_right}
use Rattle.watch.proofs.Tests.{by_cases}

module _ (b f t timeout : ℕ) where
  further : (r : TraceRow) (h : List TraceRow) → HeldBy b h f t timeout → HeldBy b (r ∷ h) f t timeout
  further r h g = record { earlier = r ∷ g.earlier; row = g.row; later = g.later; split = ap (λ (z : List TraceRow). r ∷ z) g.split; start = g.start; before = g.before; time = g.time; kept = g.kept }

  this : (r : TraceRow) (h : List TraceRow) → holds_at r h f t timeout ≡ true → ltb r.minute b ≡ true → HeldBy b (r ∷ h) f t timeout
  unfolding holds_at
  this r h e l =
      let k : ltb t (r.minute + timeout) && not (some (ends_folio f) h) ≡ true = and_right (starts_folio f r) _ e in
      record { earlier = []; row = r; later = h; split = refl; start = and_left (starts_folio f r) _ e; before = ltb-true _ _ l; time = ltb-true _ _ (and_left _ (not (some (ends_folio f) h)) k); kept = not-true _ (and_right (ltb t (r.minute + timeout)) _ k) }

  pub held_by_lem : (h : List TraceRow) → held_before b h f t timeout ≡ true → HeldBy b h f t timeout
  unfolding held_before holding some
  held_by_lem [] e = absurd (false≢true e)
  held_by_lem (r ∷ h) e =
      by_cases (holds_at r h f t timeout)
      (λ x. by_cases (ltb r.minute b) (λ l. this r h x l) (λ l. further r h (held_by_lem h (rw (x, l) at e))))
      (λ x. further r h (held_by_lem h (rw x at e)))

  by-held-at : (before : List TraceRow) (r : TraceRow) (later : List TraceRow) → starts_folio f r ≡ true → r.minute < b → t < r.minute + timeout → some (ends_folio f) later ≡ false → held_before b (before ++ (r ∷ later)) f t timeout ≡ true
  unfolding held_before holding holds_at some
  by-held-at [] r later s l m k = rw (s, lt-ltb _ _ m, k, lt-ltb _ _ l) refl
  by-held-at (q ∷ before) r later s l m k =
      by_cases (holds_at q (before ++ (r ∷ later)) f t timeout)
      (λ x. rw (x, by-held-at before r later s l m k) (or-true (ltb q.minute b)))
      (λ x. rw x (by-held-at before r later s l m k))

  pub by-held : (h : List TraceRow) → HeldBy b h f t timeout → held_before b h f t timeout ≡ true
  by-held h g = rw g.split (by-held-at g.earlier g.row g.later g.start g.before g.time g.kept)
