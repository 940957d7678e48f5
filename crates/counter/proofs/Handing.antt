-- A witness in words, as the inner question gives it, and in bytes, as the counter hands it over.
-- Assumes nothing.
use Prim.Native.Nat.{ℕ, ◌*◌, ◌<◌, ◌≤◌}
use native.Mathlib.Omega.{arith}
use native.Mathlib.Decide.{dec_lt}
use mathlib.Core.Path.{◌≡◌, refl, sym, ap, subst, ◌∙◌}
use mathlib.Core.List.{List, ◌++◌}
use lib.ListN.{length, take, drop}
use lib.Seq.{take_at}
use Rattle.sheet.specs.declared.Refusal.{Refusal}
use Rattle.sheet.specs.Refusals.{none, refuse, ◌then◌, written, Writes}
use Rattle.sheet.proofs.Writing.{short-lacks, writes-room}
use Rattle.files.specs.Bytes.{bytes_of}
use Rattle.files.proofs.Words.{bytes-long}
use Rattle.question.specs.declared.Answer.{Answer}
use Rattle.question.specs.Asked.{plain}
use Rattle.question.specs.Replies.{refused_by, tells, Shows}
use Rattle.counter.specs.Filed.{InBytes, in_bytes}

-- bytes written, or 25
pub data BytesWritten (bytes out : List ℕ) (r : Refusal) (out' : List ℕ) : Type 0 where
  all : r ≡ none → length bytes ≤ length out → out' ≡ bytes ++ drop (length bytes) out → BytesWritten bytes out r out'
  not-all : r ≡ plain 25 → length out < length bytes → out' ≡ out → BytesWritten bytes out r out'

not-25 : (plain 25).number ≡ 0 → ⊥
unfolding refuse
not-25 e = omega (arith, e)

written-or : (bytes out : List ℕ) (r : Refusal) (out' : List ℕ) → Writes none bytes out r out' → BytesWritten bytes out r out'
unfolding ◌then◌ refuse written
written-or bytes out r out' w = go (dec_lt (length out) (length bytes))
  where
    go : Dec (length out < length bytes) → BytesWritten bytes out r out'
    go (yes l) = let e = w.told ∙ short-lacks (length out) (length bytes) l in not-all e l (w.holds ∙ ap (λ (x : Refusal). written x.number bytes out) e)
    go (no l) = let q = writes-room bytes out r out' w (omega arith) in all q.0 (omega arith) q.1

-- a question that refuses, where there was room for any witness: in bytes it refuses too
pub still-refused : (refusal : Refusal) (R : List ℕ → Type 0) (room : List ℕ) (a : Answer) (room' : List ℕ) → Shows refusal R room a room'
    → ((ws : List ℕ) → refusal.number ≡ 0 → R ws → length ws ≤ length room) → (a.number ≡ 0 → ⊥) → (out : List ℕ) → Shows refusal (InBytes R) out a out
still-refused refusal R room a room' (Shows.refused h) fits z out = Shows.refused h
still-refused refusal R room a room' (Shows.missing y n) fits z out = Shows.missing y (λ bs b. none-such bs b)
  where
    none-such : (bs : List ℕ) → InBytes R bs → ⊥
    none-such bs (in_bytes ws w) = n ws w
still-refused refusal R room a room' (Shows.short ws y w l) fits z out = absurd (omega (arith, fits ws y w, l))
still-refused refusal R room a room' (Shows.written ws y w l) fits z out = absurd (z refl)

-- a question that is answered: the words stand in front
pub record WordsInFront (refusal : Refusal) (R : List ℕ → Type 0) (room : List ℕ) (a : Answer) (room' : List ℕ) : Type 0 where
  pub stands : refusal.number ≡ 0
  pub fits : a.count ≤ length room
  pub long : length (take a.count room') ≡ a.count
  pub is : R (take a.count room')

pub words-in-front : (refusal : Refusal) (R : List ℕ → Type 0) (room : List ℕ) (a : Answer) (room' : List ℕ) → Shows refusal R room a room' → a.number ≡ 0 → WordsInFront refusal R room a room'
unfolding refuse
words-in-front refusal R room a room' (Shows.refused h) z = absurd (h z)
words-in-front refusal R room a room' (Shows.missing y n) z = absurd (omega (arith, z))
words-in-front refusal R room a room' (Shows.short ws y w l) z = absurd (omega (arith, z))
words-in-front refusal R room a room' (Shows.written ws y w l) z =
    let e : take (length ws) (ws ++ drop (length ws) room) ≡ ws = take_at ws (drop (length ws) room) (length ws) (omega arith) in
    record { stands = y; fits = l; long = ap length e; is = subst R (sym e) w }

module _ (refusal : Refusal) (R : List ℕ → Type 0) (room : List ℕ) (a : Answer) (room' : List ℕ) (x : WordsInFront refusal R room a room') (out : List ℕ) (r : Refusal) (out' : List ℕ)
    (w : Writes none (bytes_of (take a.count room')) out r out') (b : Answer) where
  abbrev ws : List ℕ
  ws = take a.count room'

  same : (y : Answer) (o : List ℕ) → b ≡ y → out' ≡ o → Shows refusal (InBytes R) out y o → Shows refusal (InBytes R) out b out'
  same y o e q s = subst (λ (v : List ℕ). Shows refusal (InBytes R) out b v) (sym q) (subst (λ (u : Answer). Shows refusal (InBytes R) out u o) (sym e) s)

  pub bytes-short : (r.number ≡ 0 → ⊥) → b ≡ refused_by r → Shows refusal (InBytes R) out b out'
  bytes-short z e = go (written-or (bytes_of ws) out r out' w)
    where
      go : BytesWritten (bytes_of ws) out r out' → Shows refusal (InBytes R) out b out'
      go (all q l o) = absurd (z (ap (λ (y : Refusal). y.number) q))
      go (not-all q l o) = same (refused_by (plain 25)) out (e ∙ ap refused_by q) o (Shows.short (bytes_of ws) x.stands (in_bytes ws x.is) l)

  pub bytes-written : r.number ≡ 0 → b ≡ tells 0 (4 * a.count) → Shows refusal (InBytes R) out b out'
  bytes-written z e = go (written-or (bytes_of ws) out r out' w)
    where
      count : length (bytes_of ws) ≡ 4 * a.count
      count = omega (arith, bytes-long ws, x.long)

      go : BytesWritten (bytes_of ws) out r out' → Shows refusal (InBytes R) out b out'
      go (all q l o) = same (tells 0 (length (bytes_of ws))) _ (e ∙ ap (tells 0) (sym count)) o (Shows.written (bytes_of ws) x.stands (in_bytes ws x.is) l)
      go (not-all q l o) = absurd (not-25 (sym (ap (λ (y : Refusal). y.number) q) ∙ z))
