-- A text is cut line by line: its first line, and the lines of what stands behind it.
-- Assumes nothing.
use Prim.Native.Nat.{ℕ, suc, ◌+◌, ◌-◌, ◌<◌, ◌≤◌}
use mathlib.Core.Path.{◌≡◌, refl, sym, ap, ◌∙◌}
use mathlib.Core.Bool.{Bool, true, false, not, cond}
use mathlib.Core.List.{List, [], ◌∷◌}
use native.Mathlib.Omega.{arith}
use native.Mathlib.Decide.{dec_lt}
use native.Mathlib.Numerals.{add-one}
use lib.Dec.{eqb, ltb}
use lib.ListN.{length, get_or, take, drop, length-drop, drop_of_length-le}
use lib.Seq.{drop-drop, drop-cons}
use borrow.Author.Tests.{ltb-true, ltb-false, eq-eqb, ne_eqb}
use borrow.Author.Count.{below_none, below_more}
use Rattle.std.specs.List.{position, position_or_len}
use Rattle.std.specs.Bool.{◌==◌}
use Rattle.std.proofs.lemmas.Option.{none-some, cond_some}
use Rattle.std.specs.Prelude.{Some, None, Result, Err}
use Rattle.sheet.specs.declared.fault.Fault.{Fault}
use Rattle.sheet.specs.declared.fault.Fault.TheVariants.{UnlikeLine}
use Rattle.sheet.specs.Found.{FirstAt}
use Rattle.lines.specs.declared.Line.{Line}
use Rattle.lines.specs.Nine.{faulty, said}
use Rattle.lines.specs.LineTold.{line_told, TellsLine}
use Rattle.listing.specs.declared.Taken.{Taken}
use Rattle.listing.specs.Cut.{cut_up, begun, lines_said, line_at}
use Rattle.listing.specs.LineByLine.{index_of, index_after, CameTo, TakesLine}

-- ---- where a line ends

-- the byte that is sought stands in front
pub index-here : (x : ℕ) (t : List ℕ) (i : ℕ) → i < length t → get_or t i 0 ≡ x → index_of x (drop i t) ≡ 0
unfolding index_of index_after
index-here x t i h e = rw (drop-cons t i 0 h, eq-eqb (get_or t i 0) x e)

-- another byte stands in front
pub index-further : (x : ℕ) (t : List ℕ) (i : ℕ) → i < length t → (get_or t i 0 ≡ x → ⊥) → index_of x (drop i t) ≡ suc (index_of x (drop (suc i) t))
unfolding index_of index_after
index-further x t i h n = rw (drop-cons t i 0 h, ne_eqb (get_or t i 0) x n)

-- none is left
pub index-none : (x : ℕ) (t : List ℕ) (i : ℕ) → length t ≤ i → index_of x (drop i t) ≡ 0
unfolding index_of
index-none x t i h = rw (drop_of_length-le t {i = i} h)

-- the library's search for a line feed
feed-index : (t : List ℕ) → position_or_len (λ b. b == 10) t ≡ index_of 10 t
unfolding index_of index_after
feed-index [] = refl
feed-index (b ∷ t) = go (eqb b 10) (feed-index t)
  where
    go : (f : Bool) → position_or_len (λ b. b == 10) t ≡ index_of 10 t → cond (not f) (1 + position_or_len (λ b. b == 10) t) 0 ≡ index_after f (index_of 10 t)
    go true e = refl
    go false e = omega (arith, e)

pub feed-found : (t : List ℕ) (n : ℕ) → Some n ≡ position (λ b. b == 10) t → (n ≡ index_of 10 t) × (n < length t)
feed-found t n e = let q = cond_some (ltb (position_or_len (λ b. b == 10) t) (length t)) _ _ (sym e) in (sym q.1 ∙ feed-index t, rw (sym q.1) (ltb-true _ _ q.0))

pub feed-missing : (t : List ℕ) → None ≡ position (λ b. b == 10) t → length t ≤ index_of 10 t
feed-missing t e = go (ltb (position_or_len (λ b. b == 10) t) (length t)) refl
  where
    go : (b : Bool) → ltb (position_or_len (λ b. b == 10) t) (length t) ≡ b → length t ≤ index_of 10 t
    go true q = absurd (none-some (position_or_len (λ b. b == 10) t) (e ∙ rw q refl))
    go false q = omega (arith, feed-index t, ltb-false _ _ q)

-- ---- the first line

-- a line feed: what stands before it is the first line
cut-first : (t : List ℕ) → index_of 10 t < length t
    → cut_up t ≡ record { ended = take (index_of 10 t) t ∷ (cut_up (drop (suc (index_of 10 t)) t)).ended; left = (cut_up (drop (suc (index_of 10 t)) t)).left }
unfolding index_of index_after cut_up begun
cut-first [] h = absurd (omega arith)
cut-first (b ∷ t) h = go (eqb b 10) (cut-first t) h
  where
    go : (f : Bool) → (index_of 10 t < length t → cut_up t ≡ record { ended = take (index_of 10 t) t ∷ (cut_up (drop (suc (index_of 10 t)) t)).ended; left = (cut_up (drop (suc (index_of 10 t)) t)).left })
        → index_after f (index_of 10 t) < suc (length t)
        → cond f (record { ended = [] ∷ (cut_up t).ended; left = (cut_up t).left }) (begun b (cut_up t))
        ≡ record { ended = take (index_after f (index_of 10 t)) (b ∷ t) ∷ (cut_up (drop (suc (index_after f (index_of 10 t))) (b ∷ t))).ended; left = (cut_up (drop (suc (index_after f (index_of 10 t))) (b ∷ t))).left }
    go true more h = refl
    go false more h = ap (begun b) (more (omega arith))

-- no line feed: all of it is left
cut-last : (t : List ℕ) → length t ≤ index_of 10 t → cut_up t ≡ record { ended = []; left = t }
unfolding index_of index_after cut_up begun
cut-last [] h = refl
cut-last (b ∷ t) h = go (eqb b 10) (cut-last t) h
  where
    go : (f : Bool) → (length t ≤ index_of 10 t → cut_up t ≡ record { ended = []; left = t }) → suc (length t) ≤ index_after f (index_of 10 t)
        → cond f (record { ended = [] ∷ (cut_up t).ended; left = (cut_up t).left }) (begun b (cut_up t)) ≡ record { ended = []; left = b ∷ t }
    go true more h = absurd (omega arith)
    go false more h = ap (begun b) (more (omega arith))

-- ---- what the lines say

pub says_first : (t : List ℕ) → index_of 10 t < length t → lines_said t ≡ said (take (index_of 10 t) t) ∷ lines_said (drop (suc (index_of 10 t)) t)
unfolding lines_said
says_first t h = rw (cut-first t h) refl

pub says_none : lines_said [] ≡ []
unfolding lines_said cut_up
says_none = refl

says_last : (t : List ℕ) → 0 < length t → length t ≤ index_of 10 t → lines_said t ≡ faulty 40 ∷ []
unfolding lines_said
says_last [] l h = absurd (omega arith)
says_last (b ∷ t) l h = rw (cut-last (b ∷ t) h) refl

-- ---- the line that starts at a place

module _ (text : List ℕ) (at : ℕ) (h : at < length text) where
  module _ (end : ℕ) (e : end ≡ at + index_of 10 (drop at text)) where
    feed-at : at + index_of 10 (drop at text) ≡ end
    feed-at = sym e

    pub takes-line : end < length text → (l : Result Line Fault) → TellsLine (said (take (end - at) (drop at text))) l → TakesLine text at (record { line = l; next = end + 1 })
    takes-line g l q =
        let k : index_of 10 (drop at text) ≡ end - at = omega (arith, feed-at) in
        let z : at + suc (index_of 10 (drop at text)) ≡ end + 1 = omega (arith, feed-at) in
        record {
          inside = omega arith;
          passed = omega (arith, feed-at);
          good = q.good;
          says = says_first (drop at text) (omega (arith, feed-at, length-drop at text))
              ∙ (λ i. ap (λ (n : ℕ). said (take n (drop at text))) k i ∷ lines_said (drop-drop (suc (index_of 10 (drop at text))) at text i))
              ∙ (λ i. sym q.line i ∷ lines_said (drop (z i) text));
        }

    pub takes-last : length text ≤ end → TakesLine text at (record { line = Err UnlikeLine; next = length text })
    takes-last g =
        let n : drop (length text) text ≡ [] = drop_of_length-le text {i = length text} (omega arith) in
        record {
          inside = omega arith;
          passed = h;
          good = tt;
          says = says_last (drop at text) (omega (arith, length-drop at text)) (omega (arith, feed-at, length-drop at text)) ∙ (λ i. faulty 40 ∷ (sym says_none ∙ ap lines_said (sym n)) i);
        }

-- ---- from line to line

module _ (text : List ℕ) where
  pub came-first : CameTo text 0 0
  came-first = record { inside = omega arith; passed = omega arith; many = omega arith; rest = refl }

  module _ (i at : ℕ) (C : CameTo text i at) where
    -- a line is to come exactly if bytes are
    pub more_bytes : i < length (lines_said text) → at < length text
    more_bytes h = go (dec_lt at (length text))
      where
        go : Dec (at < length text) → at < length text
        go (yes l) = l
        go (no l) =
            let e = C.rest ∙ ap lines_said (drop_of_length-le text {i = at} (omega arith)) ∙ says_none in
            absurd (omega (arith, ap length e, length-drop i (lines_said text)))

    pub came-end : length text ≤ at → i ≡ length (lines_said text)
    came-end h =
        let e = C.rest ∙ ap lines_said (drop_of_length-le text {i = at} h) ∙ says_none in
        omega (arith, ap length e, length-drop i (lines_said text), C.many)

    module _ (r : Taken) (T : TakesLine text at r) where
      next-line : drop i (lines_said text) ≡ line_told r.line ∷ lines_said (drop r.next text)
      next-line = C.rest ∙ T.says

      pub came-inside : i < length (lines_said text)
      came-inside = omega (arith, ap length next-line, length-drop i (lines_said text))

      both : get_or (lines_said text) i (faulty 40) ∷ drop (suc i) (lines_said text) ≡ line_told r.line ∷ lines_said (drop r.next text)
      both = sym (drop-cons (lines_said text) i (faulty 40) came-inside) ∙ next-line

      pub line_taken : line_told r.line ≡ line_at (lines_said text) i
      line_taken = cc both

      -- what is told of the line taken is told of line i
      pub line-tells : (f : Line → Bool) (l : Line) → l ≡ line_told r.line → (b v : Bool) → b ≡ f l → b ≡ v → f (line_at (lines_said text) i) ≡ v
      line-tells f l t b v e q = ap f (sym (t ∙ line_taken)) ∙ sym e ∙ q

      pub came-next : CameTo text (i + 1) r.next
      came-next =
          let l = came-inside in
          let d : drop (suc i) (lines_said text) ≡ lines_said (drop r.next text) = cc both in
          record { inside = T.inside; passed = omega (arith, C.passed, T.passed); many = omega arith; rest = rw (add-one i) d }

-- ---- what holds of every line passed

pub record PassedBy (text : List ℕ) (P : ℕ → Type 0) (i at : ℕ) : Type 0 where
  pub came : CameTo text i at
  pub so_far : (j : ℕ) → j < i → P j

module _ (text : List ℕ) (P : ℕ → Type 0) where
  pub through-first : PassedBy text P 0 0
  through-first = record { came = came-first text; so_far = below_none P }

  pub through-next : (i at : ℕ) → PassedBy text P i at → (r : Taken) → TakesLine text at r → P i → PassedBy text P (i + 1) r.next
  through-next i at T r L p = record { came = came-next text i at T.came r L; so_far = below_more P i T.so_far p }

-- the first line that passes a test, or none
module _ (text : List ℕ) (test : ℕ → Bool) (count i at : ℕ) (T : PassedBy text (λ j. test j ≡ false) i at) where
  pub stands_here : i < count → test i ≡ true → FirstAt test count (Some i)
  stands_here h e = (h, record { most = omega arith; before = T.so_far; found = λ l. e })

  pub stands-nowhere : count ≤ i → FirstAt test count None
  stands-nowhere h = record { most = omega arith; before = λ j l. T.so_far j (omega arith); found = λ l. absurd (omega arith) }
