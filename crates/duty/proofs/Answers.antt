-- The answers of a trace: each question has one, and they are written one after the other.
-- Assumes nothing.
use Prim.Native.Nat.{ℕ, zero, suc, ◌+◌, ◌-◌, ◌<◌, ◌≤◌}
use mathlib.Core.Path.{◌≡◌, refl, sym, ap, ap₂, subst, ◌∙◌}
use mathlib.Core.List.{List, [], ◌∷◌, ◌++◌}
use native.Mathlib.Omega.{arith}
use native.Mathlib.Decide.{dec_lt}
use lib.ListN.{length, set, drop, get_or, length-drop, length-append, get_or-append}
use lib.Seq.{sets, length-sets, drop-append_seam, drop-drop, get_or-drop}
use Rattle.std.specs.Prelude.{Result, Ok, Err}
use Rattle.std.specs.Result.{result_unwrap_or}
use Rattle.sheet.specs.declared.fault.Fault.{Fault}
use Rattle.tables.specs.Office.{View}
use Rattle.meaning.specs.Answers.{AnswerIs}
use Rattle.meaning.proofs.Unique.{answer-one}
use Rattle.watch.specs.declared.TraceRow.{TraceRow}
use Rattle.watch.specs.History.{Routed}
use Rattle.watch.specs.WatchTable.{Moved}
use Rattle.watch.specs.declared.Watch.{Watch}
use Rattle.watch.specs.WatchTable.{advanced, empty_watch, moved, told_row}
use Rattle.watch.specs.Trace.{row_of_words, TraceQuestion, question_in, asks, run_from}
use Rattle.watch.proofs.Tracing.{Running, running-start, running-all, running-next, running-room, running-goes, running-fits, asks_none, asks-one}
use Rattle.duty.specs.Desk.{in_turn, DeskAnswer, nobody, determined, passed_on, RowAnswer, TraceAnswers, no_more, one_more}
use Rattle.duty.specs.Answering.{PutsAnswers}

-- any two answers of the desk are equal
pub desk-one : (at : ℕ → View) (p d f : ℕ) (ks : List ℕ) (r r' : ℕ) → DeskAnswer at p d f ks r → DeskAnswer at p d f ks r' → r ≡ r'
desk-one at p d f _ _ _ nobody nobody = refl
desk-one at p d f _ _ _ (determined k ks r a h) (determined _ _ r' b g) = answer-one (at k) p d f r r' a b
desk-one at p d f _ _ _ (determined k ks r a h) (passed_on _ _ r' b x) = absurd (h (answer-one (at k) p d f r 0 a b))
desk-one at p d f _ _ _ (passed_on k ks r a x) (determined _ _ r' b g) = absurd (g (answer-one (at k) p d f r' 0 b a))
desk-one at p d f _ _ _ (passed_on k ks r a x) (passed_on _ _ r' b y) = desk-one at p d f ks r r' x y

-- the loop over the offices, from the last that there is down
in-turn : (k : ℕ) → 0 < k → k ≤ 2 → in_turn k ≡ k ∷ in_turn (k - 1)
in-turn zero h l = absurd (omega arith)
in-turn (suc zero) h l = refl
in-turn (suc (suc zero)) h l = refl
in-turn (suc (suc (suc k))) h l = absurd (omega arith)

module _ (at : ℕ → View) (p d f : ℕ) where
  pub desk-down : (k : ℕ) → k ≤ 0 → DeskAnswer at p d f (in_turn k) 0
  desk-down zero h = nobody
  desk-down (suc k) h = absurd (omega arith)

  module _ (k : ℕ) (h : 0 < k) (l : k ≤ 2) where
    pub desk-stops : (r : ℕ) → AnswerIs (at k) p d f r → (r ≡ 0 → ⊥) → DeskAnswer at p d f (in_turn k) r
    desk-stops r a n = subst (λ (ks : List ℕ). DeskAnswer at p d f ks r) (sym (in-turn k h l)) (determined k (in_turn (k - 1)) r a n)

    pub desk-next : (r v : ℕ) → AnswerIs (at k) p d f v → v ≡ 0 → DeskAnswer at p d f (in_turn (k - 1)) r → DeskAnswer at p d f (in_turn k) r
    desk-next r v a z x = subst (λ (ks : List ℕ). DeskAnswer at p d f ks r) (sym (in-turn k h l)) (passed_on k (in_turn (k - 1)) r (subst (λ (u : ℕ). AnswerIs (at k) p d f u) z a) x)

module _ (at : ℕ → View) where
  pub trace-answers-one : (qs : List TraceQuestion) (vs us : List ℕ) → TraceAnswers at qs vs → TraceAnswers at qs us → vs ≡ us
  trace-answers-one _ _ _ no_more no_more = refl
  trace-answers-one _ _ _ (one_more q v qs vs a x) (one_more _ u _ us b y) =
      ap₂ ◌∷◌ (desk-one at q.row.person q.row.deed q.row.folio (in_turn q.offices) v u a b) (trace-answers-one qs vs us x y)

  pub answers-many : (qs : List TraceQuestion) (vs : List ℕ) → TraceAnswers at qs vs → length vs ≡ length qs
  answers-many _ _ no_more = refl
  answers-many _ _ (one_more q v qs vs a x) = ap suc (answers-many qs vs x)

  pub answers-append : (qs ps : List TraceQuestion) (vs us : List ℕ) → TraceAnswers at qs vs → TraceAnswers at ps us → TraceAnswers at (qs ++ ps) (vs ++ us)
  answers-append _ ps _ us no_more y = y
  answers-append _ ps _ us (one_more q v qs vs a x) y = one_more q v (qs ++ ps) (vs ++ us) a (answers-append qs ps vs us x y)

-- what is stored behind what was stored
sets-on : (vs us l : List ℕ) (i : ℕ) → sets (sets l i vs) (i + length vs) us ≡ sets l i (vs ++ us)
sets-on [] us l i = ap (λ (k : ℕ). sets l k us) (omega arith)
sets-on (v ∷ vs) us l i = ap (λ (k : ℕ). sets (sets (set l i v) (suc i) vs) k us) (omega arith) ∙ sets-on vs us (set l i v) (suc i)

module _ (at : ℕ → View) (timeout : ℕ) (rows before : List ℕ) where
  -- a table after the rows up to word i, with the answers to the questions among them in front of the output
  pub record Putting (w : Watch) (i count : ℕ) (out : List ℕ) : Type 0 where
    pub run : Running timeout rows w i count
    pub answers : List ℕ
    pub are : TraceAnswers at run.questions answers
    pub holds : out ≡ sets before 0 answers

  pub putting-start : (w : Watch) → w ≡ empty_watch → Putting w 0 0 before
  unfolding running-start
  putting-start w e = rw e record { run = running-start timeout rows; answers = []; are = no_more; holds = refl }

  module _ (w : Watch) (i count : ℕ) (out : List ℕ) (g : Putting w i count out) where
    pub putting-end : length rows ≤ i → PutsAnswers at (run_from timeout [] rows).questions before 0 out
    putting-end l = record { answers = g.answers; are = rw (← (running-all timeout rows w i count g.run l)) g.are; holds = g.holds }

    -- fewer words are left than a row has: of a trace that is not refused, none
    pub putting-done : (run_from timeout [] rows).number ≡ 0 → length rows < i + 5 → PutsAnswers at (run_from timeout [] rows).questions before 0 out
    putting-done z l = putting-end (go (dec_lt i (length rows)))
      where
        go : Dec (i < length rows) → length rows ≤ i
        go (yes b) = absurd (omega (arith, l, running-room timeout rows w i count g.run z b))
        go (no b) = omega arith

    module _ (m : Moved) (l : i + 5 ≤ length rows) (e : m ≡ advanced w timeout (row_of_words rows i)) (z : (run_from timeout [] rows).number ≡ 0) where
      pub putting-fits : length (run_from timeout [] rows).questions ≤ length before → count + asks m.routed ≤ length out
      putting-fits f = omega (arith, running-fits timeout rows w i count g.run m l e z, ap length g.holds ∙ length-sets before 0 g.answers)

      pub putting-next : (n : ℕ) (out' : List ℕ) → n ≡ count + asks m.routed → PutsAnswers at (question_in (row_of_words rows i) m.routed) out count out' → Putting m.watch (i + 5) n out'
      unfolding running-next
      putting-next n out' c x =
          let many : 0 + length g.answers ≡ count = omega (arith, answers-many at g.run.questions g.answers g.are, g.run.many) in
          rw c record {
            run = running-next timeout rows w i count g.run m l e (running-goes timeout rows w i count g.run m l e z);
            answers = g.answers ++ x.answers;
            are = answers-append at g.run.questions (question_in (row_of_words rows i) m.routed) g.answers x.answers g.are x.are;
            holds = x.holds ∙ ap₂ (λ (o : List ℕ) (k : ℕ). sets o k x.answers) g.holds (sym many) ∙ sets-on g.answers x.answers before 0;
          }

-- one row
module _ (at : ℕ → View) (r : TraceRow) (t : Routed) (out : List ℕ) (i : ℕ) where
  pub row-puts-none : t.offices ≡ 0 → (i ≡ i + asks t) × PutsAnswers at (question_in r t) out i out
  row-puts-none e =
      let x = asks_none r t e in
      (rw x.1 (omega arith), record { answers = []; are = rw x.0 no_more; holds = refl })

  pub row-puts-one : (t.offices ≡ 0 → ⊥) → (v : ℕ) → RowAnswer at r t.offices v → (i + 1 ≡ i + asks t) × PutsAnswers at (question_in r t) out i (set out i v)
  row-puts-one e v a =
      let x = asks-one r t e in
      (rw x.1 refl, record { answers = v ∷ []; are = rw x.0 (one_more (record { row = r; offices = t.offices }) v [] [] a no_more); holds = refl })

  pub asks-room : (t.offices ≡ 0 → ⊥) → i + asks t ≤ length out → i < length out
  asks-room e h = omega (arith, h, (asks-one r t e).1)

-- ---- a row, as `watch::advance` tells it

module _ (w : Watch) (r : Result ℕ Fault) (n : ℕ) (e : n ≡ result_unwrap_or r 0) where
  pub told-offices : (r' : Result ℕ Fault) → (moved w r').routed.offices ≡ result_unwrap_or r' 0
  told-offices (Ok k) = refl
  told-offices (Err f) = refl

  pub goes-to : n ≡ (moved w r).routed.offices
  goes-to = e ∙ sym (told-offices r)

  pub asks-same : asks (told_row (Ok n)) ≡ asks (moved w r).routed
  unfolding asks
  asks-same = rw goes-to refl

  pub questions-same : (row : TraceRow) → question_in row (told_row (Ok n)) ≡ question_in row (moved w r).routed
  unfolding question_in
  questions-same row = rw goes-to refl

-- ---- a whole row in front of what is left of a trace

module _ (rows front rest : List ℕ) (i : ℕ) (e : drop i rows ≡ front ++ rest) (five : length front ≡ 5) where
  pub front-room : i + 5 ≤ length rows
  front-room = omega (arith, length-drop i rows, ap length e, length-append front rest, five)

  pub front-rest : rest ≡ drop (i + 5) rows
  front-rest = sym (drop-append_seam front rest) ∙ ap₂ drop five (sym e) ∙ drop-drop 5 i rows

  word-at : (k : ℕ) → k < 5 → get_or front k 0 ≡ get_or rows (i + k) 0
  word-at k l = sym (get_or-append front rest 0 k (omega (arith, five))) ∙ ap (λ (xs : List ℕ). get_or xs k 0) (sym e) ∙ get_or-drop i rows k 0

  word-first : get_or front 0 0 ≡ get_or rows i 0
  word-first = let z : i + 0 ≡ i = omega arith in word-at 0 (omega arith) ∙ ap (λ (k : ℕ). get_or rows k 0) z

  pub front-row : row_of_words front 0 ≡ row_of_words rows i
  unfolding row_of_words
  front-row = rw (word-first, word-at 1 (omega arith), word-at 2 (omega arith), word-at 3 (omega arith), word-at 4 (omega arith)) refl
