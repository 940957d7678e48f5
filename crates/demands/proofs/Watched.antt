-- The duty desk's promises, of a step's and a trace's own statements.
-- Assumes nothing.
use Prim.Native.Nat.{ℕ, zero, suc, ◌<◌, ◌≤◌}
use mathlib.Core.Path.{◌≡◌, refl, sym, ap, ap₂, subst, ◌∙◌}
use mathlib.Core.Bool.{Bool, true, false, cond, ◌&&◌}
use mathlib.Core.List.{List, [], ◌∷◌, ◌++◌}
use native.Mathlib.Omega.{arith}
use lib.Dec.{ltb, eqb}
use lib.ListN.{length, take, drop}
use lib.Seq.{take_all, take_at}
use borrow.Author.Tests.{eq-eqb, ne_eqb, eqb-true, eqb-false, ltb-true, ltb-false, lt-ltb, le-ltb}
use Rattle.paths.proofs.Tests.{and_left, and_right}
use Rattle.tables.specs.Office.{View}
use Rattle.sheet.specs.declared.Refusal.{Refusal}
use Rattle.sheet.specs.Refusals.{◌when◌otherwise◌, none, refuse, ◌then◌, short}
use Rattle.sheet.specs.Named.{seen_at}
use Rattle.sheet.proofs.Refusing.{refuse-good, then-good, then-some-is}
use Rattle.sheet.proofs.Writing.{gives-counted}
use Rattle.question.specs.declared.Answer.{Answer}
use Rattle.question.specs.Asked.{plain}
use Rattle.question.specs.Replies.{Replies, refused, answered}
use Rattle.watch.specs.declared.TraceRow.{TraceRow}
use Rattle.watch.specs.History.{Routed}
use Rattle.watch.specs.WatchTable.{Moved}
use Rattle.watch.specs.declared.Watch.{Watch}
use Rattle.watch.specs.History.{is_open, held_folios, last_from, bad_row, refusal, offices_for, routed, grown}
use Rattle.watch.specs.WatchTable.{doubled, refused_row, empty_watch, TableStands}
use Rattle.watch.specs.Trace.{row_of_words, stepped_on, Run, question_in, after_questions, next_routed, run_from}
use Rattle.watch.proofs.Tests.{by_cases}
use Rattle.watch.proofs.Meaning.{held_by_lem, by-held}
use Rattle.watch.proofs.Past.{held-listed, held-once}
use Rattle.watch.proofs.Standing.{advanced-right, empty-watch-stands}
use Rattle.watch.proofs.Stepping.{stepped-five, stepped-row, stepped-cut, stepped-twice}
use Rattle.watch.proofs.Tracing.{grown-on, asks_none, asks-one, long-row, cut_by}
use Rattle.duty.specs.declared.TraceReply.{TraceReply}
use Rattle.duty.specs.Desk.{RowAnswer, TraceAnswers, no_more, one_more, desk_fault, after_desk}
use Rattle.duty.specs.Promises.{DeskSteps, refused_trace, Traces}
use Rattle.duty.proofs.Answers.{trace-answers-one, answers-many, answers-append}
use Rattle.duty.proofs.Desking.{desk-passes}
use Rattle.duty.proofs.Promising.{table_stays, table-moves}
use Rattle.demands.specs.Demands.{said_in, Keeps}
use Rattle.demands.specs.DutyDesk.{answer_told, InSteps, no-row-left, row-refused, row-taken, DutyDesk}
use Rattle.demands.proofs.Keeping.{desk-says, writer-keeps}

-- ---- 51

module _ (h : List TraceRow) (r : TraceRow) (timeout : ℕ) where
  abbrev Full : Type 0
  Full = (last_from 0 h ≤ r.minute) × (bad_row r ≡ false) × (r.kind ≡ 1) × (32 < length (held_folios (h ++ (r ∷ [])) r.minute timeout))

  full_by : (late bad many : Bool) → (50 when late otherwise 54 when bad otherwise 51 when many otherwise 0) ≡ 51 → (late ≡ false) × (bad ≡ false) × (many ≡ true)
  unfolding ◌when◌otherwise◌
  full_by true bad many e = absurd (omega (arith, e))
  full_by false true many e = absurd (omega (arith, e))
  full_by false false true e = (refl, refl, refl)
  full_by false false false e = absurd (omega (arith, e))

  full_is : refusal h r timeout ≡ 51 → Full
  unfolding refusal
  full_is e =
      let b = full_by (ltb r.minute (last_from 0 h)) (bad_row r) (eqb r.kind 1 && ltb 32 (length (held_folios (h ++ (r ∷ [])) r.minute timeout))) e in
      (ltb-false _ _ b.0, b.1, eqb-true _ _ (and_left (eqb r.kind 1) _ b.2), ltb-true _ _ (and_right (eqb r.kind 1) _ b.2))

  is-full : Full → refusal h r timeout ≡ 51
  unfolding refusal ◌when◌otherwise◌
  is-full f = rw (le-ltb r.minute (last_from 0 h) f.0, f.1, eq-eqb r.kind 1 f.2, lt-ltb 32 (length (held_folios (h ++ (r ∷ [])) r.minute timeout)) f.3) refl

-- ---- one step

reply-passes : (r : Refusal) (P : ℕ → ℕ → Type 0) {a : Answer} → Replies r P a → a.number ≡ 0 → (r.number ≡ 0) × P a.value a.count
reply-passes r P (refused h) z = absurd (h z)
reply-passes r P (answered v c e p) z = (e, p)

-- who is not refused passes the desk, and so does the row
after-desk-good : (s : List ℕ) (k : ℕ) → (after_desk s k).number ≡ 0 → ((desk_fault s).number ≡ 0) × (k ≡ 0)
unfolding after_desk
after-desk-good s k z = let t = then-good (desk_fault s) (plain k) z in (t.0, (refuse-good k 0 0 none t.1).0)

routed-goes : (h : List TraceRow) (r : TraceRow) (timeout : ℕ) → (routed h r timeout).number ≡ 0 → (routed h r timeout).offices ≡ offices_for r (is_open h r.folio r.minute timeout)
unfolding routed
routed-goes h r timeout z = rw (eq-eqb (refusal h r timeout) 0 z) refl

routed-number : (h : List TraceRow) (r : TraceRow) (timeout : ℕ) → (routed h r timeout).number ≡ refusal h r timeout
unfolding routed
routed-number h r timeout = refl

module _ (s : List ℕ) (timeout : ℕ) (ws : List ℕ) (w w' : Watch) (a : Answer) (x : DeskSteps s timeout ws w a w') where
  step-number : (k : ℕ) → (stepped_on w timeout ws).routed.number ≡ k → said_in a ≡ after_desk s k
  step-number k e = desk-says s _ _ x.replies ∙ ap (after_desk s) e

  pub leaves_table : (a.number ≡ 0 → ⊥) → w' ≡ w
  leaves_table h = x.table ∙ table_stays a.number w (stepped_on w timeout ws).watch h

  twice-says : doubled w.places ≡ true → said_in a ≡ after_desk s 59
  unfolding refused_row
  twice-says d = step-number 59 (ap (λ (m : Moved). m.routed.number) (stepped-twice w timeout ws d))

  cut-says : doubled w.places ≡ false → (length ws ≡ 5 → ⊥) → said_in a ≡ after_desk s 54
  unfolding refused_row
  cut-says d n = step-number 54 (ap (λ (m : Moved). m.routed.number) (stepped-cut w timeout ws d n))

  module _ (h : List TraceRow) (stands : TableStands w h timeout) where
    abbrev r : TraceRow
    r = row_of_words ws 0

    right : length ws ≡ 5 → ((stepped_on w timeout ws).routed ≡ routed h r timeout) × TableStands (stepped_on w timeout ws).watch (grown h r timeout) timeout
    right five = rw (stepped-row w timeout ws stands.once five) (advanced-right w h timeout r stands)

    says-history : length ws ≡ 5 → said_in a ≡ after_desk s (refusal h r timeout)
    says-history five = step-number (refusal h r timeout) (ap (λ (t : Routed). t.number) (right five).0 ∙ routed-number h r timeout)

    -- a step that is not refused
    module _ (z : a.number ≡ 0) where
      passes : ((after_desk s (stepped_on w timeout ws).routed.number).number ≡ 0) × ((a.count ≡ (stepped_on w timeout ws).routed.offices) × RowAnswer (seen_at s) r a.count a.value)
      passes = reply-passes _ _ x.replies z

      row-good : (stepped_on w timeout ws).routed.number ≡ 0
      row-good = (after-desk-good s _ passes.0).1

      five-words : length ws ≡ 5
      five-words = stepped-five w timeout ws row-good

      routed-good : (routed h r timeout).number ≡ 0
      routed-good = ap (λ (t : Routed). t.number) (sym (right five-words).0) ∙ row-good

      count-routed : a.count ≡ (routed h r timeout).offices
      count-routed = passes.1.0 ∙ ap (λ (t : Routed). t.offices) (right five-words).0

      answers-history : (a.count ≡ offices_for r (is_open h r.folio r.minute timeout)) × RowAnswer (seen_at s) r a.count a.value
      answers-history = (count-routed ∙ routed-goes h r timeout routed-good, passes.1.1)

      stands_on : TableStands w' (h ++ (r ∷ [])) timeout
      stands_on = rw (x.table ∙ table-moves a.number w (stepped_on w timeout ws).watch z, ← (grown-on timeout h r routed-good)) (right five-words).1

-- ---- a trace, row by row

told-answers : (at : ℕ → View) (r : TraceRow) (t : Routed) (a : Answer) → a.count ≡ t.offices → RowAnswer at r a.count a.value → TraceAnswers at (question_in r t) (answer_told a)
unfolding answer_told
told-answers at r t a e x =
    by_cases (eqb t.offices 0)
    (λ z. rw (e, z, (asks_none r t (eqb-true _ _ z)).0) no_more)
    (λ z. rw (asks-one r t (eqb-false _ _ z)).0 (rw (e, z) (one_more (record { row = r; offices = t.offices }) a.value [] [] (rw e at x) no_more)))

module _ (s : List ℕ) (timeout : ℕ) (fine : (desk_fault s).number ≡ 0) where
  -- what the steps from a table on say is how the run from its history on ends
  AsRun : List TraceRow → List ℕ → List ℕ → Refusal → Type 0
  AsRun h ws vs r = (r ≡ plain (run_from timeout h ws).number) × (r.number ≡ 0 → TraceAnswers (seen_at s) (run_from timeout h ws).questions vs)

  as_plain : (a : Answer) (k : ℕ) → said_in a ≡ after_desk s k → said_in a ≡ plain k
  as_plain a k e = e ∙ sym (desk-passes s (desk_fault s) refl k fine)

  next-refused : (q : TraceRow) (t : Routed) (rest : Run) → (t.number ≡ 0 → ⊥) → (next_routed q t rest).number ≡ t.number
  unfolding next_routed
  next-refused q t rest n = rw (ne_eqb t.number 0 n) refl

  next-taken : (q : TraceRow) (t : Routed) (rest : Run) → t.number ≡ 0 → next_routed q t rest ≡ after_questions (question_in q t) rest
  unfolding next_routed
  next-taken q t rest z = rw (eq-eqb t.number 0 z) refl

  plain-number : (k : ℕ) → (plain k).number ≡ k
  unfolding refuse
  plain-number zero = refl
  plain-number (suc k) = refl

  module _ (w w' : Watch) (h : List TraceRow) (ws : List ℕ) (a : Answer) (stands : TableStands w h timeout) (some_words : 0 < length ws) (x : DeskSteps s timeout (take 5 ws) w a w') where
    -- a last row cut short
    module _ (l : length ws < 5) where
      said-cut : said_in a ≡ plain 54
      said-cut =
          let e : take 5 ws ≡ ws = take_all 5 ws (omega arith) in
          as_plain a 54 (cut-says s timeout (take 5 ws) w w' a x stands.once (λ z. omega (arith, ap length e, z, l)))

      cut-run : said_in a ≡ plain (run_from timeout h ws).number
      cut-run = rw (cut_by timeout h ws some_words l) said-cut

      not-zero : a.number ≡ 0 → ⊥
      not-zero z = omega (arith, ap (λ (r : Refusal). r.number) said-cut ∙ plain-number 54, z)

    -- a whole row
    module _ (l : 5 ≤ length ws) where
      read : (length (take 5 ws) ≡ 5) × (row_of_words (take 5 ws) 0 ≡ row_of_words ws 0) × (run_from timeout h ws ≡ next_routed (row_of_words ws 0) (routed h (row_of_words ws 0) timeout) (run_from timeout (h ++ (row_of_words ws 0 ∷ [])) (drop 5 ws)))
      read = long-row timeout h ws l

      said_row : said_in a ≡ plain (refusal h (row_of_words ws 0) timeout)
      said_row = as_plain a _ (says-history s timeout (take 5 ws) w w' a x h stands read.0 ∙ ap (λ (q : TraceRow). after_desk s (refusal h q timeout)) read.1)

      refused-run : (a.number ≡ 0 → ⊥) → said_in a ≡ plain (run_from timeout h ws).number
      refused-run n =
          let k : (routed h (row_of_words ws 0) timeout).number ≡ 0 → ⊥ = λ z. n (ap (λ (r : Refusal). r.number) said_row ∙ plain-number _ ∙ sym (routed-number h (row_of_words ws 0) timeout) ∙ z) in
          said_row ∙ ap plain (sym (routed-number h (row_of_words ws 0) timeout) ∙ sym (next-refused (row_of_words ws 0) (routed h (row_of_words ws 0) timeout) _ k) ∙ ap (λ (o : Run). o.number) (sym read.2))

      module _ (z : a.number ≡ 0) where
        taken-run : run_from timeout h ws ≡ after_questions (question_in (row_of_words ws 0) (routed h (row_of_words ws 0) timeout)) (run_from timeout (h ++ (row_of_words ws 0 ∷ [])) (drop 5 ws))
        taken-run = read.2 ∙ next-taken (row_of_words ws 0) (routed h (row_of_words ws 0) timeout) _ (ap (λ (q : TraceRow). (routed h q timeout).number) (sym read.1) ∙ routed-good s timeout (take 5 ws) w w' a x h stands z)

        taken-stands : TableStands w' (h ++ (row_of_words ws 0 ∷ [])) timeout
        taken-stands = rw (← read.1) (stands_on s timeout (take 5 ws) w w' a x h stands z)

        taken-answer : TraceAnswers (seen_at s) (question_in (row_of_words ws 0) (routed h (row_of_words ws 0) timeout)) (answer_told a)
        taken-answer =
            told-answers (seen_at s) (row_of_words ws 0) (routed h (row_of_words ws 0) timeout) a
            (count-routed s timeout (take 5 ws) w w' a x h stands z ∙ ap (λ (q : TraceRow). (routed h q timeout).offices) read.1)
            (subst (λ (q : TraceRow). RowAnswer (seen_at s) q a.count a.value) read.1 (answers-history s timeout (take 5 ws) w w' a x h stands z).1)

        taken-on : (vs : List ℕ) (r : Refusal) → AsRun (h ++ (row_of_words ws 0 ∷ [])) (drop 5 ws) vs r → AsRun h ws (answer_told a ++ vs) r
        unfolding AsRun after_questions
        taken-on vs r y = rw taken-run (y.0, λ e. answers-append (seen_at s) (question_in (row_of_words ws 0) (routed h (row_of_words ws 0) timeout)) _ (answer_told a) vs taken-answer (y.1 e))

  as-run : (w : Watch) (h : List TraceRow) (ws vs : List ℕ) (r : Refusal) → TableStands w h timeout → InSteps s timeout w ws vs r → AsRun h ws vs r
  unfolding AsRun run_from refuse
  as-run _ h _ _ _ stands (no-row-left w) = (refl, λ _. no_more)
  as-run _ h _ _ _ stands (row-refused w w' ws a some_words x n) =
      by_cases (ltb (length ws) 5)
      (λ b. (cut-run w w' h ws a stands some_words x (ltb-true _ _ b), λ z. absurd (n z)))
      (λ b. (refused-run w w' h ws a stands some_words x (ltb-false _ _ b) n, λ z. absurd (n z)))
  as-run _ h _ _ _ stands (row-taken w w' ws vs a r some_words x z rest) =
      by_cases (ltb (length ws) 5)
      (λ b. absurd (not-zero w w' h ws a stands some_words x (ltb-true _ _ b) z))
      (λ b. let l = ltb-false _ _ b in
      taken-on w w' h ws a stands some_words x l z vs r (as-run w' (h ++ (row_of_words ws 0 ∷ [])) (drop 5 ws) vs r (taken-stands w w' h ws a stands some_words x l z) rest))

  module _ (rows out vs : List ℕ) (r : Refusal) (a : TraceReply) (out' : List ℕ) (x : InSteps s timeout empty_watch rows vs r) (t : Traces s timeout rows out a out') where
    run : AsRun [] rows vs r
    run = as-run empty_watch [] rows vs r (empty-watch-stands timeout) x

    refuses-as : after_desk s (run_from timeout [] rows).number ≡ r
    unfolding AsRun
    refuses-as = sym (desk-passes s (desk_fault s) refl (run_from timeout [] rows).number fine) ∙ sym run.0

    told : refused_trace a ≡ (r then short (length out) (length t.answers))
    told = t.gives.writes.told ∙ ap (λ (v : Refusal). v then short (length out) (length t.answers)) refuses-as

    same-answers : a.number ≡ 0 → t.answers ≡ vs
    unfolding AsRun
    same-answers z = trace-answers-one (seen_at s) (run_from timeout [] rows).questions t.answers vs (t.are z) (run.1 (then-good r _ (ap (λ (v : Refusal). v.number) (sym told) ∙ z)).0)

    same-many : r.number ≡ 0 → length t.answers ≡ length vs
    unfolding AsRun
    same-many z = t.many ∙ sym (answers-many (seen_at s) (run_from timeout [] rows).questions vs (run.1 z))

    trace-said : refused_trace a ≡ (r then short (length out) (length vs))
    trace-said =
        by_cases (eqb r.number 0)
        (λ z. told ∙ ap (λ (n : ℕ). r then short (length out) n) (same-many (eqb-true _ _ z)))
        (λ n. told ∙ sym (then-some-is r r _ refl (eqb-false _ _ n)) ∙ then-some-is r r _ refl (eqb-false _ _ n))

    trace-wrote : a.number ≡ 0 → take a.count out' ≡ vs
    trace-wrote z =
        let c : a.count ≡ length t.answers = t.gives.counts ∙ ap (λ (b : Bool). cond b (length t.answers) 0) (eq-eqb a.number 0 z) in
        ap₂ (λ (n : ℕ) (o : List ℕ). take n o) c ((writer-keeps (after_desk s (run_from timeout [] rows).number) t.answers out t.gives.writes).1 z) ∙ take_at t.answers (drop (length t.answers) out) (length t.answers) refl ∙ same-answers z

-- ---- what refuses a trace, and what it writes

pub tracing-keeps : (s : List ℕ) (timeout : ℕ) (rows out : List ℕ) (a : TraceReply) (out' : List ℕ) → Traces s timeout rows out a out'
    → Keeps (λ x. x ≡ (after_desk s (run_from timeout [] rows).number then short (length out) (length (run_from timeout [] rows).questions))) (refused_trace a) a.count out out'
tracing-keeps s timeout rows out a out' t =
    let k = (writer-keeps (after_desk s (run_from timeout [] rows).number) t.answers out t.gives.writes).0 in
    let m : length t.answers ≡ length (run_from timeout [] rows).questions = t.many in
    let e : (after_desk s (run_from timeout [] rows).number then short (length out) (length t.answers)) ≡ (after_desk s (run_from timeout [] rows).number then short (length out) (length (run_from timeout [] rows).questions))
    = ap (λ (n : ℕ). after_desk s (run_from timeout [] rows).number then short (length out) n) m in
    record { first = k.first ∙ e; no_other = λ x q. k.no_other x (q ∙ sym e); untouched = k.untouched; only = λ z. rw (gives-counted t.answers out _ _ _ _ t.gives z) (k.only z) }

pub duty-desk : DutyDesk
unfolding is_open
duty-desk = record {
  open_by = λ h f t timeout. (λ e. held_by_lem t f t timeout h e, λ g. by-held t f t timeout h g);
  held-each = λ h f t timeout. held-listed t timeout h f;
  held_one = λ h t timeout. held-once t timeout h;
  too_many = λ h r timeout. (full_is h r timeout, is-full h r timeout);
  empty_stands = empty-watch-stands;
  step-says = λ s timeout ws w w' h {a} stands five x. says-history s timeout ws w w' a x h stands five;
  step-answers = λ s timeout ws w w' h {a} stands x z. answers-history s timeout ws w w' a x h stands z;
  step-stands = λ s timeout ws w w' h {a} stands x z. stands_on s timeout ws w w' a x h stands z;
  refused-leaves = λ s timeout ws w w' {a} x n. leaves_table s timeout ws w w' a x n;
  named-twice = λ s timeout ws w w' {a} d x. twice-says s timeout ws w w' a x d;
  cut_short = λ s timeout ws w w' {a} d n x. cut-says s timeout ws w w' a x d n;
  trace-steps = λ s timeout rows out vs r {a} {out'} fine x t. (trace-said s timeout fine rows out vs r a out' x t, trace-wrote s timeout fine rows out vs r a out' x t);
}
