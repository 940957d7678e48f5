-- How a step and a trace keep their promises: by what refuses them, or by what they answer.
-- Assumes nothing.
use Prim.Native.Nat.{ℕ, zero, suc, ◌+◌, ◌<◌, ◌≤◌}
use mathlib.Core.Path.{◌≡◌, refl, sym, ap, subst, ◌∙◌}
use mathlib.Core.Bool.{Bool, cond}
use mathlib.Core.List.{List, [], ◌++◌}
use native.Mathlib.Omega.{arith}
use lib.ListN.{length, drop, replicate, length-replicate}
use lib.Seq.{sets-eq}
use borrow.Author.Tests.{eq-eqb}
use Rattle.sheet.specs.declared.Refusal.{Refusal}
use Rattle.sheet.specs.declared.fault.Fault.{Fault}
use Rattle.sheet.specs.FaultNumbers.{fault_number}
use Rattle.std.specs.Prelude.{Result, Ok, Err}
use Rattle.sheet.specs.Refusals.{none}
use Rattle.sheet.specs.Named.{seen_at}
use Rattle.sheet.proofs.Refusing.{refuse-plain}
use Rattle.sheet.proofs.Writing.{gives-refused, gives-short, gives-written, gives_as}
use Rattle.question.specs.declared.Answer.{Answer}
use Rattle.question.specs.Asked.{plain}
use Rattle.question.specs.Replies.{Replies, refused_by, tells}
use Rattle.question.proofs.Telling.{fault-some, refuses, reply-refused, reply-told}
use Rattle.watch.specs.Trace.{CountedTrace}
use Rattle.watch.specs.WatchTable.{Moved, moved}
use Rattle.watch.specs.declared.Watch.{Watch}
use Rattle.watch.specs.Trace.{row_of_words, stepped_on, run_from, told_count, counted_trace}
use Rattle.duty.specs.declared.TraceReply.{TraceReply}
use Rattle.duty.specs.Desk.{RowAnswer, desk_fault, after_desk}
use Rattle.duty.specs.Promises.{table_left, DeskStepsAfter, DeskSteps, refused_trace, TracesAfter, Traces}
use Rattle.duty.specs.Answering.{PutsAnswers}
use Rattle.watch.proofs.Stepping.{stepped-keeps}
use Rattle.duty.proofs.Answers.{answers-many}
use Rattle.duty.proofs.Desking.{desk-refuses, desk-passes}

pub table_stays : (k : ℕ) (w moved : Watch) → (k ≡ 0 → ⊥) → table_left k w moved ≡ w
unfolding table_left
table_stays zero w moved h = absurd (h refl)
table_stays (suc k) w moved h = refl

pub table-moves : (k : ℕ) (w moved : Watch) → k ≡ 0 → table_left k w moved ≡ moved
unfolding table_left
table-moves k w moved e = rw e refl

-- ---- a step

module _ (s : List ℕ) (timeout : ℕ) (ws : List ℕ) (w : Watch) where
  -- what a step that is not refused tells
  abbrev StepTells : ℕ → ℕ → Type 0
  StepTells value count = (count ≡ (stepped_on w timeout ws).routed.offices) × RowAnswer (seen_at s) (row_of_words ws 0) count value

  -- as the code tells it: the table that is left, and what refuses the row, or how many offices its question goes to
  pub step-refused : (w' : Watch) (f : Fault) (a : Answer) → moved w' (Err f) ≡ stepped_on w timeout ws → a ≡ refused_by (record { number = fault_number f; sheet = 0; row = 0 }) → DeskStepsAfter plain s timeout ws w a w'
  step-refused w' f a e q = record {
    replies = reply-refused StepTells (stepped_on w timeout ws).routed.number (fault_number f) a (ap (λ (x : Moved). x.routed.number) e) (fault-some f) q;
    table = ap (λ (x : Moved). x.watch) e
        ∙ stepped-keeps w timeout ws (λ z. fault-some f (ap (λ (x : Moved). x.routed.number) e ∙ z))
        ∙ sym (table_stays a.number w _ (λ z. fault-some f (sym (ap (λ (x : Answer). x.number) q) ∙ z)));
  }

  pub step-told : (w' : Watch) (n : ℕ) (a : Answer) (v : ℕ) → moved w' (Ok n) ≡ stepped_on w timeout ws → RowAnswer (seen_at s) (row_of_words ws 0) n v → a ≡ tells v n → DeskStepsAfter plain s timeout ws w a w'
  step-told w' n a v e x q = record {
    replies = reply-told StepTells (stepped_on w timeout ws).routed.number v n a (sym (ap (λ (y : Moved). y.routed.number) e)) (ap (λ (y : Moved). y.routed.offices) e, x) q;
    table = ap (λ (y : Moved). y.watch) e ∙ sym (table-moves a.number w (stepped_on w timeout ws).watch (ap (λ (y : Answer). y.number) q));
  }

  module _ (r : Refusal) (e : r ≡ desk_fault s) (a : Answer) where
    pub step-turned-away : (r.number ≡ 0 → ⊥) → a ≡ refused_by r → DeskSteps s timeout ws w a w
    step-turned-away h q = record {
      replies = refuses StepTells (after_desk s (stepped_on w timeout ws).routed.number) r a (desk-refuses s r e (stepped_on w timeout ws).routed.number h) h q;
      table = sym (table_stays a.number w _ (λ z. h (sym (ap (λ (x : Answer). x.number) q) ∙ z)));
    }

    pub step-let-in : r.number ≡ 0 → (w' : Watch) → DeskStepsAfter plain s timeout ws w a w' → DeskSteps s timeout ws w a w'
    step-let-in z w' x = record {
      replies = subst (λ (y : Refusal). Replies y StepTells a) (desk-passes s r e (stepped_on w timeout ws).routed.number z) x.replies;
      table = x.table;
    }

-- ---- a trace

module _ (s : List ℕ) (timeout : ℕ) (rows out : List ℕ) where
  abbrev number : ℕ
  number = (run_from timeout [] rows).number

  run-number : (r : Result ℕ Fault) → told_count r ≡ counted_trace (run_from timeout [] rows) → (told_count r).number ≡ number
  unfolding counted_trace
  run-number r e = ap (λ (x : CountedTrace). x.number) e

  pub run-good : (n : ℕ) → told_count (Ok n) ≡ counted_trace (run_from timeout [] rows) → (number ≡ 0) × (n ≡ length (run_from timeout [] rows).questions)
  unfolding counted_trace
  run-good n e =
      let y : number ≡ 0 = sym (run-number (Ok n) e) in
      (y, ap (λ (x : CountedTrace). x.count) e ∙ ap (λ (b : Bool). cond b (length (run_from timeout [] rows).questions) 0) (eq-eqb number 0 y))

  -- a trace that is refused has answers that nobody sees
  unseen : List ℕ
  unseen = replicate (length (run_from timeout [] rows).questions) 0

  unseen-many : length unseen ≡ length (run_from timeout [] rows).questions
  unfolding unseen
  unseen-many = length-replicate (length (run_from timeout [] rows).questions) 0

  pub trace-refused : (f : Fault) (a : TraceReply) → told_count (Err f) ≡ counted_trace (run_from timeout [] rows) → a ≡ record { number = fault_number f; sheet = 0; row = 0; count = 0 } → TracesAfter plain s timeout rows out a out
  trace-refused f a e q =
      let v : record { number = fault_number f; sheet = 0; row = 0 } ≡ plain number = refuse-plain number (fault_number f) (run-number (Err f) e) in
      rw q record {
        answers = unseen;
        many = unseen-many;
        are = λ z. absurd (fault-some f z);
        gives = gives_as _ (plain number) unseen out _ 0 out v (gives-refused unseen out (record { number = fault_number f; sheet = 0; row = 0 }) (fault-some f));
      }

  module _ (good : number ≡ 0) (n : ℕ) (k : n ≡ length (run_from timeout [] rows).questions) where
    not-refused : none ≡ plain number
    not-refused = refuse-plain number 0 (sym good)

    pub trace-short : length out < n → (a : TraceReply) → a ≡ record { number = 25; sheet = 0; row = 0; count = 0 } → TracesAfter plain s timeout rows out a out
    trace-short l a q =
        rw q record {
          answers = unseen;
          many = unseen-many;
          are = λ z. absurd (omega (arith, z));
          gives = gives_as none (plain number) unseen out _ 0 out not-refused (gives-short unseen out (omega (arith, unseen-many)));
        }

    pub trace-written : n ≤ length out → (out' : List ℕ) → PutsAnswers (seen_at s) (run_from timeout [] rows).questions out 0 out' → TracesAfter plain s timeout rows out (record { number = 0; sheet = 0; row = 0; count = n }) out'
    trace-written l out' p =
        let m : length p.answers ≡ length (run_from timeout [] rows).questions = answers-many (seen_at s) (run_from timeout [] rows).questions p.answers p.are in
        let front : 0 + length p.answers ≡ length p.answers = omega arith in
        record {
          answers = p.answers;
          many = m;
          are = λ _. p.are;
          gives = gives_as none (plain number) p.answers out none n out' not-refused
              (gives-written p.answers out out' n (k ∙ sym m) l (p.holds ∙ sets-eq p.answers out 0 (omega (arith, m, k, l)) ∙ ap (λ (j : ℕ). p.answers ++ drop j out) front));
        }

  module _ (r : Refusal) (e : r ≡ desk_fault s) (a : TraceReply) where
    pub trace-turned-away : (r.number ≡ 0 → ⊥) → a ≡ record { number = r.number; sheet = r.sheet; row = r.row; count = 0 } → Traces s timeout rows out a out
    trace-turned-away h q =
        rw q record {
          answers = unseen;
          many = unseen-many;
          are = λ z. absurd (h z);
          gives = gives_as r (after_desk s number) unseen out r 0 out (desk-refuses s r e number h) (gives-refused unseen out r h);
        }

    pub trace-let-in : r.number ≡ 0 → (out' : List ℕ) → TracesAfter plain s timeout rows out a out' → Traces s timeout rows out a out'
    trace-let-in z out' x = record { answers = x.answers; many = x.many; are = x.are; gives = gives_as (plain number) (after_desk s number) x.answers out (refused_trace a) a.count out' (desk-passes s r e number z) x.gives }
