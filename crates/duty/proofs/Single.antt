-- Any two results that a step's or a trace's statement allows are equal: the reply, and the table or the output on return.
-- Assumes nothing.
use Prim.Native.Nat.{ℕ, zero, suc}
use native.Mathlib.Omega.{arith}
use mathlib.Core.Path.{◌≡◌, refl, sym, ap, ap₂, subst, ◌∙◌}
use mathlib.Core.Bool.{Bool, cond}
use mathlib.Core.List.{List, []}
use lib.ListN.{length}
use borrow.Author.Tests.{ne_eqb}
use Rattle.sheet.specs.declared.Refusal.{Refusal}
use Rattle.sheet.specs.Refusals.{◌then◌, short, written, Gives}
use Rattle.sheet.specs.Named.{seen_at}
use Rattle.sheet.proofs.Writing.{gives_one}
use Rattle.question.specs.declared.Answer.{Answer}
use Rattle.question.specs.Replies.{tells}
use Rattle.question.proofs.Single.{replies-one}
use Rattle.watch.specs.declared.TraceRow.{TraceRow}
use Rattle.watch.specs.WatchTable.{Moved}
use Rattle.watch.specs.declared.Watch.{Watch}
use Rattle.watch.specs.Trace.{TraceQuestion, row_of_words, stepped_on, run_from}
use Rattle.duty.specs.declared.TraceReply.{TraceReply}
use Rattle.duty.specs.Desk.{in_turn, RowAnswer, after_desk}
use Rattle.duty.specs.Promises.{table_left, DeskSteps, refused_trace, Traces}
use Rattle.duty.proofs.Answers.{desk-one, trace-answers-one}

module _ (s : List ℕ) (timeout : ℕ) (ws : List ℕ) (w : Watch) where
  -- what a row's question is told
  abbrev row : TraceRow
  row = row_of_words ws 0

  abbrev moved-one : Moved
  moved-one = stepped_on w timeout ws

  told-one : (v c v' c' : ℕ) → (c ≡ moved-one.routed.offices) × RowAnswer (seen_at s) row c v → (c' ≡ moved-one.routed.offices) × RowAnswer (seen_at s) row c' v' → tells v c ≡ tells v' c'
  told-one v c v' c' p q =
      let e : c ≡ c' = p.0 ∙ sym q.0 in
      ap₂ tells (desk-one (seen_at s) row.person row.deed row.folio (in_turn c') v v' (subst (λ (n : ℕ). RowAnswer (seen_at s) row n v) e p.1) q.1) e

  pub steps-one : {a b : Answer} {w' w'' : Watch} → DeskSteps s timeout ws w a w' → DeskSteps s timeout ws w b w'' → (a ≡ b) × (w' ≡ w'')
  steps-one {a} {b} {w'} {w''} x y =
      let e : a ≡ b = replies-one (after_desk s moved-one.routed.number) (λ v c. (c ≡ moved-one.routed.offices) × RowAnswer (seen_at s) row c v) told-one x.replies y.replies in
      (e, x.table ∙ ap (λ (r : Answer). table_left r.number w moved-one.watch) e ∙ sym y.table)

module _ (s : List ℕ) (timeout : ℕ) (rows out : List ℕ) where
  abbrev questions : List TraceQuestion
  questions = (run_from timeout [] rows).questions

  abbrev fault : Refusal
  fault = after_desk s (run_from timeout [] rows).number

  pub traces-one : {a b : TraceReply} {o o' : List ℕ} → Traces s timeout rows out a o → Traces s timeout rows out b o' → (a ≡ b) × (o ≡ o')
  unfolding written
  traces-one {a} {b} {o} {o'} x y = (λ i. record { number = (same i).number; sheet = (same i).sheet; row = (same i).row; count = (both a.number refl).0 i }, (both a.number refl).1)
    where
      -- a refusal, and 25 too, goes by how many answers there are
      same : refused_trace a ≡ refused_trace b
      same = x.gives.writes.told ∙ ap (λ (n : ℕ). fault then short (length out) n) (x.many ∙ sym y.many) ∙ sym y.gives.writes.told

      number_same : a.number ≡ b.number
      number_same = ap (λ (r : Refusal). r.number) same

      refused-leaves-it : (k : ℕ) (c : TraceReply) (p : List ℕ) (t : Traces s timeout rows out c p) → c.number ≡ suc k → (c.count ≡ 0) × (p ≡ out)
      refused-leaves-it k c p t z = (t.gives.counts ∙ ap (λ (t' : Bool). cond t' (length t.answers) 0) (ne_eqb c.number 0 (λ e. omega (arith, z, e))), t.gives.writes.holds ∙ ap (λ (n : ℕ). written n t.answers out) z)

      both : (n : ℕ) → a.number ≡ n → (a.count ≡ b.count) × (o ≡ o')
      both zero z =
          let e = trace-answers-one (seen_at s) questions x.answers y.answers (x.are z) (y.are (sym number_same ∙ z)) in
          let g = gives_one y.answers out fault (refused_trace a) (refused_trace b) a.count b.count o o' (subst (λ (vs : List ℕ). Gives fault vs out (refused_trace a) a.count o) e x.gives) y.gives in
          (g.1, g.2)
      both (suc k) z =
          let p = refused-leaves-it k a o x z in
          let q = refused-leaves-it k b o' y (sym number_same ∙ z) in
          (p.0 ∙ sym q.0, p.1 ∙ sym q.1)
