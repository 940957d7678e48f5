-- Any one edge that question 10 lists can go: what was promised to the desks, of the functions' own statements.
-- Assumes nothing.
use Prim.Native.Nat.{ℕ, suc, ◌<◌}
use mathlib.Core.Path.{◌≡◌, sym, ap, subst, ◌∙◌}
use mathlib.Core.List.{List}
use mathlib.Core.Logic.{◌↔◌}
use native.Mathlib.Omega.{arith}
use Rattle.sheet.specs.declared.Refusal.{Refusal}
use Rattle.sheet.specs.Rows.{header_of, node_at}
use Rattle.sheet.specs.Verdict.{verdict}
use Rattle.sheet.specs.Accepted.{Accepted}
use Rattle.sheet.specs.Named.{seen_at}
use Rattle.sheet.proofs.Accepting.{accepted, not-refused}
use Rattle.sheet.proofs.Refusing.{then-good, then-none}
use Rattle.sheet.proofs.Whole.{same_nodes}
use Rattle.meaning.specs.Paths.{Side, HasPath}
use Rattle.meaning.specs.Answers.{Joint, JointAnswerIs}
use Rattle.meaning.specs.Questions.{RedundantRow}
use Rattle.meaning.specs.Removed.{IsRemoved}
use Rattle.meaning.proofs.Removing.{removed-sheet, removed-one, goes-with-last, others-see, own-gone, own-nodes, own-lacks, removal-spares}
use Rattle.meaning.proofs.Sparing.{answer-spared, path-spared}
use Rattle.question.specs.declared.Question.{Question}
use Rattle.question.specs.declared.Answer.{Answer}
use Rattle.question.specs.Asked.{asked, plain, after_sheet}
use Rattle.question.specs.Replies.{Replies, refused, answered, Shows, missing, short, written}
use Rattle.question.proofs.Known.{ask-same, joint-same}
use Rattle.question.proofs.Single.{replies-one}
use Rattle.ask.specs.Promises.{AnswersAtOffice, AnswersJointly}
use Rattle.ask.proofs.Single.{answer-single, joint-single}
use Rattle.demands.specs.Pruning.{Lists, Pruning}
use Rattle.demands.proofs.Answering.{front-is}

-- ---- a listed row is a redundant one, of an accepted sheet

shown-passes : (refusal : Refusal) (R : List ℕ → Type 0) (out : List ℕ) {a : Answer} {out' : List ℕ} → Shows refusal R out a out' → a.number ≡ 0 → refusal.number ≡ 0
shown-passes refusal R out (refused h) z = z
shown-passes refusal R out (missing y n) z = y
shown-passes refusal R out (short ws y x l) z = y
shown-passes refusal R out (written ws y x l) z = y

listed-accepted : (s : List ℕ) (q : Question) (j : ℕ) → Lists s q j → Accepted s
unfolding after_sheet
listed-accepted s q j L = accepted 1 s (then-good (verdict 1 s) _ (shown-passes _ _ _ L.replies L.not-refused)).0

listed-row : (s : List ℕ) (q : Question) (j : ℕ) → Lists s q j → RedundantRow s q.office j
listed-row s q j L = (front-is _ _ _ L.replies L.not-refused).sound j L.listed

-- ---- replies that say the same

pub replies-as : (r r' : Refusal) (P P' : ℕ → ℕ → Type 0) → r ≡ r' → ((v c : ℕ) → P v c → P' v c) → {a : Answer} → Replies r P a → Replies r' P' a
replies-as r r' P P' e f {a} x = subst (λ (z : Refusal). Replies z P' a) e (go x)
  where
    go : {b : Answer} → Replies r P b → Replies r P' b
    go (refused h) = refused h
    go (answered v c z p) = answered v c z (f v c p)

-- a question's own refusal is all there is where the sheet is accepted
pub after_same : (s t : List ℕ) (k k' : ℕ) → Accepted s → Accepted t → k ≡ k' → after_sheet t k ≡ after_sheet s k'
unfolding after_sheet
after_same s t k k' v w e = then-none (verdict 1 t) (plain k) (not-refused 1 t w) ∙ ap plain e ∙ sym (then-none (verdict 1 s) (plain k') (not-refused 1 s v))

module _ (s t : List ℕ) (q : Question) (j : ℕ) (L : Lists s q j) (x : IsRemoved s q.office j t) where
  v : Accepted s
  v = listed-accepted s q j L

  R : RedundantRow s q.office j
  R = listed-row s q j L

  same-paths : (o : ℕ) (side : Side) (p d f : ℕ) → HasPath (seen_at t o) side p d f ↔ HasPath (seen_at s o) side p d f
  same-paths o side p d f = let e = removal-spares s t q.office j x v R.inside R.bears R.redundant o side p d f in (e.1, e.0)

  same_rows : ((header_of t).nodes ≡ (header_of s).nodes) × ((i : ℕ) → i < (header_of s).nodes → node_at t i ≡ node_at s i)
  same_rows = let e = same_nodes t s x.accepted v x.nodes in (e.0, λ i l. e.1 i (omega (arith, e.0)))

  pub answers_stay : (r : Question) {a b : Answer} → AnswersAtOffice (after_sheet s) s r a → AnswersAtOffice (after_sheet t) t r b → a ≡ b
  answers_stay r a b =
      replies-one _ _ (answer-single (asked s r) r.person r.deed r.folio) a
      (replies-as _ _ _ _ (after_same s t _ _ v x.accepted (ask-same s t same_rows.0 same_rows.1 x.offices r))
      (λ n c p. (answer-spared _ _ _ _ _ n (λ side. same-paths r.office side _ _ _) p.0, p.1)) b)

  -- each office answers as before, so together they do
  joint-stays : (rule p d f : ℕ) (r : Joint) → JointAnswerIs (seen_at t) (header_of t).offices rule p d f r → JointAnswerIs (seen_at s) (header_of s).offices rule p d f r
  joint-stays rule p d f r y =
      record {
        answers = y.answers;
        offices-say = record {
          count = y.offices-say.count ∙ x.offices;
          each = λ i l. answer-spared _ _ p d f _ (λ side. same-paths (suc i) side p d f) (y.offices-say.each i (omega (arith, x.offices)));
        };
        result = y.result;
      }

  pub joint-answers-stay : (r : Question) {a b : Answer} → AnswersJointly (after_sheet s) s r a → AnswersJointly (after_sheet t) t r b → a ≡ b
  joint-answers-stay r a b =
      replies-one _ _ (joint-single (seen_at s) (header_of s).offices r.rule r.person r.deed r.folio) a
      (replies-as _ _ _ _ (after_same s t _ _ v x.accepted (joint-same s t same_rows.0 same_rows.1 r)) (λ n c p. joint-stays _ _ _ _ _ p) b)

pub pruning : Pruning
pruning =
    record {
      can-go = λ s office j h. removed-sheet s h.accepted office j h.inside h.bears;
      one_way = λ s office j t t' x y. removed-one s t office j x t' y;
      with-last-mark = λ s office j t h x. goes-with-last s t office j x h.accepted h.inside h.bears;
      is-gone = λ s office j t h x. own-gone s t office j x h.accepted h.inside h.bears;
      others-see-on = λ s office j t h x. others-see s t office j x h.accepted h.inside h.bears;
      one_less = λ s office j t h x. (own-nodes s t office j x h.accepted h.inside h.bears, own-lacks s t office j x h.accepted h.inside h.bears);
      spared = path-spared;
      no-answer-changes = λ s t q j L x r a b. answers_stay s t q j L x r a b;
      no-joint-answer-changes = λ s t q j L x r a b. joint-answers-stay s t q j L x r a b;
    }
