-- The joint answer: the lowest office whose answer passes is the one that a search finds; and what refuses the question.
-- Assumes nothing.
use Prim.Native.Nat.{ℕ, zero, suc, ◌+◌, ◌<◌, ◌≤◌}
use native.Mathlib.Omega.{arith}
use mathlib.Core.Path.{◌≡◌, refl, sym, ap, subst, ◌∙◌}
use mathlib.Core.Bool.{Bool, true, false, not, false≢true}
use mathlib.Core.List.{List, [], ◌∷◌}
use Rattle.std.specs.Prelude.{Option, Some, None, ltb}
use Rattle.std.specs.Option.{option_or, unwrap_or}
use Rattle.std.specs.List.{position, position_from}
use Rattle.std.proofs.lemmas.List.{length-map}
use Rattle.std.proofs.lemmas.List.Quantifiers.{position-Some}
use Rattle.std.proofs.lemmas.Iterator.Adapters.{position_from-zero}
use mathlib.Core.List.{map}
use lib.ListN.{length, get_or, set, take, get_or-map}
use lib.Seq.{get_or-take, length-take-le, get_or-set_same, get_or-set_other}
use borrow.Author.Count.{below_more}
use Rattle.tables.specs.Count.{FirstStanding}
use Rattle.sheet.specs.declared.Header.{Header}
use Rattle.sheet.specs.Limits.{max_offices}
use Rattle.sheet.specs.Rows.{header_of}
use Rattle.sheet.specs.Accepted.{WellFormed}
use Rattle.sheet.specs.Named.{seen_at}
use Rattle.sheet.proofs.Refusing.{taken, left}
use Rattle.meaning.specs.Answers.{AnswerIs, Joint, lowest, jointly, JointAnswerIs}
use Rattle.question.specs.declared.Question.{Question}
use Rattle.question.specs.declared.reply.Told.{Told}
use Rattle.question.specs.Asked.{unknown, joint_fault}
use denote.Enum.Bare.{sameb}
use Rattle.ask.specs.contracts.joint.OfficeAnswer.{the_type}
use Rattle.ask.specs.declared.joint.OfficeAnswer.{OfficeAnswer}
use Rattle.ask.specs.declared.joint.OfficeAnswer.TheVariants.{Undetermined, Granted, Banned, Both}
use Rattle.ask.specs.declared.joint.JointRule.{JointRule}
use Rattle.ask.specs.declared.joint.JointRule.TheVariants.{GrantFirst, DenyFirst, FirstApplicable}
use Rattle.ask.specs.JointRules.{answer_number, rule_number, no_rule, gives_answer, joint_told, joint_or, DecidesBy}
use Rattle.sheet.specs.Found.{FirstAt}

some-apart : (i : ℕ) → Some i ≡ None → ⊥
some-apart i e = grind arith

module _ (test : ℕ → Bool) (tell : ℕ → ℕ) where
  -- past an answer that does not pass, the search goes on
  further : (x : ℕ) (rs : List ℕ) (r : ℕ) → FirstStanding (λ i. test (get_or (x ∷ rs) i 0)) (suc (length rs)) (suc r) → FirstStanding (λ i. test (get_or rs i 0)) (length rs) r
  further x rs r f = let m = f.most in record { most = omega arith; before = λ i l. f.before (suc i) (omega arith); found = λ l. f.found (omega arith) }

  lowest-found : (o : ℕ) (rs : List ℕ) (rest : Joint) (r : ℕ) → FirstStanding (λ i. test (get_or rs i 0)) (length rs) r → r < length rs
      → lowest test tell o rs rest ≡ record { answer = tell (get_or rs r 0); office = r + o }
  unfolding lowest
  lowest-found o [] rest r f l = absurd (omega arith)
  lowest-found o (x ∷ rs) rest zero f l = rw (f.found l) (ap (λ (k : ℕ). record { answer = tell x; office = k }) (omega arith))
  lowest-found o (x ∷ rs) rest (suc r) f l =
      rw (f.before 0 (omega arith))
      (lowest-found (suc o) rs rest r (further x rs r f) (omega arith) ∙ ap (λ (k : ℕ). record { answer = tell (get_or rs r 0); office = k }) (omega arith))

  lowest-none : (o : ℕ) (rs : List ℕ) (rest : Joint) → ((i : ℕ) → i < length rs → test (get_or rs i 0) ≡ false) → lowest test tell o rs rest ≡ rest
  unfolding lowest
  lowest-none o [] rest f = refl
  lowest-none o (x ∷ rs) rest f = rw (f 0 (omega arith)) (lowest-none (suc o) rs rest (λ i l. f (suc i) (omega arith)))

  -- of the first n numbers, which offices from o on answer
  module _ (ns : List ℕ) (n : ℕ) (h : n ≤ length ns) (o : ℕ) (rest : Joint) where
    front-long : length (take n ns) ≡ n
    front-long = length-take-le n ns h

    front-same : (i : ℕ) → i < n → get_or (take n ns) i 0 ≡ get_or ns i 0
    front-same i l = get_or-take n ns i 0 l

    pub decides : (i : ℕ) → FirstAt (λ j. test (get_or ns j 0)) n (Some i) → lowest test tell o (take n ns) rest ≡ record { answer = tell (get_or ns i 0); office = i + o }
    decides i f =
        let l = f.0 in
        lowest-found o (take n ns) rest i
        record {
          most = omega (arith, front-long);
          before = λ j k. ap test (front-same j (omega arith)) ∙ f.1.before j k;
          found = λ k. ap test (front-same i l) ∙ f.1.found l;
        }
        (omega (arith, front-long))
        ∙ ap (λ (k : ℕ). record { answer = tell k; office = i + o }) (front-same i l)

    pub passed_over : FirstAt (λ j. test (get_or ns j 0)) n None → lowest test tell o (take n ns) rest ≡ rest
    passed_over f = lowest-none o (take n ns) rest (λ i k. ap test (front-same i (omega (arith, front-long))) ∙ f.before i (omega (arith, front-long)))

  -- of the answers of offices
  module _ (rs : List OfficeAnswer) (rest : Joint) where
    pub some-decides : (i : ℕ) → position (λ r. test (answer_number r)) rs ≡ Some i → lowest test tell 1 (map answer_number rs) rest ≡ record { answer = tell (answer_number (get_or rs i Undetermined)); office = i + 1 }
    some-decides i e =
        let f = position-Some (λ r. test (answer_number r)) rs i Undetermined e in
        let long : length (map answer_number rs) ≡ length rs = length-map rs answer_number in
        let same = λ (k : ℕ). get_or-map answer_number rs k Undetermined in
        lowest-found 1 (map answer_number rs) rest i
        record {
          most = omega (arith, f.0, long);
          before = λ k l. ap test (same k) ∙ f.2 k l;
          found = λ l. ap test (same i) ∙ f.1;
        }
        (omega (arith, f.0, long))
        ∙ ap (λ (k : ℕ). record { answer = tell k; office = i + 1 }) (same i)

  none-from : (o i : ℕ) (rs : List OfficeAnswer) (rest : Joint) → position_from (λ r. test (answer_number r)) i rs ≡ None → lowest test tell o (map answer_number rs) rest ≡ rest
  unfolding lowest
  none-from o i [] rest e = refl
  none-from o i (x ∷ rs) rest e = by (test (answer_number x)) refl (λ e'. none-from (suc o) (i + 1) rs rest e')
    where
      by : (b : Bool) → test (answer_number x) ≡ b → (position_from (λ r. test (answer_number r)) (i + 1) rs ≡ None → lowest test tell (suc o) (map answer_number rs) rest ≡ rest)
          → lowest test tell o (map answer_number (x ∷ rs)) rest ≡ rest
      by true h later = absurd (some-apart i (rw h at e))
      by false h later = rw h (later (rw h at e))

  pub none-decides : (rs : List OfficeAnswer) (rest : Joint) → position (λ r. test (answer_number r)) rs ≡ None → lowest test tell 1 (map answer_number rs) rest ≡ rest
  none-decides rs rest e = none-from 1 0 rs rest (sym (position_from-zero (λ r. test (answer_number r)) rs) ∙ e)

-- ---- a rule, as its steps tell it

or-decides : (t u : Option Told) (d : Told) → joint_told (unwrap_or (option_or t u) d) ≡ joint_or t (joint_or u (joint_told d))
or-decides (Some t) u d = refl
or-decides None (Some u) d = refl
or-decides None None d = refl

one-decides : (t : Option Told) (d : Told) → joint_told (unwrap_or t d) ≡ joint_or t (joint_told d)
one-decides (Some t) d = refl
one-decides None d = refl

module _ (rs : List OfficeAnswer) (rule : JointRule) (decided : Option Told) (d result : Told) (none : d ≡ record { value = 0; count = 0 }) (is : result ≡ unwrap_or decided d) where
  pub rule-grants : (t u : Option Told) → rule ≡ GrantFirst → decided ≡ option_or t u → DecidesBy (gives_answer 1) (λ r. 1) rs t → DecidesBy (gives_answer 2) (λ r. 2) rs u
      → joint_told result ≡ jointly (rule_number rule) (map answer_number rs)
  unfolding jointly
  rule-grants t u e f a b = rw (e, is, f, none) (or-decides t u _ ∙ sym (a _ ∙ ap (joint_or t) (b _)))

  pub rule-denies : (t u : Option Told) → rule ≡ DenyFirst → decided ≡ option_or t u → DecidesBy (gives_answer 2) (λ r. 2) rs t → DecidesBy (gives_answer 1) (λ r. 1) rs u
      → joint_told result ≡ jointly (rule_number rule) (map answer_number rs)
  unfolding jointly
  rule-denies t u e f a b = rw (e, is, f, none) (or-decides t u _ ∙ sym (a _ ∙ ap (joint_or t) (b _)))

  pub rule-applies : rule ≡ FirstApplicable → DecidesBy (λ r. ltb 0 r) (λ r. r) rs decided → joint_told result ≡ jointly (rule_number rule) (map answer_number rs)
  unfolding jointly
  rule-applies e a = rw (e, is, none) (one-decides decided _ ∙ sym (a _))

-- one answer more
pub one_more : (P : ℕ → ℕ → Type 0) (rs : List OfficeAnswer) (k : ℕ) (x : OfficeAnswer) → k < length rs → ((i : ℕ) → i < k → P i (answer_number (get_or rs i Undetermined))) → P k (answer_number x)
    → (i : ℕ) → i < k + 1 → P i (answer_number (get_or (set rs k x) i Undetermined))
one_more P rs k x l f h =
    below_more (λ i. P i (answer_number (get_or (set rs k x) i Undetermined))) k
    (λ i m. subst (λ (y : OfficeAnswer). P i (answer_number y)) (sym (get_or-set_other rs k i x Undetermined (λ e. omega arith))) (f i m))
    (subst (λ (y : OfficeAnswer). P k (answer_number y)) (sym (get_or-set_same rs k x Undetermined l)) h)

-- .. of any kind
pub one-more-told : {A : Type 0} (d : A) (P : ℕ → A → Type 0) (xs : List A) (k : ℕ) (x : A) → k < length xs → ((i : ℕ) → i < k → P i (get_or xs i d)) → P k x → (i : ℕ) → i < k + 1 → P i (get_or (set xs k x) i d)
one-more-told {A} d P xs k x l f h =
    below_more (λ i. P i (get_or (set xs k x) i d)) k
    (λ i m. subst (λ (y : A). P i y) (sym (get_or-set_other xs k i x d (λ e. omega arith))) (f i m))
    (subst (λ (y : A). P k y) (sym (get_or-set_same xs k x d l)) h)

-- ---- what refuses a joint answer

pub fault-rule : (s : List ℕ) (q : Question) → no_rule q.rule ≡ true → 27 ≡ joint_fault s q
unfolding joint_fault
fault-rule s q e = taken 27 _ _ e

pub fault-known : (s : List ℕ) (q : Question) (n : ℕ) → no_rule q.rule ≡ false → n ≡ unknown s true 1 q → n ≡ joint_fault s q
unfolding joint_fault
fault-known s q n e u = left n 27 _ _ e u

-- a rule over the answers of all offices of a sheet
module _ (s t : List ℕ) (h : Header) (f : WellFormed s t h) (q : Question) (rs : List OfficeAnswer) (long : length rs ≡ max_offices)
    (each : (i : ℕ) → i < h.offices → AnswerIs (seen_at s (suc i)) q.person q.deed q.folio (answer_number (get_or rs i Undetermined))) where
  offices-fit : h.offices ≤ length rs
  offices-fit = omega (arith, long, f.nodes.header.offices-high)

  offices-same : h.offices ≡ (header_of s).offices
  offices-same = ap (λ (x : Header). x.offices) f.head

  pub joint-is : (told : Told) → joint_told told ≡ jointly q.rule (map answer_number (take h.offices rs)) → JointAnswerIs (seen_at s) (header_of s).offices q.rule q.person q.deed q.folio (joint_told told)
  joint-is told e =
      record {
        answers = map answer_number (take h.offices rs);
        offices-say =
            record {
              count = length-map (take h.offices rs) answer_number ∙ length-take-le h.offices rs offices-fit ∙ offices-same;
              each = λ i l.
                  let k : i < h.offices = omega (arith, offices-same) in
                  subst (λ (r : ℕ). AnswerIs (seen_at s (suc i)) q.person q.deed q.folio r)
                  (sym (get_or-map answer_number (take h.offices rs) i Undetermined ∙ ap answer_number (get_or-take h.offices rs i Undetermined k))) (each i k);
            };
        result = e;
      }

-- .. of the numbers of their answers
pub joint-of-numbers : (s t : List ℕ) (h : Header) → WellFormed s t h → (q : Question) (ns : List ℕ) → length ns ≡ max_offices → ((i : ℕ) → i < h.offices → AnswerIs (seen_at s (suc i)) q.person q.deed q.folio (get_or ns i 0))
    → JointAnswerIs (seen_at s) (header_of s).offices q.rule q.person q.deed q.folio (record { answer = (jointly q.rule (take h.offices ns)).answer; office = (jointly q.rule (take h.offices ns)).office })
joint-of-numbers s t h f q ns long each =
    let fit : h.offices ≤ length ns = omega (arith, long, f.nodes.header.offices-high) in
    let same : h.offices ≡ (header_of s).offices = ap (λ (x : Header). x.offices) f.head in
    record {
      answers = take h.offices ns;
      offices-say =
          record {
            count = length-take-le h.offices ns fit ∙ same;
            each = λ i l.
                let k : i < h.offices = omega (arith, same) in
                subst (λ (r : ℕ). AnswerIs (seen_at s (suc i)) q.person q.deed q.folio r) (sym (get_or-take h.offices ns i 0 k)) (each i k);
          };
      result = refl;
    }

-- ---- whether an answer is undetermined, as `==` tells it

pub is-determined : (r : OfficeAnswer) (b : Bool) → b ≡ not (sameb the_type r Undetermined) → b ≡ true → answer_number r ≡ 0 → ⊥
is-determined Undetermined b u t z = false≢true (sym u ∙ t)
is-determined Granted b u t z = absurd (omega (arith, z))
is-determined Banned b u t z = absurd (omega (arith, z))
is-determined Both b u t z = absurd (omega (arith, z))

pub is-undetermined : (r : OfficeAnswer) (b : Bool) → b ≡ not (sameb the_type r Undetermined) → b ≡ false → answer_number r ≡ 0
is-undetermined Undetermined b u t = refl
is-undetermined Granted b u t = absurd (false≢true (sym t ∙ u))
is-undetermined Banned b u t = absurd (false≢true (sym t ∙ u))
is-undetermined Both b u t = absurd (false≢true (sym t ∙ u))
