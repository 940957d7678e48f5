-- Demand 3: what the statements of joining, taking out and asking allow together, from what they say of the offices.
-- Assumes nothing.
use Prim.Native.Nat.{ℕ, zero, suc, ◌-◌, ◌<◌, ◌≤◌}
use mathlib.Core.Path.{◌≡◌, refl, sym, ap, ap₂, subst, ◌∙◌}
use mathlib.Core.Bool.{false}
use mathlib.Core.List.{List, [], ◌∷◌}
use native.Mathlib.Omega.{arith}
use lib.ListN.{length, get_or, take}
use lib.Seq.{take_at}
use Rattle.sheet.specs.declared.Refusal.{Refusal}
use Rattle.sheet.specs.Limits.{max_edges, sheet_words}
use Rattle.sheet.specs.Rows.{header_of}
use Rattle.sheet.specs.Accepted.{Accepted}
use Rattle.sheet.specs.Named.{seen_at}
use Rattle.sheet.specs.Verdict.{verdict}
use Rattle.sheet.proofs.Accepting.{not-refused}
use Rattle.sheet.proofs.Forming.{one_form}
use Rattle.sheet.proofs.Refusing.{else-none, then-good, then-none}
use Rattle.meaning.specs.Answers.{AnswerIs, AnswersAre, JointAnswerIs, jointly}
use Rattle.meaning.specs.Join.{offices_of, IsJoin, IsTaken}
use Rattle.meaning.proofs.Joins.{pair_one, parts_join, joint-answer}
use Rattle.question.specs.declared.Answer.{Answer}
use Rattle.question.specs.declared.Question.{Question}
use Rattle.question.specs.Asked.{unknown, ask_fault, joint_fault, plain, after_sheet}
use Rattle.ask.specs.Promises.{AnswersAtOffice, AnswersJointly}
use Rattle.question.specs.Replies.{refused, answered}
use Rattle.question.proofs.Telling.{plain-none, office-fits}
use Rattle.ask.proofs.Placing.{unknown-undetermined}
use Rattle.question.proofs.Single.{replies-one}
use Rattle.ask.proofs.Single.{joint-single}
use Rattle.join.specs.declared.Joined.{Joined}
use Rattle.join.specs.Joins.{union_nodes, union_edges, sheets_fault, union_fault, join_fault, Joining, refused, joined}
use Rattle.join.specs.Joinable.{Joinable}
use Rattle.join.proofs.Refusing.{first-opens, second-opens, none-refused, in-none, union-passes}
use Rattle.join.proofs.Single.{joins-one}
use Rattle.takeout.specs.Promises.{TakesOut}
use Rattle.takeout.proofs.Back.{takes-room}
use Rattle.takeout.proofs.There.{run-sheet}
use Rattle.demands.specs.Demands.{front, InFront, Sheet, Fits, at_office, Combines}
use Rattle.demands.proofs.Counting.{nodes-counted, edges-counted, nodes-union, edges-union}

-- sheets whose join is not refused were accepted, and have one office each
joinable : (a b : List ℕ) (room : ℕ) → (join_fault a b room).number ≡ 0 → Joinable a (header_of a) × Joinable b (header_of b)
unfolding join_fault
joinable a b room z =
    let t = (then-good (sheets_fault a b) _ z).0 in
    (first-opens a b (sheets_fault a b) refl t (header_of a) refl, second-opens a b (sheets_fault a b) refl t (header_of b) refl)

-- ---- no two pairs

-- no two different pairs share a joint sheet
pub no-two-pairs : (a b out a' b' lent : List ℕ) {r r' : Joined} {out' lent' : List ℕ} → Joining a b out r out' → r.number ≡ 0 → Joining a' b' lent r' lent' → r'.number ≡ 0
    → take r.words out' ≡ take r'.words lent' → (a ≡ a') × (b ≡ b')
no-two-pairs a b out a' b' lent (refused h) z y z' same = absurd (h z)
no-two-pairs a b out a' b' lent (joined j k x n e l) z (refused h) z' same = absurd (h z')
no-two-pairs a b out a' b' lent (joined j k x n e l) z (joined j' k' x' n' e' l') z' same =
    let o = joinable a b (length out) k in
    let p = joinable a' b' (length lent) k' in
    let q : j ≡ j' = sym (take_at j _ _ refl) ∙ same ∙ take_at j' _ _ refl in
    pair_one a b a' b' j o.0.accepted o.1.accepted p.0.accepted p.1.accepted (o.0.one ∙ sym p.0.one) (o.1.one ∙ sym p.1.one) x (subst (IsJoin a' b') (sym q) x')

-- ---- joining what can be joined

-- nothing refuses two sheets of one office whose union keeps the limits and fits
pub none-refuses : (a b : List ℕ) (room : ℕ) → Sheet 1 a → Sheet 1 b → Fits a b room → (join_fault a b room).number ≡ 0
unfolding join_fault
none-refuses a b room v w f =
    ap (λ (r : Refusal). r.number) (then-none (sheets_fault a b) (union_fault a b room)
    (sym (none-refused a b (verdict 1 a) refl (ap (λ (x : Refusal). x.number) (not-refused 1 a v.formed)) (verdict 2 b) refl
    (ap (λ (x : Refusal). x.number) (not-refused 2 b w.formed)) (header_of a) refl v.count (header_of b) refl _ refl w.count)))
    ∙ union-passes a b _ _ _ room (in-none _ _ _ room f.nodes f.edges f.words) refl refl refl

-- ---- joining what was taken out

-- with room for the sheet's words, an office's sheet is taken out
pub takes_out : (s : List ℕ) (office : ℕ) (out : List ℕ) {x : Answer} {out' : List ℕ} → Accepted s → 1 ≤ office → office ≤ offices_of s → length s ≤ length out → TakesOut s office out x out'
    → (x.number ≡ 0) × IsTaken s (office - 1) 1 (front x out')
takes_out s office out w l h room y =
    let T = run-sheet s w (office - 1) 1 (omega arith) (omega arith) in
    let z = takes-room s T.sheet office w l h T.is out (omega (arith, T.fits)) y in
    let e = ap₂ take (ap (λ (a : Answer). a.count) z.0) z.1 ∙ take_at T.sheet _ _ refl in
    (ap (λ (a : Answer). a.number) z.0, subst (IsTaken s (office - 1) 1) (sym e) T.is)

-- the two sheets of a sheet of two offices join to it
module _ (s p q : List ℕ) (v : Sheet 2 s) (x : IsTaken s 0 1 p) (y : IsTaken s 1 1 q) (out : List ℕ) (room : length s ≤ length out) where
  parts : IsJoin p q s
  parts = parts_join s p q 1 1 v.formed v.count x y

  fits : Fits p q (length out)
  fits =
      let h = v.formed.nodes.header in
      let n = nodes-union p q s x.accepted y.accepted parts in
      let e = edges-union p q s x.accepted y.accepted parts in
      let f = one_form s p v.formed x.accepted in
      let w : length s ≡ sheet_words (header_of p).form (union_nodes p q) (union_edges p q) = h.whole ∙ (λ i. sheet_words (f i) (n i) (e i)) in
      record { nodes = omega (arith, n, h.nodes); edges = subst (λ (m : ℕ). union_edges p q ≤ max_edges m) f (omega (arith, e, h.edges)); words = omega (arith, w, room) }

  parts-joined : {r : Joined} {out' : List ℕ} → Joining p q out r out' → (r.number ≡ 0) × InFront s out out'
  parts-joined z =
      let f = none-refuses p q (length out) (record { formed = x.accepted; count = x.offices }) (record { formed = y.accepted; count = y.offices }) fits in
      let t = joins-one (λ j. j) _ p q out z
      (joined s f parts (nodes-counted p q s x.accepted y.accepted parts) (edges-counted p q s x.accepted y.accepted parts) room) in
      (ap (λ (w : Joined). w.number) t.0, t.1)

pub joins-again : (s lent other out : List ℕ) {x y : Answer} {r : Joined} {lent' other' out' : List ℕ} → Sheet 2 s → length s ≤ length lent → length s ≤ length other → length s ≤ length out
    → TakesOut s 1 lent x lent' → TakesOut s 2 other y other' → Joining (front x lent') (front y other') out r out' → (r.number ≡ 0) × InFront s out out'
joins-again s lent other out v l m room x y =
    parts-joined s _ _ v (takes_out s 1 lent v.formed (omega arith) (omega (arith, v.count)) l x).1 (takes_out s 2 other v.formed (omega arith) (omega (arith, v.count)) m y).1 out room

-- ---- the joint answer

-- nothing refuses a question of an accepted sheet that has no fault of its own
pub not-refusing : (s : List ℕ) (k : ℕ) → Accepted s → k ≡ 0 → (after_sheet s k).number ≡ 0
unfolding after_sheet
not-refusing s k acc e = ap (λ (f : Refusal). f.number) (then-none (verdict 1 s) (plain k) (not-refused 1 s acc)) ∙ plain-none k e

-- an office that there is refuses only what it does not know
known-asked : (s : List ℕ) (k : ℕ) (q : Question) → k < offices_of s → unknown s false (suc k) (at_office (suc k) q) ≡ 0 → ask_fault s (at_office (suc k) q) ≡ 0
unfolding ask_fault
known-asked s k q l e = else-none _ _ (office-fits (header_of s) (suc k) k refl l) ∙ e

-- the value that question 1 tells of an office is its answer; where it refuses, the office does not know one of the three, and is undetermined
own-answer : (s : List ℕ) → Accepted s → (k : ℕ) → k < offices_of s → (q : Question) {x : Answer} → AnswersAtOffice (after_sheet s) s (at_office (suc k) q) x → AnswerIs (seen_at s (suc k)) q.person q.deed q.folio x.value
own-answer s acc k l q (refused h) = unknown-undetermined s acc (suc k) (at_office (suc k) q) (λ e. h (not-refusing s _ acc (known-asked s k q l e)))
own-answer s acc k l q (answered v c z p) = p.0

-- the answers of a sheet of one office
alone : (s : List ℕ) (p d f v : ℕ) → offices_of s ≡ 1 → AnswerIs (seen_at s 1) p d f v → AnswersAre (seen_at s) (offices_of s) p d f (v ∷ [])
alone s p d f v one x = record { count = sym one; each = λ i l. at i (omega (arith, one, l)) }
  where
    at : (i : ℕ) → i < 1 → AnswerIs (seen_at s (suc i)) p d f (get_or (v ∷ []) i 0)
    at zero l = x
    at (suc i) l = absurd (omega (arith, l))

-- and of two
two-answers : (s : List ℕ) (p d f v w : ℕ) → offices_of s ≡ 2 → AnswerIs (seen_at s 1) p d f v → AnswerIs (seen_at s 2) p d f w → AnswersAre (seen_at s) (offices_of s) p d f (v ∷ w ∷ [])
two-answers s p d f v w two x y = record { count = sym two; each = λ i l. at i (omega (arith, two, l)) }
  where
    at : (i : ℕ) → i < 2 → AnswerIs (seen_at s (suc i)) p d f (get_or (v ∷ w ∷ []) i 0)
    at zero l = x
    at (suc zero) l = y
    at (suc (suc i)) l = absurd (omega (arith, l))

-- what is told of a question on known numbers is the rule over the answers of all offices
by-the-rule : (s : List ℕ) → Accepted s → (q : Question) → joint_fault s q ≡ 0 → (x y : Answer) {r : Answer} → JointAnswerIs (seen_at s) (offices_of s) q.rule q.person q.deed q.folio (jointly q.rule (x.value ∷ y.value ∷ []))
    → AnswersJointly (after_sheet s) s q r → Combines q.rule x y r
by-the-rule s acc q known x y is r = replies-one _ _ (joint-single (seen_at s) (offices_of s) q.rule q.person q.deed q.folio) r (answered _ _ (not-refusing s _ acc known) is)

pub asked-combined : (a b j : List ℕ) (q : Question) {x y r : Answer} → Sheet 1 a → Sheet 1 b → IsJoin a b j → joint_fault j q ≡ 0
    → AnswersAtOffice (after_sheet a) a (at_office 1 q) x → AnswersAtOffice (after_sheet b) b (at_office 1 q) y → AnswersJointly (after_sheet j) j q r → Combines q.rule x y r
asked-combined a b j q {x} {y} v w i known p t =
    by-the-rule j i.accepted q known x y
    (joint-answer a b j i q.rule q.person q.deed q.folio (x.value ∷ []) (y.value ∷ [])
    (alone a _ _ _ _ v.count (own-answer a v.formed 0 (omega (arith, v.count)) q p))
    (alone b _ _ _ _ w.count (own-answer b w.formed 0 (omega (arith, w.count)) q t)))

pub asked-within : (s : List ℕ) (q : Question) {x y r : Answer} → Sheet 2 s → joint_fault s q ≡ 0
    → AnswersAtOffice (after_sheet s) s (at_office 1 q) x → AnswersAtOffice (after_sheet s) s (at_office 2 q) y → AnswersJointly (after_sheet s) s q r → Combines q.rule x y r
asked-within s q {x} {y} v known p t =
    by-the-rule s v.formed q known x y
    (record {
      answers = x.value ∷ y.value ∷ [];
      offices-say = two-answers s _ _ _ _ _ v.count (own-answer s v.formed 0 (omega (arith, v.count)) q p) (own-answer s v.formed 1 (omega (arith, v.count)) q t);
      result = refl;
    })
