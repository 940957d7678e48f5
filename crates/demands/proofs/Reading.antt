-- The register's sentences, read off the page: all that is here follows from the three records and the definitions that they name, so a line made weaker breaks it.
-- Assumes nothing.
use Prim.Native.Nat.{ℕ, zero, suc, ◌-◌, ◌<◌, ◌≤◌}
use mathlib.Core.Path.{◌≡◌, refl, sym, ap, ap₂, subst, ◌∙◌}
use mathlib.Core.Bool.{Bool, true, false, true≢false}
use mathlib.Core.List.{List}
use mathlib.Core.Logic.{◌↔◌, ◌⊎◌, inl, inr}
use native.Mathlib.Omega.{arith}
use lib.ListN.{length, take}
use lib.Seq.{take_at}
use Rattle.sheet.specs.declared.Refusal.{Refusal}
use Rattle.sheet.specs.Refusals.{refuse, ◌or_else◌}
use Rattle.sheet.specs.Rows.{header_of}
use Rattle.sheet.specs.Named.{seen_at}
use Rattle.tables.specs.Office.{View}
use Rattle.meaning.specs.Paths.{Side, grant, ban, is_path, HasPath}
use Rattle.meaning.specs.Answers.{Says, answered, AnswerIs, gives, side_answer, other, Joint}
use Rattle.meaning.specs.Deciding.{LowestOf, SideFirst, prior, yields, neither, FirstApplies, decided, no-office}
use Rattle.meaning.specs.Source.{Prior}
use Rattle.meaning.specs.Questions.{PersonsInCategoryAre, PersonsWithGrantAre, FoliosOutOfReachAre, BothAt, HoldsBoth, RedundantEdgesAre}
use Rattle.meaning.specs.Join.{offices_of, IsTaken}
use Rattle.question.specs.declared.Question.{Question}
use Rattle.question.specs.declared.Answer.{Answer}
use Rattle.question.specs.Asked.{asked, bad_office, ask_fault, after_sheet, side_of}
use Rattle.ask.specs.Promises.{AnswersAtOffice, AnswersJointly, Witnesses}
use Rattle.claim.specs.Promises.{TellsPath}
use Rattle.lists.specs.Sought.{unknown_category, unknown_right, bad_pair}
use Rattle.lists.specs.Promises.{ListsPersonsInCategory, ListsPersonsWithGrant, ListsFoliosOutOfReach, ShowsLeastTriple, ShowsLeastHolder, ListsRedundantEdges}
use Rattle.join.specs.declared.Joined.{Joined}
use Rattle.join.specs.Joins.{Joining}
use Rattle.takeout.specs.Promises.{TakesOut}
use Rattle.demands.specs.Demands.{NoSuch, Judged, by-the-table, no_such, too_short, not-refused, Keeps, PathOf, InFront, front, joint_in, Sheet, Fits, Demand1, Demand2, Demand3}

-- ---- demand 1: where nothing refuses them, lists and offices' sheets are there; 0 exactly if they fit, 25 exactly if they do not, and 26 never

pub record ThereIs (R : List ℕ → Type 0) (room number : ℕ) : Type 0 where
  pub list : List ℕ
  pub is : R list
  pub fits : (number ≡ 0) ↔ (length list ≤ room)
  pub lacks : (number ≡ 25) ↔ (room < length list)

there-is : {refusal : Refusal} {R : List ℕ → Type 0} {said : Refusal} {count : ℕ} {out out' : List ℕ} → Keeps (Judged refusal ⊥ R (length out)) said count out out' → refusal.number ≡ 0 → ThereIs R (length out) said.number
unfolding refuse
there-is {refusal} {R} {said} {count} {out} k z = go k.first
  where
    go : {r : Refusal} → Judged refusal ⊥ R (length out) r → ThereIs R (length out) r.number
    go (by-the-table h) = absurd (h z)
    go (no_such y x) = absurd x
    go (too_short ws y x l) = record { list = ws; is = x; fits = (λ e. absurd (omega (arith, e)), λ m. absurd (omega arith)); lacks = (λ e. l, λ m. refl) }
    go (not-refused ws y x l) = record { list = ws; is = x; fits = (λ e. l, λ m. refl); lacks = (λ e. absurd (omega (arith, e)), λ m. absurd (omega arith)) }

-- 26 exactly where it is missing
missing-exactly : {refusal : Refusal} {Missing : Type 0} {R : List ℕ → Type 0} {said : Refusal} {count : ℕ} {out out' : List ℕ} → Keeps (Judged refusal Missing R (length out)) said count out out' → refusal.number ≡ 0 → (said.number ≡ 26) ↔ Missing
unfolding refuse
missing-exactly {refusal} {Missing} {R} {said} {count} {out} k z = (go k.first, λ m. ap (λ (r : Refusal). r.number) (sym (k.no_other _ (no_such z m))))
  where
    go : {r : Refusal} → Judged refusal Missing R (length out) r → r.number ≡ 26 → Missing
    go (by-the-table h) e = absurd (h z)
    go (no_such y m) e = m
    go (too_short ws y x l) e = absurd (omega (arith, e))
    go (not-refused ws y x l) e = absurd (omega (arith, e))

module _ (one : Demand1) (s : List ℕ) (q : Question) (out : List ℕ) {a : Answer} {out' : List ℕ} where
  pub persons-there : ListsPersonsInCategory s q out a out' → (after_sheet s (bad_office (header_of s) q.office or_else unknown_category s q)).number ≡ 0 → ThereIs (PersonsInCategoryAre (asked s q) q.category) (length out) a.number
  persons-there x = there-is (one.question-5 s q out x)

  pub holders-there : ListsPersonsWithGrant s q out a out' → (after_sheet s (bad_office (header_of s) q.office or_else unknown_right s q)).number ≡ 0 → ThereIs (PersonsWithGrantAre (asked s q) q.deed q.folio) (length out) a.number
  holders-there x = there-is (one.question-6 s q out x)

  pub unreached-there : ListsFoliosOutOfReach s q out a out' → (after_sheet s (bad_office (header_of s) q.office)).number ≡ 0 → ThereIs (FoliosOutOfReachAre (asked s q)) (length out) a.number
  unreached-there x = there-is (one.question-7 s q out x)

  pub redundant-there : ListsRedundantEdges s q out a out' → (after_sheet s (bad_office (header_of s) q.office)).number ≡ 0 → ThereIs (RedundantEdgesAre s q.office) (length out) a.number
  redundant-there x = there-is (one.question-10 s q out x)

  pub office-there : (office : ℕ) → TakesOut s office out a out' → (after_sheet s (bad_office (header_of s) office)).number ≡ 0 → ThereIs (IsTaken s (office - 1) 1) (length out) a.number
  office-there office x = there-is (one.take_out s office out x)

  pub path-missing : Witnesses s q out a out' → (after_sheet s (ask_fault s q)).number ≡ 0 → (a.number ≡ 26) ↔ NoSuch (PathOf s q)
  path-missing x = missing-exactly (one.question-3 s q out x)

  pub triple-missing : ShowsLeastTriple s q out a out' → (after_sheet s (bad_office (header_of s) q.office)).number ≡ 0 → (a.number ≡ 26) ↔ NoSuch (BothAt (asked s q))
  triple-missing x = missing-exactly (one.question-8 s q out x)

  pub pair-missing : ShowsLeastHolder s q out a out' → (after_sheet s (bad_office (header_of s) q.office or_else bad_pair s q)).number ≡ 0 → (a.number ≡ 26) ↔ NoSuch (HoldsBoth (asked s q) q.deed q.other)
  pair-missing x = missing-exactly (one.question-9 s q out x)

-- ---- demand 2: granted, banned, both or undetermined, as the office's paths exist

-- an answer is known by what it gives
by-sides : (v : ℕ) → v < 4 → v ≡ answered (gives grant v) (gives ban v)
by-sides zero l = refl
by-sides (suc zero) l = refl
by-sides (suc (suc zero)) l = refl
by-sides (suc (suc (suc zero))) l = refl
by-sides (suc (suc (suc (suc v)))) l = absurd (omega (arith, l))

module _ (two : Demand2) (s : List ℕ) (q : Question) where
  pub the-answer : (after : ℕ → Refusal) {a : Answer} → AnswersAtOffice after s q a → a.number ≡ 0 → AnswerIs (asked s q) q.person q.deed q.folio a.value
  the-answer after {a} x z =
      record {
        grants = gives grant a.value;
        bans = gives ban a.value;
        granted = says grant (gives grant a.value) refl;
        banned = says ban (gives ban a.value) refl;
        number = by-sides a.value (two.answers after s q x z).0;
      }
    where
      says : (side : Side) (b : Bool) → gives side a.value ≡ b → Says b (HasPath (asked s q) side q.person q.deed q.folio)
      says side true e = (two.paths s q side).1 (((two.answers after s q x z).1 side).0 e)
      says side false e = λ h. true≢false (sym (((two.answers after s q x z).1 side).1 ((two.paths s q side).0 h)) ∙ e)

  -- yes or no, and no third
  pub yes_or_no : (list : List ℕ) {a : Answer} → TellsPath s q list a → a.number ≡ 0 → (a.value ≡ 1) ⊎ (a.value ≡ 0)
  yes_or_no list {a} x z = go (is_path (asked s q) (side_of q.kind) q.person q.deed q.folio list) refl
    where
      go : (b : Bool) → is_path (asked s q) (side_of q.kind) q.person q.deed q.folio list ≡ b → (a.value ≡ 1) ⊎ (a.value ≡ 0)
      go true e = inl ((two.is-path s q list x z).0.1 e)
      go false e = inr ((two.is-path s q list x z).1.1 (λ y. true≢false (sym y ∙ e)))

-- ---- the joint rules: undetermined, by office 0, exactly where no office has a path of either side; else the lowest office that gave the fact decides

module _ (at : ℕ → View) (n p d f : ℕ) where
  abbrev pub NoOffice : Type 0
  NoOffice = (i : ℕ) → i < n → (side : Side) → HasPath (at (suc i)) side p d f → ⊥

  pub record Undecided (j : Joint) : Type 0 where
    pub nowhere : (j.answer ≡ 0) ↔ NoOffice
    pub by-none : (j.office ≡ 0) ↔ (j.answer ≡ 0)

  -- an answer and an office, where some office has a path
  some-decides : (i v o : ℕ) (side : Side) → i < n → HasPath (at (suc i)) side p d f → 0 < v → 0 < o → Undecided (record { answer = v; office = o })
  some-decides i v o side l h a b = record { nowhere = (λ e. absurd (omega (arith, e)), λ u. absurd (u i l side h)); by-none = (λ e. absurd (omega (arith, e)), λ e. absurd (omega (arith, e))) }

  told-some : (side : Side) → 0 < side_answer side
  told-some grant = omega arith
  told-some ban = omega arith

  both-sides : (side : Side) → (Prior at n side p d f → ⊥) → (Prior at n (other side) p d f → ⊥) → NoOffice
  both-sides grant a b i l grant h = a (record { s = i; inside = l; has = h })
  both-sides grant a b i l ban h = b (record { s = i; inside = l; has = h })
  both-sides ban a b i l grant h = b (record { s = i; inside = l; has = h })
  both-sides ban a b i l ban h = a (record { s = i; inside = l; has = h })

  by-a-side : (side : Side) {j : Joint} → SideFirst at n p d f side j → Undecided j
  by-a-side side (prior i x) = some-decides i _ _ side x.inside x.has (told-some side) (omega arith)
  by-a-side side (yields i y x) = some-decides i _ _ (other side) x.inside x.has (told-some (other side)) (omega arith)
  by-a-side side (neither a b) = record { nowhere = (λ e. both-sides side a b, λ u. refl); by-none = (λ e. refl, λ e. refl) }

  -- an answer that is not 0 has a path
  in_order : {j : Joint} → FirstApplies at n p d f j → Undecided j
  in_order (decided i r l x pos before) = go x.grants x.bans x.granted x.banned x.number
    where
      go : (u v : Bool) → Says u (HasPath (at (suc i)) grant p d f) → Says v (HasPath (at (suc i)) ban p d f) → r ≡ answered u v → Undecided (record { answer = r; office = suc i })
      go true v h k e = some-decides i r (suc i) grant l h pos (omega arith)
      go false true h k e = some-decides i r (suc i) ban l k pos (omega arith)
      go false false h k e = absurd (omega (arith, e, pos))
  in_order (no-office none) = record { nowhere = (λ e. none, λ u. refl); by-none = (λ e. refl, λ e. refl) }

  -- office i + 1 decides: it has a path of the side that is told, and no lower office has one
  pub record Decides (j : Joint) (i : ℕ) : Type 0 where
    pub side : Side
    pub tells-it : j.answer ≡ side_answer side
    pub lowest : LowestOf at n p d f side i

  one-side-decides : (side : Side) {j : Joint} → SideFirst at n p d f side j → (i : ℕ) → j.office ≡ suc i → Decides j i
  one-side-decides side (prior k x) i e = let z : k ≡ i = omega (arith, e) in record { side = side; tells-it = refl; lowest = subst (LowestOf at n p d f side) z x }
  one-side-decides side (yields k y x) i e = let z : k ≡ i = omega (arith, e) in record { side = other side; tells-it = refl; lowest = subst (LowestOf at n p d f (other side)) z x }
  one-side-decides side (neither a b) i e = absurd (omega (arith, e))

  -- office i + 1 is the first that is not undetermined, and the answer is its own
  pub record FirstDecides (j : Joint) (i : ℕ) : Type 0 where
    pub inside : i < n
    pub own : AnswerIs (at (suc i)) p d f j.answer
    pub before : (k : ℕ) → k < i → (side : Side) → HasPath (at (suc k)) side p d f → ⊥

  in-order-decides : {j : Joint} → FirstApplies at n p d f j → (i : ℕ) → j.office ≡ suc i → FirstDecides j i
  in-order-decides (decided k r l x pos none) i e = let z : k ≡ i = omega (arith, e) in subst (FirstDecides (record { answer = r; office = suc k })) z (record { inside = l; own = x; before = none })
  in-order-decides (no-office none) i e = absurd (omega (arith, e))

module _ (two : Demand2) (after : ℕ → Refusal) (s : List ℕ) (q : Question) {a : Answer} (x : AnswersJointly after s q a) (z : a.number ≡ 0) where
  module _ (side : Side) (e : q.rule ≡ side_answer side) where
    pub undecided-by-side : Undecided (seen_at s) (offices_of s) q.person q.deed q.folio (joint_in a)
    undecided-by-side = by-a-side (seen_at s) (offices_of s) q.person q.deed q.folio side (two.side-first after s q x z side e)

    pub decided-by-side : (i : ℕ) → a.count ≡ suc i → Decides (seen_at s) (offices_of s) q.person q.deed q.folio (joint_in a) i
    decided-by-side = one-side-decides (seen_at s) (offices_of s) q.person q.deed q.folio side (two.side-first after s q x z side e)

  module _ (e : q.rule ≡ 3) where
    pub undecided-in-order : Undecided (seen_at s) (offices_of s) q.person q.deed q.folio (joint_in a)
    undecided-in-order = in_order (seen_at s) (offices_of s) q.person q.deed q.folio (two.order-first after s q x z e)

    pub decided-in-order : (i : ℕ) → a.count ≡ suc i → FirstDecides (seen_at s) (offices_of s) q.person q.deed q.folio (joint_in a) i
    decided-in-order = in-order-decides (seen_at s) (offices_of s) q.person q.deed q.folio (two.order-first after s q x z e)

-- ---- demand 3

-- two sheets join, and both come back out of what stands in front of the output
pub out-again : Demand3 → (a b out lent other : List ℕ) {r : Joined} {x y : Answer} {out' lent' other' : List ℕ} → Sheet 1 a → Sheet 1 b → Fits a b (length out) → length a ≤ length lent → length b ≤ length other
    → Joining a b out r out' → TakesOut (take r.words out') 1 lent x lent' → TakesOut (take r.words out') 2 other y other' → (r.number ≡ 0) × InFront a lent lent' × InFront b other other'
out-again three a b out lent other {r} {x} {y} {out'} {lent'} {other'} v w fits l m j p q =
    let t = three.joins a b out v w fits j in
    let J = t.1 in
    let e : take r.words out' ≡ J.sheet = ap₂ take J.words J.holds ∙ take_at J.sheet _ _ refl in (
      t.0,
      (J.first_back lent l (subst (λ (s : List ℕ). TakesOut s 1 lent x lent') e p)).1,
      (J.second_back other m (subst (λ (s : List ℕ). TakesOut s 2 other y other') e q)).1,
    )

-- a two-office sheet alone, with room: both its offices come out, and join to it again
pub round_trip : Demand3 → (s lent other out : List ℕ) {x y : Answer} {r : Joined} {lent' other' out' : List ℕ} → Sheet 2 s → length s ≤ length lent → length s ≤ length other → length s ≤ length out
    → TakesOut s 1 lent x lent' → TakesOut s 2 other y other' → Joining (front x lent') (front y other') out r out' → (x.number ≡ 0) × (y.number ≡ 0) × (r.number ≡ 0) × InFront s out out'
round_trip three s lent other out v l m room x y z =
    let again = three.joins-again s lent other out v l m room x y z in (
      (three.takes_out s 1 lent v.formed (omega arith) (omega (arith, v.count)) l x).0,
      (three.takes_out s 2 other v.formed (omega arith) (omega (arith, v.count)) m y).0,
      again.0,
      again.1,
    )
