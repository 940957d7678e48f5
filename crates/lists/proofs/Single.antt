-- Any two answers that the statement of question 5, 6 and so on to 10 allows are equal, and so is what they leave in the output.
-- Assumes nothing.
use Prim.Native.Nat.{ℕ}
use mathlib.Core.Path.{◌≡◌}
use mathlib.Core.List.{List}
use Rattle.sheet.specs.declared.Refusal.{Refusal}
use Rattle.tables.specs.Office.{View}
use Rattle.meaning.specs.Questions.{PersonsInCategoryAre, PersonsWithGrantAre, FoliosOutOfReachAre, LeastTripleIs, LeastHolderIs, RedundantEdgesAre}
use Rattle.meaning.proofs.Unique.{persons-in-category-one, persons-with-grant-one, folios-out-of-reach-one, least-triple-one, least-holder-one, redundant-edges-one}
use Rattle.question.specs.declared.Answer.{Answer}
use Rattle.question.specs.Replies.{Shows}
use Rattle.question.proofs.Single.{shows-one}

module _ (g : View) (r : Refusal) (out : List ℕ) {a b : Answer} {o o' : List ℕ} where
  -- question 5
  pub persons-single : (c : ℕ) → Shows r (PersonsInCategoryAre g c) out a o → Shows r (PersonsInCategoryAre g c) out b o' → (a ≡ b) × (o ≡ o')
  persons-single c = shows-one r (PersonsInCategoryAre g c) (persons-in-category-one g c) out

  -- question 6
  pub holders-single : (d f : ℕ) → Shows r (PersonsWithGrantAre g d f) out a o → Shows r (PersonsWithGrantAre g d f) out b o' → (a ≡ b) × (o ≡ o')
  holders-single d f = shows-one r (PersonsWithGrantAre g d f) (persons-with-grant-one g d f) out

  -- question 7
  pub unreached-single : Shows r (FoliosOutOfReachAre g) out a o → Shows r (FoliosOutOfReachAre g) out b o' → (a ≡ b) × (o ≡ o')
  unreached-single = shows-one r (FoliosOutOfReachAre g) (folios-out-of-reach-one g) out

  -- question 8
  pub triple-single : Shows r (LeastTripleIs g) out a o → Shows r (LeastTripleIs g) out b o' → (a ≡ b) × (o ≡ o')
  triple-single = shows-one r (LeastTripleIs g) (least-triple-one g) out

  -- question 9
  pub pair-single : (d d' : ℕ) → Shows r (LeastHolderIs g d d') out a o → Shows r (LeastHolderIs g d d') out b o' → (a ≡ b) × (o ≡ o')
  pair-single d d' = shows-one r (LeastHolderIs g d d') (least-holder-one g d d') out

-- question 10
pub redundant-single : (s : List ℕ) (office : ℕ) (r : Refusal) (out : List ℕ) {a b : Answer} {o o' : List ℕ} → Shows r (RedundantEdgesAre s office) out a o → Shows r (RedundantEdgesAre s office) out b o' → (a ≡ b) × (o ≡ o')
redundant-single s office r out = shows-one r (RedundantEdgesAre s office) (redundant-edges-one s office) out
