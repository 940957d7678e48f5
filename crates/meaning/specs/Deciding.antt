-- The joint rules in paths: what is told, and the office that decides. The rules over numbers are in Answers; that they say this is proved.
-- Assumes nothing.
use Rattle.std.specs.Prelude.{ℕ, suc, ◌<◌}
use Rattle.tables.specs.Office.{View}
use Rattle.meaning.specs.Paths.{Side, HasPath}
use Rattle.meaning.specs.Answers.{AnswerIs, side_answer, other, Joint, undetermined}
use Rattle.meaning.specs.Source.{Prior}

-- of n offices that see `at`, asked for a person, a deed and a folio
module _ (at : ℕ → View) (n p d f : ℕ) where
  -- office i + 1 is the lowest that has a path of the side
  pub record LowestOf (side : Side) (i : ℕ) : Type 0 where
    pub inside : i < n
    pub has : HasPath (at (suc i)) side p d f
    pub first : (j : ℕ) → j < i → HasPath (at (suc j)) side p d f → ⊥

  -- one side first: the side's relation, or else the other's, or else neither, with the office that decides
  pub data SideFirst (side : Side) : Joint → Type 0 where
    prior : (i : ℕ) → LowestOf side i → SideFirst side (record { answer = side_answer side; office = suc i })
    yields : (i : ℕ) → (Prior at n side p d f → ⊥) → LowestOf (other side) i → SideFirst side (record { answer = side_answer (other side); office = suc i })
    neither : (Prior at n side p d f → ⊥) → (Prior at n (other side) p d f → ⊥) → SideFirst side undetermined

  -- the first office that is not undetermined, with its own answer
  pub data FirstApplies : Joint → Type 0 where
    decided : (i r : ℕ) → i < n → AnswerIs (at (suc i)) p d f r → 0 < r → ((j : ℕ) → j < i → (side : Side) → HasPath (at (suc j)) side p d f → ⊥)
        → FirstApplies (record { answer = r; office = suc i })
    no-office : ((j : ℕ) → j < n → (side : Side) → HasPath (at (suc j)) side p d f → ⊥) → FirstApplies undetermined
