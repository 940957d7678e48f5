-- What is made of two sheets: measured, and laid.
-- Assumes nothing.
use Rattle.std.specs.Prelude.{ℕ, ◌<◌, ◌≤◌, ◌≡◌, List, ◌++◌, length, drop, Result, Ok, Err}
use Rattle.sheet.specs.declared.Half.{Half}
use Rattle.sheet.specs.declared.fault.Fault.{Fault}
use Rattle.sheet.specs.declared.fault.Fault.TheVariants.{OutputShort}
use Rattle.combine.specs.declared.Measure.{Measure}
use Rattle.combine.specs.declared.combination.Combination.{Combination}
use Rattle.combine.specs.declared.halves.Halves.{Halves}
use Rattle.combine.specs.Rules.{makes, rule_in}
use Rattle.combine.specs.Halves.{kept_rows}
use Rattle.combine.specs.Sheets.{IsCombined, Measured, Laid}

-- one half of the two sheets, under the plan's rule for it
pub record IsHalf (C : Combination) (half : Half) (H : Halves) : Type 0 where
  pub first : H.first ≡ C.first
  pub second : H.second ≡ C.second
  pub half-is : H.half ≡ half
  pub rule : H.rule ≡ rule_in half C.plan

-- the combination's rows are counted, and where both sheets' node rows stand in it is noted
abbrev pub MeasuredAs : Combination → List ℕ → List ℕ → Measure → Type 0
MeasuredAs C firstplaces secondplaces m = Measured C.plan.nodes C.plan.edges C.first.now.words.now C.first.now.header C.second.now.words.now C.second.now.header firstplaces secondplaces m

-- the combination stands in front of the output
abbrev pub LaidAs : Combination → Measure → List ℕ → List ℕ → Type 0
LaidAs C m out out' = Laid C.plan.nodes C.plan.edges C.plan.offices C.first.now.words.now C.first.now.header C.second.now.words.now C.second.now.header m out out'

-- how many rows of a half it has
abbrev pub kept_of : Combination → Half → ℕ
kept_of C half = kept_rows (rule_in half C.plan) half C.first.now.words.now C.first.now.header C.second.now.words.now C.second.now.header

-- a sheet of which R holds is put into an output: 25 where that is shorter, and nothing is written; or how many words it has, which stand in front
pub data PutsCombined (R : List ℕ → Type 0) (out : List ℕ) : Result ℕ Fault → List ℕ → Type 0 where
  short : (t : List ℕ) → R t → length out < length t → PutsCombined R out (Err OutputShort) out
  written : (t : List ℕ) → R t → length t ≤ length out → PutsCombined R out (Ok (length t)) (t ++ drop (length t) out)

-- .. the combination
abbrev pub PutsAs : Combination → List ℕ → Result ℕ Fault → List ℕ → Type 0
PutsAs C = PutsCombined (IsCombined (makes C.plan.nodes) (makes C.plan.edges) C.plan.offices C.first.now.words.now C.second.now.words.now)
