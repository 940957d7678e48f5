-- What the loops know after a step: the rows that it takes are combined, and their places noted or their words written.
-- Assumes nothing.
use Prim.Native.Nat.{ℕ, ◌+◌, ◌<◌, ◌≤◌}
use mathlib.Core.Path.{◌≡◌, refl, sym, ap, ap₂, ◌∙◌}
use mathlib.Core.Bool.{Bool, true, false}
use mathlib.Core.List.{List}
use mir.Val.{bool_byte}
use native.Mathlib.Omega.{arith}
use lib.Dec.{ltb}
use lib.ListN.{length}
use lib.Seq.{sets}
use Rattle.std.specs.Prelude.{Some, None}
use Rattle.tables.specs.Count.{number_of}
use Rattle.sheet.specs.declared.Cells.{Cells}
use Rattle.sheet.specs.Rows.{row_place, row_words}
use Rattle.sheet.specs.Stored.{stored}
use Rattle.sheet.proofs.Widths.{place-before}
use Rattle.combine.specs.declared.halves.Halves.{Halves}
use Rattle.combine.specs.declared.meeting.Meeting.{Meeting}
use Rattle.combine.specs.declared.meeting.Meeting.TheVariants.{First, Second, Both}
use Rattle.combine.specs.Rules.{makes}
use Rattle.combine.specs.Combined.{given}
use Rattle.combine.specs.Halves.{Next, MarkedStep, noted, stored_at, taken_cells}
use Rattle.combine.specs.Meets.{first_at, second_at, first_met, second_met, first_after, second_after, AreNext, Meets, StepFrom, Comes, marks_made, row_made, place_noted, rows_kept_in, SurveyedIn, WrittenIn}
use Rattle.combine.proofs.Combining.{given-taken, given-left}
use Rattle.combine.proofs.Reading.{note-stored, note-left, stored_some, stored-none, taken-marks, taken-first, taken-second, one-is, no-marks-is}
use Rattle.combine.proofs.Walking.{Surveying, Writing, surveying-none, surveying-on, surveyed, writing-none, writing-on, all-written, small, room}

-- the loops' invariants, of a half
abbrev pub SurveyingIn : Halves → ℕ → ℕ → ℕ → List ℕ → List ℕ → Type 0
SurveyingIn H i j k ma mb = Surveying H.rule H.half H.first.now.words.now H.first.now.header H.second.now.words.now H.second.now.header i j k ma mb

abbrev pub WritingIn : Halves → List ℕ → List ℕ → ℕ → ℕ → ℕ → List ℕ → List ℕ → Type 0
WritingIn H ma mb i j k out₀ out = Writing H.rule H.half H.first.now.words.now H.first.now.header H.second.now.words.now H.second.now.header ma mb i j k out₀ out

-- a test, as a number
pub steps-counted : (b : Bool) → bool_byte b ≡ number_of b
steps-counted true = refl
steps-counted false = refl

pub byte-few : (b : Bool) (n : ℕ) → n ≡ bool_byte b → n ≤ 1
byte-few true n e = omega arith
byte-few false n e = omega arith

-- a step, as what it makes of how far the walk has come
abbrev next_of : Halves → ℕ → ℕ → Meeting → Next
next_of H i j step = record { i = first_after i step; j = second_after j step; marks = marks_made H step }

marked-step : (H : Halves) (i j : ℕ) (step : Meeting) → Meets H i j step → MarkedStep H.rule H.half H.first.now.words.now H.first.now.header H.second.now.words.now H.second.now.header i j (next_of H i j step)
marked-step H i j step S = record { moves = S.moves; made = go step S.next }
  where
    go : (s : Meeting) → AreNext i j s → marks_made H s ≡ makes H.rule (given (first_at H) i (first_after i s)) (given (second_at H) j (second_after j s))
    go (First x) e = ap₂ (makes H.rule) (ap (λ (y : ℕ). (first_at H y).marks) e ∙ sym (given-taken (first_at H) i (i + 1) (omega arith))) (sym (given-left (second_at H) j j (omega arith)))
    go (Second y) e = ap₂ (makes H.rule) (sym (given-left (first_at H) i i (omega arith))) (ap (λ (z : ℕ). (second_at H z).marks) e ∙ sym (given-taken (second_at H) j (j + 1) (omega arith)))
    go (Both x y) e = ap₂ (makes H.rule) (ap (λ (y : ℕ). (first_at H y).marks) e.0 ∙ sym (given-taken (first_at H) i (i + 1) (omega arith))) (ap (λ (z : ℕ). (second_at H z).marks) e.1 ∙ sym (given-taken (second_at H) j (j + 1) (omega arith)))

first-noted : (spots : List ℕ) (i j k : ℕ) (step : Meeting) → AreNext i j step → place_noted spots (first_met step) k ≡ noted spots i (first_after i step) k
first-noted spots i j k (First x) e = rw e (note-stored spots i (i + 1) k (omega arith))
first-noted spots i j k (Second y) e = note-left spots i i k (omega arith)
first-noted spots i j k (Both x y) e = rw e.0 (note-stored spots i (i + 1) k (omega arith))

second-noted : (spots : List ℕ) (i j k : ℕ) (step : Meeting) → AreNext i j step → place_noted spots (second_met step) k ≡ noted spots j (second_after j step) k
second-noted spots i j k (First x) e = note-left spots j j k (omega arith)
second-noted spots i j k (Second y) e = rw e (note-stored spots j (j + 1) k (omega arith))
second-noted spots i j k (Both x y) e = rw e.1 (note-stored spots j (j + 1) k (omega arith))

row-taken : (H : Halves) (ma mb : List ℕ) (i j : ℕ) (step : Meeting) → AreNext i j step → row_made H ma mb step ≡ taken_cells H.half H.first.now.words.now ma H.second.now.words.now mb i (first_after i step) j (marks_made H step)
row-taken H ma mb i j (First x) e = rw e (taken-first H.half _ ma H.second.now.words.now mb i (i + 1) j (marks_made H (First i)) (omega arith))
row-taken H ma mb i j (Second y) e = rw e (taken-second H.half H.first.now.words.now ma _ mb i i j (marks_made H (Second j)) (omega arith))
row-taken H ma mb i j (Both x y) e = rw (e.0, e.1) (taken-first H.half _ ma H.second.now.words.now mb i (i + 1) j (marks_made H (Both i j)) (omega arith))

module _ (H : Halves) where
  pub survey-starts : (i j : ℕ) → i ≡ 0 → j ≡ 0 → (ma mb : List ℕ) → SurveyingIn H i j 0 ma mb
  survey-starts i j p q ma mb = rw (p, q) (surveying-none _ H.half _ _ _ _ H.inputs ma mb)

  pub survey-ends : (i j k : ℕ) (ma mb : List ℕ) → SurveyingIn H i j k ma mb → StepFrom H i j None → SurveyedIn H ma mb k
  survey-ends i j k ma mb X n = surveyed _ H.half _ _ _ _ H.inputs i j k ma mb X n

  -- few rows are counted
  pub survey-small : (i j k : ℕ) (ma mb : List ℕ) → SurveyingIn H i j k ma mb → k ≤ 4096
  survey-small i j k ma mb X = (small _ H.half _ _ _ _ H.inputs i j k X.row X.walked).2

  module _ (i j k : ℕ) (step : Meeting) (S : Meets H i j step) (m : ℕ) (q : m ≡ marks_made H step) (k' : ℕ) (count : k' ≡ k + number_of (ltb 0 m)) (i' j' : ℕ) (c : Comes i j (Some step) i' j') where
    pub survey-goes : (ma mb : List ℕ) → SurveyingIn H i j k ma mb → (ma' mb' : List ℕ) → ma' ≡ place_noted ma (first_met step) k → mb' ≡ place_noted mb (second_met step) k → SurveyingIn H i' j' k' ma' mb'
    survey-goes ma mb X ma' mb' p r =
        rw (c.0, c.1)
        (surveying-on _ H.half _ _ _ _ H.inputs i j k (next_of H i j step) (marked-step H i j step S) k' (count ∙ ap (λ (x : ℕ). k + number_of (ltb 0 x)) q) ma mb X ma' mb'
        (p ∙ first-noted ma i j k step S.next) (r ∙ second-noted mb i j k step S.next))

  module _ (ma mb out₀ : List ℕ) where
    pub write-starts : (i j : ℕ) → i ≡ 0 → j ≡ 0 → WritingIn H ma mb i j 0 out₀ out₀
    write-starts i j p q = rw (p, q) (writing-none _ H.half _ _ _ _ H.inputs ma mb out₀)

    pub write-ends : (i j k : ℕ) (out : List ℕ) → WritingIn H ma mb i j k out₀ out → StepFrom H i j None → WrittenIn H ma mb out₀ out
    write-ends i j k out X n = all-written _ H.half _ _ _ _ H.inputs ma mb i j k out₀ out X n

    -- few rows are written
    pub write-small : (i j k : ℕ) (out : List ℕ) → WritingIn H ma mb i j k out₀ out → k ≤ 4096
    write-small i j k out X = (small _ H.half _ _ _ _ H.inputs i j k X.row X.walked).2

    module _ (i j k : ℕ) (out : List ℕ) (X : WritingIn H ma mb i j k out₀ out) (step : Meeting) (S : Meets H i j step) (e : Cells) (q : e ≡ row_made H ma mb step) (most : row_place H.half H.first.now.header.form (rows_kept_in H) ≤ length out₀) where
      made : e ≡ taken_cells H.half H.first.now.words.now ma H.second.now.words.now mb i (first_after i step) j (marks_made H step)
      made = q ∙ row-taken H ma mb i j step S.next

      marks-are : e.offices ≡ marks_made H step
      marks-are = ap (λ (x : Cells). x.offices) made ∙ taken-marks H.half _ ma H.second.now.words.now mb i (first_after i step) j (marks_made H step)

      -- there is room for a row that has marks
      pub write-room : length out ≡ length out₀ → 0 < e.offices → row_place H.half H.first.now.header.form k + row_words H.half H.first.now.header.form ≤ length out
      write-room n l = omega (arith, place-before H.half H.first.now.header.form k (rows_kept_in H) (room _ H.half _ _ _ _ H.inputs i j k X.row X.walked (next_of H i j step) (marked-step H i j step S) (omega (arith, marks-are))), most)

      goes : (k' : ℕ) → k' ≡ k + number_of (ltb 0 e.offices) → (i' j' : ℕ) → Comes i j (Some step) i' j' → (out' : List ℕ) → out' ≡ stored_at H.half H.first.now.header.form out k e → WritingIn H ma mb i' j' k' out₀ out'
      goes k' count i' j' c out' s =
          rw (c.0, c.1)
          (writing-on _ H.half _ _ _ _ H.inputs i j k (next_of H i j step) (marked-step H i j step S) k' (count ∙ ap (λ (x : ℕ). k + number_of (ltb 0 x)) marks-are) ma mb out₀ out X e out' made s most)

      -- it is stored as the next row
      pub write-stores : 0 < e.offices → (i' j' : ℕ) → Comes i j (Some step) i' j' → (out' : List ℕ) → out' ≡ sets out (row_place H.half H.first.now.header.form k) (stored H.half H.first.now.header.form e) → WritingIn H ma mb i' j' (k + 1) out₀ out'
      write-stores l i' j' c out' s = goes (k + 1) (ap (λ (x : ℕ). k + x) (one-is e.offices l).0) i' j' c out' (s ∙ stored_some H.half H.first.now.header.form out k e l)

      -- one without marks is passed over
      pub write-passes : e.offices ≤ 0 → (i' j' : ℕ) → Comes i j (Some step) i' j' → WritingIn H ma mb i' j' k out₀ out
      write-passes l i' j' c = goes k (omega (arith, (no-marks-is e.offices l).0)) i' j' c out (stored-none H.half H.first.now.header.form out k e l)
