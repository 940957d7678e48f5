-- What a search tells of a sheet that passed the check is what is promised of any words; and the promise has one answer.
-- Assumes nothing.
use Prim.Native.Nat.{ℕ, ◌<◌}
use mathlib.Core.Path.{◌≡◌, refl, sym, ap, ap₂, subst, ◌∙◌}
use mathlib.Core.List.{List}
use native.Mathlib.Omega.{arith}
use Rattle.std.specs.Prelude.{Result, is_ok}
use Rattle.tables.specs.Count.{number_of}
use Rattle.tables.specs.Key.{Key}
use Rattle.sheet.specs.declared.Half.{Half}
use Rattle.sheet.specs.declared.Header.{Header}
use Rattle.sheet.specs.declared.Refusal.{Refusal}
use Rattle.sheet.specs.Accepted.{WellFormed}
use Rattle.sheet.specs.Found.{FoundAt, row_told}
use Rattle.sheet.specs.Rows.{header_of, count_in, row_key_at}
use Rattle.sheet.specs.Refusals.{none}
use Rattle.sheet.specs.Verdict.{verdict}
use Rattle.sheet.proofs.Accepting.{accepted}
use Rattle.sheet.proofs.Places.{half-rises, formed-few, place-one}
use Rattle.sheet.proofs.Reading.{half-formed}
use Rattle.question.specs.declared.Answer.{Answer}
use Rattle.question.specs.Replies.{tells, refused, answered}
use Rattle.find.specs.Promises.{TellsPlace}

module _ (half : Half) (s : List ℕ) (k : Key) where
  -- d are the words that were accepted
  pub place-told : (d t : List ℕ) (h : Header) (r : Result ℕ ℕ) → verdict 1 s ≡ none → d ≡ s → WellFormed d t h → FoundAt (row_key_at half d) (count_in half h) k r → TellsPlace half s k (tells (number_of (is_ok r)) (row_told r))
  place-told d t h r v o w f =
      let g = subst (λ (x : Header). FoundAt (row_key_at half d) (count_in half x) k r) w.head f in
      let i = subst (λ (x : List ℕ). FoundAt (row_key_at half x) (count_in half (header_of x)) k r) o g in
      answered (number_of (is_ok r)) (row_told r) (ap (λ (x : Refusal). x.number) v) (ap number_of i.told, i.place)

  -- a row of a half is a word
  pub row_fits : (d t : List ℕ) (h : Header) (r : Result ℕ ℕ) → WellFormed d t h → FoundAt (row_key_at half d) (count_in half h) k r → row_told r < 4294967296
  row_fits d t h r w f = omega (arith, f.place.inside, formed-few half d t h w)

  -- any two answers that satisfy the promise are one
  pub tells-one : (x y : Answer) → TellsPlace half s k x → TellsPlace half s k y → x ≡ y
  tells-one x y (refused h) (refused h') = refl
  tells-one x y (refused h) (answered v c z p) = absurd (h z)
  tells-one x y (answered v c z p) (refused h) = absurd (h z)
  tells-one x y (answered v c z p) (answered v' c' z' p') =
      ap₂ tells (p.0 ∙ sym p'.0)
      (place-one (row_key_at half s) (count_in half (header_of s)) (half-rises half s (header_of s) (half-formed s (header_of s) (accepted 1 s z) half)) k c c' p.1 p'.1)
