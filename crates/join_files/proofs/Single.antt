-- Any two results that the statement of joining files allows are equal, and so is what they leave in the output; and so with a report.
-- Assumes nothing.
use Prim.Native.Nat.{ℕ}
use mathlib.Core.Path.{◌≡◌, sym, ap, ◌∙◌}
use mathlib.Core.List.{List, ◌++◌}
use lib.ListN.{take, drop}
use Rattle.files.specs.Bytes.{bytes_of}
use Rattle.join.specs.declared.Joined.{Joined}
use Rattle.join.proofs.Single.{joins-one}
use Rattle.join_files.specs.JoinedFiles.{JoinsFiles}
use Rattle.join_files.specs.Lines.{Reports}

pub files-one : (first second out : List ℕ) {x y : Joined} {o o' : List ℕ} → JoinsFiles first second out x o → JoinsFiles first second out y o' → (x ≡ y) × (o ≡ o')
files-one first second out = joins-one bytes_of _ _ _ out

pub reports-one : (report text : List ℕ) {n m : ℕ} {t t' : List ℕ} → Reports report text n t → Reports report text m t' → (n ≡ m) × (t ≡ t')
reports-one report text a b =
    let e = a.told ∙ sym b.told in
    (e, a.holds ∙ ap (λ (k : ℕ). take k report ++ drop k text) e ∙ sym b.holds)
