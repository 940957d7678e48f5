-- What the rows that a search found tell: who is unknown, and that an office which does not know one of them is undetermined.
-- Assumes nothing.
use Prim.Native.Nat.{ℕ}
use mathlib.Core.Path.{◌≡◌, refl, subst}
use mathlib.Core.Bool.{Bool, true, false}
use mathlib.Core.List.{List}
use native.Mathlib.Omega.{arith}
use Rattle.std.specs.Prelude.{Ok, Err}
use Rattle.tables.specs.Count.{some_row}
use Rattle.sheet.specs.declared.Header.{Header}
use Rattle.sheet.specs.Refusals.{◌when◌otherwise◌}
use Rattle.sheet.specs.Accepted.{WellFormed, Accepted}
use Rattle.sheet.specs.Named.{seen_at}
use Rattle.sheet.proofs.Forming.{nodes-same}
use Rattle.meaning.specs.Paths.{Side, grant, ban, HasPath}
use Rattle.meaning.specs.Answers.{AnswerIs, Says, answered}
use Rattle.question.specs.declared.Question.{Question}
use Rattle.question.specs.Asked.{stands, known, unknown, SoughtIn, side_of}
use Rattle.tables.proofs.Counts.{seek-known}
use Rattle.ask.specs.Placed.{KnownRow, Placed}
use Rattle.ask.proofs.Deciding.{path-known, placed_by}
use Rattle.sheet.proofs.Refusing.{line-good}
use Rattle.tables.specs.Office.{View}
use borrow.Author.Tests.{not-false}

-- the answer of the two sides
pub two-sides : (g : View) (p d f r : ℕ) (a b : Bool) → Says a (HasPath g (side_of 0) p d f) → Says b (HasPath g (side_of 1) p d f) → r ≡ answered a b → AnswerIs g p d f r
unfolding side_of
two-sides g p d f r a b x y e = record { grants = a; bans = b; granted = x; banned = y; number = e }

-- a search tells who is known
module _ (s t : List ℕ) (h : Header) (f : WellFormed s t h) (any : Bool) (office class number : ℕ) where
  pub row-known : (i : ℕ) → SoughtIn s any office class number h.nodes (Ok i) → KnownRow s any office class number i
  unfolding known
  row-known i x =
      let n = nodes-same s t h f in
      record { known = subst (λ (m : ℕ). some_row (stands s any office class number) m ≡ true) n (seek-known _ h.nodes i x.1 x.0); inside = omega (arith, n, x.0); stands = x.1.found x.0 }

  pub row-missing : (i : ℕ) → SoughtIn s any office class number h.nodes (Err i) → known s any office class number ≡ false
  unfolding known
  row-missing i x = subst (λ (m : ℕ). some_row (stands s any office class number) m ≡ false) (nodes-same s t h f) x.0

-- an office that knows all three finds nobody unknown
known-all : (s : List ℕ) (any : Bool) (office : ℕ) (q : Question) → known s any office 1 q.person ≡ true → known s any office 3 q.deed ≡ true → known s any office 4 q.folio ≡ true
    → unknown s any office q ≡ 0
unfolding unknown ◌when◌otherwise◌
known-all s any office q a b c = rw (a, b, c) refl

-- .. and where it finds nobody unknown, it knows all three
pub all_found : (s : List ℕ) (any : Bool) (office : ℕ) (q : Question) → unknown s any office q ≡ 0 → (known s any office 1 q.person ≡ true) × (known s any office 3 q.deed ≡ true) × (known s any office 4 q.folio ≡ true)
unfolding unknown
all_found s any office q e =
    let a = line-good 21 _ _ tt e in
    let b = line-good 22 _ _ tt a.1 in
    let c = line-good 23 _ _ tt b.1 in
    (not-false _ a.0, not-false _ b.0, not-false _ c.0)

-- who is not known is told in the table's order
module _ (s : List ℕ) (any : Bool) (office : ℕ) (q : Question) where
  pub missing-person : known s any office 1 q.person ≡ false → 21 ≡ unknown s any office q
  unfolding unknown ◌when◌otherwise◌
  missing-person a = rw a refl

  pub missing-deed : known s any office 1 q.person ≡ true → known s any office 3 q.deed ≡ false → 22 ≡ unknown s any office q
  unfolding unknown ◌when◌otherwise◌
  missing-deed a b = rw (a, b) refl

  pub missing-folio : known s any office 1 q.person ≡ true → known s any office 3 q.deed ≡ true → known s any office 4 q.folio ≡ false → 23 ≡ unknown s any office q
  unfolding unknown ◌when◌otherwise◌
  missing-folio a b c = rw (a, b, c) refl

  -- three rows place the question
  pub places-all : Accepted s → (rp rd rf : ℕ) → KnownRow s any office 1 q.person rp → KnownRow s any office 3 q.deed rd → KnownRow s any office 4 q.folio rf → (unknown s any office q ≡ 0) × Placed s q rp rf
  places-all acc rp rd rf x y z =
      (known-all s any office q x.known y.known z.known, placed_by s acc any office q rp rd rf x.inside y.inside z.inside x.stands y.stands z.stands)

-- an office that does not know one of them is undetermined
pub unknown-undetermined : (s : List ℕ) → Accepted s → (office : ℕ) (q : Question) → (unknown s false office q ≡ 0 → ⊥) → AnswerIs (seen_at s office) q.person q.deed q.folio 0
unknown-undetermined s acc office q n = record { grants = false; bans = false; granted = none grant; banned = none ban; number = refl }
  where
    none : (side : Side) → HasPath (seen_at s office) side q.person q.deed q.folio → ⊥
    none side h = let k = path-known s acc office side q.person q.deed q.folio h in n (known-all s false office q k.0 k.1 k.2)
