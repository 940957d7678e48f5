-- A question of any words is one of the sheet that they are.
-- Assumes nothing.
use Prim.Native.Nat.{ℕ}
use mathlib.Core.Path.{◌≡◌, ap, ◌∙◌, subst}
use mathlib.Core.List.{List}
use denote.Ref.{Bor}
use Rattle.sheet.specs.declared.formed.Sheet.{Sheet}
use Rattle.sheet.specs.Rows.{header_of}
use Rattle.question.specs.declared.Question.{Question}
use Rattle.question.specs.declared.office.OfficeSheet.{OfficeSheet}
use Rattle.question.specs.Asked.{bad_office, seat_for}
use Rattle.lists.specs.declared.Search.{Search}
use Rattle.lists.specs.Sought.{asked_fault, sought_fault, sought_is}
use Rattle.lists.proofs.Picking.{asked-fault-own}
use Rattle.std.specs.Prelude.{Option}
use Rattle.sheet.specs.declared.Seat.{Seat}
use Rattle.reach.specs.Finds.{Finds}
use Rattle.sheet.specs.Seats.{seen_from}
use Rattle.meaning.specs.Questions.{PersonsInCategoryAre, PersonsWithGrantAre, FoliosOutOfReachAre, LeastTripleIs, LeastHolderIs, RedundantEdgesAre}
use Rattle.lists.specs.declared.Search.TheVariants.{PersonsInCategory, PersonsWithGrant, FoliosOutOfReach, LeastTriple, LeastHolder, RedundantEdges}

-- ---- the sheet that words are, and the same at an office

module _ (words : Bor (List ℕ)) (sheet : Sheet) (is : sheet.words ≡ words) where
  pub head-of : sheet.header ≡ header_of words.now
  head-of = rw is at sheet.formed.head

  module _ (at : OfficeSheet) (same : at.sheet ≡ sheet) where
    pub words-of : at.sheet.words.now ≡ words.now
    words-of = ap (λ (x : Sheet). x.words.now) same ∙ ap (λ (x : Bor (List ℕ)). x.now) is

    -- what refuses a question of an office that there is
    pub own-is : (search : Search) (q : Question) → bad_office sheet.header q.office ≡ 0 → asked_fault search at.sheet.words.now q ≡ sought_fault search words.now q
    own-is search q e = ap (λ (s : List ℕ). asked_fault search s q) words-of ∙ asked-fault-own search words.now q (rw head-of at e)

-- ---- what is found from the seat asked is what is asked for

module _ (s : List ℕ) (q : Question) (seat : Seat) (is : seat ≡ seat_for q) (list : List ℕ) (found : Option ℕ) where
  -- by the question's own seat
  finds-own : (R : Seat → List ℕ → Type 0) → Finds (R seat) list found → Finds (R (seat_for q)) list found
  finds-own R x = subst (λ (y : Seat). Finds (R y) list found) is x

  pub finds-five : Finds (PersonsInCategoryAre (seen_from s seat) q.category) list found → Finds (sought_is PersonsInCategory s q) list found
  finds-five x = finds-own (λ o. PersonsInCategoryAre (seen_from s o) q.category) x

  pub finds-six : Finds (PersonsWithGrantAre (seen_from s seat) q.deed q.folio) list found → Finds (sought_is PersonsWithGrant s q) list found
  finds-six x = finds-own (λ o. PersonsWithGrantAre (seen_from s o) q.deed q.folio) x

  pub finds-seven : Finds (FoliosOutOfReachAre (seen_from s seat)) list found → Finds (sought_is FoliosOutOfReach s q) list found
  finds-seven x = finds-own (λ o. FoliosOutOfReachAre (seen_from s o)) x

  pub finds-eight : Finds (LeastTripleIs (seen_from s seat)) list found → Finds (sought_is LeastTriple s q) list found
  finds-eight x = finds-own (λ o. LeastTripleIs (seen_from s o)) x

  pub finds-nine : Finds (LeastHolderIs (seen_from s seat) q.deed q.other) list found → Finds (sought_is LeastHolder s q) list found
  finds-nine x = finds-own (λ o. LeastHolderIs (seen_from s o) q.deed q.other) x

  pub finds-rest : Finds (RedundantEdgesAre s seat.office) list found → Finds (sought_is RedundantEdges s q) list found
  finds-rest x = finds-own (λ o. RedundantEdgesAre s o.office) x
