-- Question 7: the folios to which the grants' walk from all persons does not lead are those to which no person has a grant path by any deed.
-- Assumes nothing.
use Prim.Native.Nat.{ℕ, suc, ◌<◌}
use native.Mathlib.Omega.{arith}
use mathlib.Core.Path.{◌≡◌, refl, ap, subst, ◌∙◌}
use mathlib.Core.Bool.{true, false}
use mathlib.Core.List.{List}
use mathlib.Core.Logic.{⊎_elim}
use lib.ListN.{get_or}
use borrow.Author.Tests.{eqb-true, eq-eqb}
use Rattle.tables.specs.Office.{View}
use Rattle.sheet.specs.declared.Header.{Header}
use Rattle.sheet.specs.declared.Seat.{Seat}
use Rattle.sheet.specs.Rows.{node_at, node_key_at}
use Rattle.sheet.specs.Accepted.{WellFormed}
use Rattle.sheet.specs.Named.{node_row}
use Rattle.sheet.specs.Seats.{seen_from}
use Rattle.sheet.proofs.Naming.{seen-node, ends-seen}
use Rattle.paths.proofs.Distances.{zero_or}
use Rattle.meaning.specs.Paths.{grant, folio, HasPath}
use Rattle.meaning.specs.Forms.{Rising}
use Rattle.meaning.specs.Questions.{FoliosOutOfReachAre}
use Rattle.meaning.proofs.Axioms.{a1-a2}
use Rattle.walk.specs.declared.Walk.{Walk}
use Rattle.question.specs.Checked.{AtSeat}
use Rattle.ask.proofs.Links.{walk_for}
use Rattle.sheet.proofs.Forming.{words_of}
use Rattle.std.specs.Prelude.{Option}
use Rattle.reach.specs.Finds.{Finds}
use Rattle.lists.specs.Picked.{FromPersons, PersonsLead, wanted, PickedNumber}
use Rattle.reach.proofs.Collecting.{rising-map, finds-map}
use Rattle.reach.proofs.Leading.{plain_row, folio-of, folio-leads}
use Rattle.reach.proofs.Rows.{SeenRow, seen-row}

module _ (s t : List ℕ) (h : Header) (seat : Seat) (at : AtSeat s t h seat) (d : List ℕ) (r : PersonsLead s t h (walk_for seat grant 0) d) where
  abbrev f : WellFormed s t h
  f = at.formed

  abbrev g : View
  g = seen_from s seat

  abbrev w : Walk
  w = walk_for seat grant 0

  -- a path leads to the folio's row from the person's
  led : (i n p y : ℕ) → i < h.nodes → node_key_at s i ≡ folio n → HasPath g grant p y n → FromPersons s t h w i
  led i n p y l e q =
      let a = (a1-a2 g p y n grant).0 q in
      let m = seen-row s t h f seat.office 1 p 0 (ends-seen s (words_of s t h f) seat.office 1 1 p 0 2 a.c 0 a.assigned).0 in
      record {
        row = m.row;
        inside = m.inside;
        class = cc m.names;
        leads = folio-leads s t h f seat grant 0 m.row i p y n m.inside m.names l e (λ z. absurd (z refl)) q;
      }

  -- and what leads to the folio's row is a path
  leads-path : (i n : ℕ) → node_key_at s i ≡ folio n → FromPersons s t h w i → (p y : ℕ) × HasPath g grant p y n
  leads-path i n e m =
      let q = folio-of s t h f seat grant 0 m.row i (node_at s m.row).number n (plain_row s t h f m.row 1 m.inside m.class (λ z. omega arith)) e m.leads in
      ((node_at s m.row).number, q.0, q.2)

  abbrev Unreached : ℕ → Type 0
  Unreached n = (g.node (folio n) ≡ true) × ((p y : ℕ) → HasPath g grant p y n → ⊥)

  into : (n : ℕ) → PickedNumber s h.nodes seat.office 4 false d n → Unreached n
  unfolding wanted node_row
  into n x =
      let e = plain_row s t h f x.row 4 x.inside x.picked.is-class (λ z. omega arith) ∙ ap folio x.numbered in
      let l = subst (λ (y : Header). x.row < y.nodes) f.head x.inside in (
        seen-node s (words_of s t h f) seat.office (folio n) (record { row = x.row; inside = l; names = e; bears = x.picked.bears }),
        λ p y q. (r.each x.row x.inside).no (eqb-true _ 0 x.picked.by) (led x.row n p y x.inside e q),
      )

  out : (n : ℕ) → Unreached n → PickedNumber s h.nodes seat.office 4 false d n
  unfolding wanted
  out n u =
      let m = seen-row s t h f seat.office 4 n 0 u.0 in
      record { row = m.row; inside = m.inside; picked = record { is-class = cc m.names; bears = m.bears; by = eq-eqb _ 0 (none m) }; numbered = cc m.names }
    where
      none : (m : SeenRow s h seat.office 4 n 0) → get_or d m.row 0 ≡ 0
      none m = ⊎_elim (λ z. z) some (zero_or (get_or d m.row 0))
        where
          some : (v : ℕ) × (get_or d m.row 0 ≡ suc v) → get_or d m.row 0 ≡ 0
          some v =
              let q = leads-path m.row n m.names ((r.each m.row m.inside).yes (λ z. let e = v.1 in omega arith)) in
              absurd (u.1 q.0 q.1 q.2)

  pub unreached-found : (list : List ℕ) (found : Option ℕ) → Finds (Rising (PickedNumber s h.nodes seat.office 4 false d)) list found → Finds (FoliosOutOfReachAre g) list found
  unreached-found list found x = finds-map list found (λ ws. rising-map into out) (λ ws. rising-map out into) x
