-- Questions 5 and 6: the persons from whose rows the walk leads to a category's or a folio's row are those in the category, or those with a grant path.
-- Assumes nothing.
use Prim.Native.Nat.{ℕ, ◌+◌, ◌<◌}
use native.Mathlib.Omega.{arith}
use mathlib.Core.Path.{◌≡◌, refl, sym, ap, subst, ◌∙◌}
use mathlib.Core.Bool.{true, false, true≢false}
use mathlib.Core.List.{List}
use mathlib.Core.Logic.{⊎_elim}
use lib.ListN.{length, get_or, set}
use lib.Seq.{get_or-set_same, get_or-set_other}
use Rattle.tables.specs.Key.{identity}
use Rattle.sheet.specs.declared.Header.{Header}
use Rattle.sheet.specs.declared.Seat.{Seat}
use Rattle.sheet.specs.Rows.{header_of, node_key_at}
use Rattle.sheet.specs.Accepted.{WellFormed}
use Rattle.sheet.specs.Seats.{seen_from}
use Rattle.sheet.proofs.Naming.{ends-seen}
use Rattle.paths.proofs.Rounds.{same-number-or}
use Rattle.meaning.specs.Paths.{grant, person, category, folio, HasPath}
use Rattle.meaning.specs.Forms.{Rising}
use Rattle.meaning.specs.Questions.{InCategory, PersonsInCategoryAre, PersonsWithGrantAre}
use Rattle.meaning.proofs.Axioms.{a1-a2}
use Rattle.walk.specs.declared.Walk.{Walk}
use Rattle.question.specs.Asked.{stands, known, SoughtIn}
use Rattle.tables.proofs.Counts.{some-row}
use Rattle.question.specs.Checked.{AtSeat}
use Rattle.ask.proofs.Links.{walk_for}
use Rattle.sheet.proofs.Forming.{words_of}
use Rattle.question.proofs.Known.{found-class}
use Rattle.std.specs.Prelude.{Option, Result, Ok, Err}
use Rattle.reach.specs.Finds.{Finds}
use Rattle.reach.specs.Reaching.{Tells, LeadsTo}
use Rattle.lists.specs.Picked.{PersonLeads, PersonsReach, wanted, PickedNumber}
use Rattle.reach.proofs.Collecting.{rising-map, finds-map}
use Rattle.reach.proofs.Leading.{plain_row, category-of, category-leads, folio-of, folio-leads}
use Rattle.reach.proofs.Marking.{some_number, number-some}
use Rattle.reach.proofs.Rows.{SeenRow, seen-row}
use Rattle.sheet.specs.Found.{row_told}
use Rattle.lists.proofs.Picking.{known_by}

-- one more row's number tells
pub tells_more : (P C : ℕ → Type 0) (m : List ℕ) (i v : ℕ) → i < length m → ((j : ℕ) → j < i → C j → Tells (get_or m j 0) (P j)) → (C i → Tells v (P i)) → (j : ℕ) → j < i + 1 → C j → Tells (get_or (set m i v) j 0) (P j)
tells_more P C m i v l h t j b c = ⊎_elim here before (same-number-or j i)
  where
    here : j ≡ i → Tells (get_or (set m i v) j 0) (P j)
    here e = rw (e, get_or-set_same m i v 0 l) (t (subst C e c))

    before : (j ≡ i → ⊥) → Tells (get_or (set m i v) j 0) (P j)
    before n = rw (get_or-set_other m i j v 0 n) (h j (omega arith) c)

module _ (s t : List ℕ) (h : Header) (w : Walk) (to : ℕ) (m : List ℕ) (r : PersonsReach s t h w to m) (office : ℕ) where
  led : (x : ℕ) → PickedNumber s h.nodes office 1 true m x → PersonLeads s t h office w to x
  unfolding wanted
  led x p =
      record {
        row = p.row;
        inside = p.inside;
        class = p.picked.is-class;
        bears = p.picked.bears;
        numbered = p.numbered;
        leads = (r.each p.row p.inside p.picked.is-class).yes (some_number _ p.picked.by);
      }

  picked : (x : ℕ) → PersonLeads s t h office w to x → PickedNumber s h.nodes office 1 true m x
  unfolding wanted
  picked x p =
      record {
        row = p.row;
        inside = p.inside;
        picked = record { is-class = p.class; bears = p.bears; by = number-some _ (λ z. (r.each p.row p.inside p.class).no z p.leads) };
        numbered = p.numbered;
      }

  -- the rows that were picked by the numbers are those that the walk leads from
  pub led-found : (list : List ℕ) (found : Option ℕ) → Finds (Rising (PickedNumber s h.nodes office 1 true m)) list found → Finds (Rising (PersonLeads s t h office w to)) list found
  led-found list found x = finds-map list found (λ ws. rising-map led picked) (λ ws. rising-map picked led) x

-- no known number is 0
pub known_some : (s t : List ℕ) (h : Header) → WellFormed s t h → (office c n : ℕ) → known s false office c n ≡ true → n ≡ 0 → ⊥
unfolding known
known_some s t h f office c n e z =
    let r = some-row (stands s false office c n) (header_of s).nodes e in
    let l = subst (λ (x : Header). r.0 < x.nodes) (sym f.head) r.1 in
    (f.nodes.fit r.0 l).number ((found-class s false office c n r.0 r.2).1 ∙ z)

-- the row that a search found
pub found_in : (s : List ℕ) (h : Header) (office c n : ℕ) (r : Result ℕ ℕ) → h ≡ header_of s → known s false office c n ≡ true → SoughtIn s false office c n h.nodes r → row_told r < h.nodes
found_in s h office c n (Ok i) e k x = x.0
found_in s h office c n (Err i) e k x = absurd (true≢false (sym k ∙ sym (known_by s h office c n (Err i) e x)))

-- a row that stands
pub found-key : (s t : List ℕ) (h : Header) → WellFormed s t h → (office c n i : ℕ) → i < h.nodes → stands s false office c n i ≡ true → (c ≡ 3 → ⊥) → node_key_at s i ≡ identity c n 0
found-key s t h f office c n i l e z =
    let a = found-class s false office c n i e in
    plain_row s t h f i c l a.0 z ∙ ap (λ (y : ℕ). identity c y 0) a.1

module _ (s t : List ℕ) (h : Header) (seat : Seat) (at : AtSeat s t h seat) (d to : ℕ) (inside : to < h.nodes) where
  abbrev f : WellFormed s t h
  f = at.formed

  abbrev w : Walk
  w = walk_for seat grant d

  key : (p : ℕ) (l : PersonLeads s t h seat.office w to p) → node_key_at s l.row ≡ person p
  key p l = plain_row s t h f l.row 1 l.inside l.class (λ z. omega arith) ∙ ap person l.numbered

  -- a person's row from which the walk leads
  leading : (p : ℕ) (r : SeenRow s h seat.office 1 p 0) → LeadsTo s t h w r.row to → PersonLeads s t h seat.office w to p
  leading p r l = record { row = r.row; inside = r.inside; class = cc r.names; bears = r.bears; numbered = cc r.names; leads = l }

  module _ (c : ℕ) (is-category : node_key_at s to ≡ category c) where
    into : (p : ℕ) → PersonLeads s t h seat.office w to p → InCategory (seen_from s seat) c p
    into p l = category-of s t h f seat d l.row to p c l.inside (key p l) inside is-category l.leads

    out : (p : ℕ) → InCategory (seen_from s seat) c p → PersonLeads s t h seat.office w to p
    out p i =
        let r = seen-row s t h f seat.office 1 p 0 (ends-seen s (words_of s t h f) seat.office 1 1 p 0 2 i.directly 0 i.member_of).0 in
        leading p r (category-leads s t h f seat d r.row to p c r.inside r.names inside is-category i)

    pub persons-found : (list : List ℕ) (found : Option ℕ) → Finds (Rising (PersonLeads s t h seat.office w to)) list found → Finds (PersonsInCategoryAre (seen_from s seat) c) list found
    persons-found list found x = finds-map list found (λ ws. rising-map into out) (λ ws. rising-map out into) x

  module _ (n : ℕ) (is-folio : node_key_at s to ≡ folio n) (some : d ≡ 0 → ⊥) where
    holds : (p : ℕ) → PersonLeads s t h seat.office w to p → HasPath (seen_from s seat) grant p d n
    holds p l =
        let r = folio-of s t h f seat grant d l.row to p n (key p l) is-folio l.leads in
        subst (λ (x : ℕ). HasPath (seen_from s seat) grant p x n) (r.1 some) r.2

    held : (p : ℕ) → HasPath (seen_from s seat) grant p d n → PersonLeads s t h seat.office w to p
    held p i =
        let a = (a1-a2 (seen_from s seat) p d n grant).0 i in
        let r = seen-row s t h f seat.office 1 p 0 (ends-seen s (words_of s t h f) seat.office 1 1 p 0 2 a.c 0 a.assigned).0 in
        leading p r (folio-leads s t h f seat grant d r.row to p d n r.inside r.names inside is-folio (λ z. refl) i)

    pub holders-found : (list : List ℕ) (found : Option ℕ) → Finds (Rising (PersonLeads s t h seat.office w to)) list found → Finds (PersonsWithGrantAre (seen_from s seat) d n) list found
    holders-found list found x = finds-map list found (λ ws. rising-map holds held) (λ ws. rising-map held holds) x
