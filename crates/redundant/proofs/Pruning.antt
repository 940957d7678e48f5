-- A row that counts is redundant exactly if the numbers of its walk past it reach its to end: the grants' walk, or for a ban row the bans'.
-- Assumes nothing.
use Rattle.std.specs.Prelude.{Some}
use Prim.Native.Nat.{ℕ, ◌<◌, ◌≤◌}
use native.Mathlib.Omega.{arith}
use mathlib.Core.Path.{◌≡◌, refl, sym, ap, subst, ◌∙◌}
use mathlib.Core.Bool.{Bool, true, false, not, ◌&&◌, true≢false}
use mathlib.Core.List.{List, ◌∷◌}
use mathlib.Core.Logic.{◌↔◌, inl, inr}
use lib.Dec.{eqb}
use lib.ListN.{length, get_or}
use borrow.Author.Tests.{eqb-true, eq-eqb}
use Rattle.tables.specs.Count.{some_row}
use Rattle.tables.specs.Key.{Key, relation}
use Rattle.tables.specs.Office.{View}
use Rattle.tables.proofs.Counts.{some_at, some-row}
use Rattle.sheet.specs.Kinds.{member_kind, grant_kind, ban_kind}
use Rattle.sheet.specs.declared.Header.{Header}
use Rattle.sheet.specs.declared.Edge.{Edge}
use Rattle.sheet.specs.declared.Seat.{Seat}
use Rattle.sheet.specs.Limits.{max_nodes}
use Rattle.sheet.specs.Rows.{header_of, node_at, edge_at, edge_of, edge_table, node_key_at, ends_fit}
use Rattle.sheet.specs.Accepted.{WellFormed, Accepted}
use Rattle.sheet.specs.Named.{edge_row}
use Rattle.sheet.specs.Seats.{counts_at, seen_from}
use Rattle.sheet.proofs.Forming.{words_of}
use Rattle.sheet.proofs.Naming.{edge-seen, seen-edge}
use Rattle.sheet.proofs.Reading.{row_under}
use Rattle.paths.specs.Reached.{Layers}
use Rattle.paths.proofs.Tests.{and_left, and_right, both}
use Rattle.meaning.specs.Paths.{Side, grant, ban, right_kind, category, deed}
use Rattle.meaning.specs.Answers.{Says}
use Rattle.meaning.proofs.Sparing.{says-as}
use Rattle.meaning.specs.Questions.{HasBanRow, AlsoMember, Redundant, member-row, containment-row, right-row, RedundantRow, RedundantEdgesAre}
use Rattle.walk.specs.declared.Walk.{Walk}
use Rattle.walk.specs.Arcs.{takes, Steps, leaving_out}
use Rattle.ask.proofs.Links.{kind-of, ends-are}
use Rattle.question.specs.declared.office.OfficeSheet.{OfficeSheet}
use Rattle.walk.specs.declared.walker.Tour.{Tour}
use Rattle.reach.specs.Reaching.{Tells, LeadsTo}
use Rattle.reach.specs.Toured.{Prepared}
use Rattle.reach.proofs.Touring.{toured}
use Rattle.reach.proofs.Collecting.{Collected, collected-all}
use Rattle.reach.proofs.Marking.{reached-from}
use Rattle.redundant.specs.Pruned.{step_of, LeadsPast, LedPast, ban_at}
use Rattle.redundant.proofs.Taking.{Straight, grants-straight, bans-straight}
use Rattle.redundant.proofs.Past.{PastBy, also-member, also-contained, also-right, past-found, found-past}

-- ---- redundant, by what the walks find

-- a ban by the bans' walk
ban-found : (g : View) (k rest : Key) → k ≡ ban_kind ∷ rest → Redundant g k ↔ PastBy g ban k
ban-found g k rest e = (out, into)
  where
    out : Redundant g k → PastBy g ban k
    out (member-row p a q up down) = absurd (let i : ◌≡◌ {A = ℕ} 1 4 = cc in omega arith)
    out (containment-row a b cs q l w) = absurd (let i : ◌≡◌ {A = ℕ} 2 4 = cc in omega arith)
    out (right-row grant a c d v q n b m) = absurd (let i : ◌≡◌ {A = ℕ} 3 4 = cc in omega arith)
    out (right-row ban a c d v q n b m) = also-right a c d v q n b m

    into : PastBy g ban k → Redundant g k
    into (also-member p a q m) = absurd (let i : ◌≡◌ {A = ℕ} 1 4 = cc in omega arith)
    into (also-contained a b cs q l w) = absurd (let i : ◌≡◌ {A = ℕ} 2 4 = cc in omega arith)
    into (also-right a c d v q n b m) = right-row ban a c d v q n b m

-- every other by the grants', and a membership by both where there is a ban row
other-found : (g : View) (k : Key) (kind : ℕ) (rest : Key) → k ≡ kind ∷ rest → (kind ≡ ban_kind → ⊥) → Redundant g k ↔ (PastBy g grant k × (kind ≡ member_kind → HasBanRow g → PastBy g ban k))
other-found g k kind rest e n = (out, λ x. into x.0 x.1)
  where
    out : Redundant g k → PastBy g grant k × (kind ≡ member_kind → HasBanRow g → PastBy g ban k)
    out (member-row p a q up down) = (also-member p a q up, λ z b. also-member p a q (down b))
    out (containment-row a b cs q l w) = (also-contained a b cs q l w, λ z r. absurd (let i : ◌≡◌ {A = ℕ} 1 2 = cc in omega arith))
    out (right-row grant a c d v q m b r) = (also-right a c d v q m b r, λ z r. absurd (let i : ◌≡◌ {A = ℕ} 1 3 = cc in omega arith))
    out (right-row ban a c d v q m b r) = absurd (n (cc))

    into : PastBy g grant k → (kind ≡ member_kind → HasBanRow g → PastBy g ban k) → Redundant g k
    into (also-contained a b cs q l w) f = containment-row a b cs q l w
    into (also-right a c d v q m b r) f = right-row grant a c d v q m b r
    into (also-member p a q up) f = member-row p a q up (λ b. down (f (cc) b))
      where
        down : PastBy g ban k → AlsoMember g ban p a
        down (also-member p' a' q' m) =
            let x : p' ≡ p = cc in
            let y : a' ≡ a = cc in
            subst (λ (z : ℕ). AlsoMember g ban z a) x (subst (λ (z : ℕ). AlsoMember g ban p' z) y m)
        down (also-contained a b cs q' l w) = absurd (let i : ◌≡◌ {A = ℕ} 1 2 = cc in omega arith)
        down (also-right a c d v q' m b r) = absurd (let i : ◌≡◌ {A = ℕ} 1 4 = cc in omega arith)

-- ---- the same of row j of a sheet, by its edge table and header as the functions have them

module _ (s : List ℕ) (seat : Seat) (j : ℕ) where
  abbrev g : View
  g = seen_from s seat

  abbrev BanJudged : List ℕ → Header → Type 0
  BanJudged t h = j < h.edges → counts_at seat (edge_at h t j) ≡ true → (edge_at h t j).kind ≡ ban_kind → LeadsPast s t h seat ban_kind (edge_at h t j) ↔ RedundantRow s seat.office j

  abbrev OtherJudged : List ℕ → Header → Type 0
  OtherJudged t h = j < h.edges → counts_at seat (edge_at h t j) ≡ true → ((edge_at h t j).kind ≡ ban_kind → ⊥)
      → (LeadsPast s t h seat grant_kind (edge_at h t j) × ((edge_at h t j).kind ≡ member_kind → HasBanRow g → LeadsPast s t h seat ban_kind (edge_at h t j))) ↔ RedundantRow s seat.office j

  module _ (acc : Accepted s) (l : j < (header_of s).edges) (m : counts_at seat (edge_of s j) ≡ true) where
    abbrev edge : Edge
    edge = edge_of s j

    abbrev key : Key
    key = relation edge.kind (node_key_at s edge.from) (node_key_at s edge.to)

    walk-found : (side : Side) → Straight side edge.kind → LeadsPast s (edge_table s) (header_of s) seat (right_kind side) edge ↔ PastBy g side key
    unfolding takes
    walk-found side T = (past-found s acc seat side j l (both m T.0) T.1, found-past s acc seat side j l (both m T.0) T.1)

    row-found : Redundant g key ↔ RedundantRow s seat.office j
    unfolding edge_row
    row-found = (λ r. record { inside = l; bears = m; redundant = r }, λ r. r.redundant)

    own-ban : edge.kind ≡ ban_kind → LeadsPast s (edge_table s) (header_of s) seat ban_kind edge ↔ RedundantRow s seat.office j
    own-ban e =
        let W = walk-found ban (bans-straight edge.kind (inl e)) in
        let F = ban-found g key _ (ap (λ (k : ℕ). relation k (node_key_at s edge.from) (node_key_at s edge.to)) e) in
        (λ x. row-found.0 (F.1 (W.0 x)), λ r. W.1 (F.0 (row-found.1 r)))

    own-other : (edge.kind ≡ ban_kind → ⊥) → (LeadsPast s (edge_table s) (header_of s) seat grant_kind edge × (edge.kind ≡ member_kind → HasBanRow g → LeadsPast s (edge_table s) (header_of s) seat ban_kind edge)) ↔ RedundantRow s seat.office j
    own-other n =
        let W = walk-found grant (grants-straight edge.kind (kind-of edge.kind (acc.edges.shaped j l).kind-low (acc.edges.shaped j l).kind-high) n) in
        let B : edge.kind ≡ member_kind → LeadsPast s (edge_table s) (header_of s) seat ban_kind edge ↔ PastBy g ban key = λ e. walk-found ban (bans-straight edge.kind (inr e)) in
        let F = other-found g key edge.kind _ refl n in
        (λ x. row-found.0 (F.1 (W.0 x.0, λ e b. (B e).0 (x.1 e b))), λ r. let y = F.0 (row-found.1 r) in (W.1 y.0, λ e b. (B e).1 (y.1 e b)))

  pub ban-judged : (t : List ℕ) (h : Header) → WellFormed s t h → BanJudged t h
  ban-judged t h f = subst (λ (x : List ℕ). BanJudged x h) (sym f.table) (subst (λ (x : Header). BanJudged (edge_table s) x) (sym f.head) (λ l m. own-ban (words_of s t h f) l m))

  pub other-judged : (t : List ℕ) (h : Header) → WellFormed s t h → OtherJudged t h
  other-judged t h f = subst (λ (x : List ℕ). OtherJudged x h) (sym f.table) (subst (λ (x : Header). OtherJudged (edge_table s) x) (sym f.head) (λ l m. own-other (words_of s t h f) l m))

-- ---- the same of a row that was read, as the function goes

module _ (s t : List ℕ) (h : Header) (f : WellFormed s t h) (seat : Seat) (j : ℕ) (e : Edge) (q : e ≡ edge_at h t j) (l : j < h.edges) (m : counts_at seat e ≡ true) where
  read-ban : e.kind ≡ ban_kind → LeadsPast s t h seat ban_kind e ↔ RedundantRow s seat.office j
  read-ban = subst (λ (x : Edge). counts_at seat x ≡ true → x.kind ≡ ban_kind → LeadsPast s t h seat ban_kind x ↔ RedundantRow s seat.office j) (sym q) (ban-judged s seat j t h f l) m

  read-other : (e.kind ≡ ban_kind → ⊥) → (LeadsPast s t h seat grant_kind e × (e.kind ≡ member_kind → HasBanRow (seen_from s seat) → LeadsPast s t h seat ban_kind e)) ↔ RedundantRow s seat.office j
  read-other =
      subst (λ (x : Edge). counts_at seat x ≡ true → (x.kind ≡ ban_kind → ⊥) → (LeadsPast s t h seat grant_kind x × (x.kind ≡ member_kind → HasBanRow (seen_from s seat) → LeadsPast s t h seat ban_kind x)) ↔ RedundantRow s seat.office j) (sym q)
      (other-judged s seat j t h f l) m

  -- a ban is redundant if the bans' walk leads past it
  pub ban-says : e.kind ≡ ban_kind → (b : Bool) → Says b (LeadsPast s t h seat ban_kind e) → Says b (RedundantRow s seat.office j)
  ban-says k b x = says-as b (read-ban k) x

  -- a membership of an office with a ban row if both do
  pub member-says : e.kind ≡ member_kind → HasBanRow (seen_from s seat) → (b : Bool) → Says b (LeadsPast s t h seat grant_kind e × LeadsPast s t h seat ban_kind e) → Says b (RedundantRow s seat.office j)
  member-says k r b x =
      let R = read-other (λ z. omega (arith, k)) in
      says-as b (λ y. R.0 (y.0, λ z w. y.1), λ y. ((R.1 y).0, (R.1 y).1 k r)) x

  -- and every other row if the grants' does
  pub other-says : (e.kind ≡ ban_kind → ⊥) → (e.kind ≡ member_kind → HasBanRow (seen_from s seat) → ⊥) → (b : Bool) → Says b (LeadsPast s t h seat grant_kind e) → Says b (RedundantRow s seat.office j)
  other-says n none b x = says-as b (λ y. (read-other n).0 (y, λ k r. absurd (none k r)), λ y. ((read-other n).1 y).0) x

-- a row that does not count is none of the office's
pub unmarked : (s t : List ℕ) (h : Header) → WellFormed s t h → (seat : Seat) (j : ℕ) (e : Edge) → e ≡ edge_at h t j → counts_at seat e ≡ false → RedundantRow s seat.office j → ⊥
unfolding edge_row
unmarked s t h f seat j e q n r = let own = q ∙ row_under s t h f j in true≢false (sym r.bears ∙ rw (own, f.table) at n)

-- ---- a walk's number tells whether other steps lead past a row

pub past-told : (s t : List ℕ) (h : Header) (w past : Walk) (e : Edge) (d : List ℕ) → past ≡ leaving_out w (Some (step_of e)) → (length d ≡ max_nodes) × Layers (Steps s t past h.edges) (λ x. x ≡ e.from) d → e.to < h.nodes
    → Says (not (eqb (get_or d e.to 0) 0)) (LeadsTo s t h (leaving_out w (Some (step_of e))) e.from e.to)
past-told s t h w past e d q y l = subst (λ (x : Walk). Says (not (eqb (get_or d e.to 0) 0)) (LeadsTo s t h x e.from e.to)) q (go (eqb (get_or d e.to 0) 0) refl)
  where
    T : Tells (get_or d e.to 0) (LeadsTo s t h past e.from e.to)
    T = (reached-from s t h past e.from d y.0 y.1).each e.to l

    go : (b : Bool) → eqb (get_or d e.to 0) 0 ≡ b → Says (not b) (LeadsTo s t h past e.from e.to)
    go true z = T.no (eqb-true _ 0 z)
    go false z = T.yes (λ n. true≢false (sym (eq-eqb _ 0 n) ∙ z))

-- and so of a right's walk over the office's sheet
pub past-at : (o : OfficeSheet) (right : ℕ) (t : Tour) → Prepared o right t → (e : Edge) (b : Bool) → Says b (LedPast t.walker e) → Says b (LeadsPast o.sheet.words.now o.sheet.edges.now o.sheet.header o.seat right e)
past-at o right t p e b x = toured o right t p (λ s w. Says b (LeadsTo s.words.now s.edges.now s.header (leaving_out w (Some (step_of e))) e.from e.to)) x

pub both-past-at : (o : OfficeSheet) (u : Tour) → Prepared o grant_kind u → (v : Tour) → Prepared o ban_kind v → (e : Edge) (b : Bool) → Says b (LedPast u.walker e × LedPast v.walker e)
    → Says b (LeadsPast o.sheet.words.now o.sheet.edges.now o.sheet.header o.seat grant_kind e × LeadsPast o.sheet.words.now o.sheet.edges.now o.sheet.header o.seat ban_kind e)
both-past-at o u p v q e b x =
    toured o ban_kind v q (λ s w. Says b (LeadsPast o.sheet.words.now o.sheet.edges.now o.sheet.header o.seat grant_kind e × LeadsTo s.words.now s.edges.now s.header (leaving_out w (Some (step_of e))) e.from e.to))
    (toured o grant_kind u p (λ s w. Says b (LeadsTo s.words.now s.edges.now s.header (leaving_out w (Some (step_of e))) e.from e.to × LedPast v.walker e)) x)

-- ---- an office has a ban row exactly if one of the rows that count is a ban

-- the test of a row, as the function makes it
pub ban-tested : (t : List ℕ) (h : Header) (seat : Seat) (j : ℕ) (e : Edge) (b : Bool) → e ≡ edge_at h t j → b ≡ counts_at seat e → ban_at t h seat j ≡ (b && eqb e.kind ban_kind)
ban-tested t h seat j e b q c = rw (c, q)

module _ (s : List ℕ) (seat : Seat) where
  abbrev BansTold : List ℕ → Header → Type 0
  BansTold t h = Says (some_row (ban_at t h seat) h.edges) (HasBanRow (seen_from s seat))

  own-bans : Accepted s → BansTold (edge_table s) (header_of s)
  unfolding edge_row
  own-bans acc = go (some_row (ban_at (edge_table s) (header_of s) seat) (header_of s).edges) refl
    where
      ban-row : (j : ℕ) → j < (header_of s).edges → counts_at seat (edge_of s j) ≡ true → (edge_of s j).kind ≡ ban_kind → HasBanRow (seen_from s seat)
      ban-row j l m e =
          let f = acc.edges.fit j l in
          let p = acc.edges.shaped j l in
          let ends = ends-are ban_kind (node_at s (edge_of s j).from).class (node_at s (edge_of s j).to).class 2 3 (subst (λ (k : ℕ). ends_fit k (node_at s (edge_of s j).from).class (node_at s (edge_of s j).to).class ≡ true) e f.ends) refl in
          let plain = (acc.nodes.fit (edge_of s j).from p.from).variant (λ q. omega (arith, ends.0)) in
          let from : node_key_at s (edge_of s j).from ≡ category (node_at s (edge_of s j).from).number = cc (ends.0, plain) in
          let to : node_key_at s (edge_of s j).to ≡ deed (node_at s (edge_of s j).to).number (node_at s (edge_of s j).to).variant = cc ends.1 in
          record {
            c = (node_at s (edge_of s j).from).number;
            d = (node_at s (edge_of s j).to).number;
            variant = (node_at s (edge_of s j).to).variant;
            bans = seen-edge s acc seat.office _ (record { row = j; inside = l; names = λ i. relation (e i) (from i) (to i); bears = m });
          }

      go : (b : Bool) → some_row (ban_at (edge_table s) (header_of s) seat) (header_of s).edges ≡ b → Says b (HasBanRow (seen_from s seat))
      go true e =
          let r = some-row (ban_at (edge_table s) (header_of s) seat) (header_of s).edges e in
          ban-row r.0 r.1 (and_left (counts_at seat (edge_of s r.0)) _ r.2) (eqb-true _ ban_kind (and_right (counts_at seat (edge_of s r.0)) _ r.2))
      go false e = λ b.
          let r = edge-seen s acc seat.office (relation ban_kind (category b.c) (deed b.d b.variant)) b.bans in
          let kind : (edge_of s r.row).kind ≡ ban_kind = cc r.names in
          true≢false (sym (some_at (ban_at (edge_table s) (header_of s) seat) (header_of s).edges r.row r.inside (both r.bears (eq-eqb _ ban_kind kind))) ∙ e)

  told-bans : (t : List ℕ) (h : Header) → WellFormed s t h → BansTold t h
  told-bans t h f = subst (λ (x : List ℕ). BansTold x h) (sym f.table) (subst (λ (x : Header). BansTold (edge_table s) x) (sym f.head) (own-bans (words_of s t h f)))

  pub bans-say : (t : List ℕ) (h : Header) → WellFormed s t h → (b : Bool) → b ≡ some_row (ban_at t h seat) h.edges → Says b (HasBanRow (seen_from s seat))
  bans-say t h f b q = subst (λ (x : Bool). Says x (HasBanRow (seen_from s seat))) (sym q) (told-bans t h f)

-- both, one after the other
pub first-fails : (P Q : Type 0) (b : Bool) → Says b P → b ≡ false → Says b (P × Q)
first-fails P Q true x z = absurd (true≢false z)
first-fails P Q false x z = λ y. x y.0

pub then-second : (P Q : Type 0) (a b : Bool) → Says a P → a ≡ true → Says b Q → Says b (P × Q)
then-second P Q true true x z y = (x, y)
then-second P Q true false x z y = λ w. y w.1
then-second P Q false b x z y = absurd (true≢false (sym z))

-- no membership needs the bans' walk where the test that asks for it fails
pub not-asked : (b : Bool) (kind : ℕ) {P : Type 0} → Says b P → (b && eqb kind member_kind) ≡ false → kind ≡ member_kind → P → ⊥
not-asked true kind x z k r = true≢false (sym (eq-eqb kind member_kind k) ∙ z)
not-asked false kind x z k r = x r

-- the ends of a row are rows
pub ends-inside : (s t : List ℕ) (h : Header) → WellFormed s t h → (j : ℕ) (e : Edge) → e ≡ edge_at h t j → j < h.edges → (e.from < h.nodes) × (e.to < h.nodes)
ends-inside s t h f j e q l = subst (λ (x : Edge). (x.from < h.nodes) × (x.to < h.nodes)) (sym q) ((f.edges.shaped j l).from, (f.edges.shaped j l).to)

-- the rows collected are all that there are
pub pruned-all : (s t : List ℕ) (h : Header) → WellFormed s t h → (office j : ℕ) (out : List ℕ) → h.edges ≤ j → Collected (RedundantRow s office) (λ i. i) j out → RedundantEdgesAre s office out
pruned-all s t h f office j out l c =
    collected-all _ _ j out (RedundantRow s office) c (λ x r. subst (RedundantRow s office) r.is r.counts)
    (λ x r. record { row = x; inside = let e = ap (λ (y : Header). y.edges) f.head in let i = r.inside in omega arith; counts = r; is = refl })
