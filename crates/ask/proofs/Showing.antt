-- What the trace of a path shows: the rows of the best trail, whose words are the witness.
-- Assumes nothing.
use Prim.Native.Nat.{ℕ, zero, suc, ◌+◌, ◌*◌, ◌<◌, ◌≤◌}
use native.Mathlib.Omega.{arith}
use mathlib.Core.Path.{◌≡◌, refl, sym, ap, subst, ◌∙◌}
use mathlib.Core.List.{List, [], ◌∷◌}
use lib.ListN.{length, get_or, set, take, drop, length-append}
use lib.Seq.{take_at, get_or-take, sets, length-take-le}
use Rattle.sheet.specs.declared.Header.{Header}
use Rattle.sheet.specs.declared.Seat.{Seat}
use Rattle.sheet.specs.declared.formed.Sheet.{Sheet}
use Rattle.sheet.specs.Limits.{max_nodes}
use Rattle.sheet.specs.Rows.{node_at, edge_table}
use Rattle.sheet.specs.Accepted.{WellFormed}
use Rattle.sheet.specs.Seats.{seen_from}
use Rattle.paths.specs.Reached.{Layers, Starts}
use Rattle.paths.specs.Best.{Trail, ends, goes, Best, Traced}
use Rattle.paths.proofs.Distances.{started, starts, layers-map}
use Rattle.paths.proofs.Bounds.{number_bound}
use Rattle.paths.proofs.Trails.{sized}
use Rattle.meaning.specs.Paths.{Side, right_kind}
use Rattle.meaning.specs.Questions.{WitnessIs}
use Rattle.walk.specs.declared.Walk.{Walk}
use Rattle.walk.specs.declared.walker.Walker.{Walker}
use Rattle.walk.specs.Arcs.{Steps, walk_of, reversed}
use Rattle.walk.specs.WalkSteps.{steps_of, steps_back}
use Rattle.walk.proofs.Walking.{step-inside}
use Rattle.question.specs.declared.Question.{Question}
use Rattle.question.specs.Asked.{side_of}
use Rattle.ask.specs.declared.stand.Stand.{Stand}
use Rattle.ask.specs.Placed.{Placed}
use Rattle.question.specs.Checked.{seen_at_seat, AtSeat}
use Rattle.ask.specs.PathRows.{spelled_rows, RowsIn, WalkedBack, PathRows}
use Rattle.ask.proofs.Links.{walk_for}
use Rattle.ask.proofs.Shortest.{witness, spelled-long}
use Rattle.sheet.proofs.Forming.{words_of}
use Rattle.ask.proofs.Deciding.{walked-back, back-layers, path-reached}

-- the two words that stand next
pub nodes-next : (s rows : List ℕ) (i : ℕ) → i < length rows → take 2 (drop (2 * i) (spelled_rows s rows)) ≡ (node_at s (get_or rows i 0)).number ∷ (node_at s (get_or rows i 0)).variant ∷ []
unfolding spelled_rows
nodes-next s [] i h = absurd (omega (arith, h))
nodes-next s (r ∷ rows) zero h = refl
nodes-next s (r ∷ rows) (suc i) h = let e : 2 * suc i ≡ suc (suc (2 * i)) = omega arith in rw e (nodes-next s rows i (omega (arith, h)))

-- the words of the first n rows
pub first-long : (s rows : List ℕ) (n : ℕ) → n ≤ length rows → length (spelled_rows s (take n rows)) ≡ 2 * n
first-long s rows n h = spelled-long s (take n rows) ∙ ap (λ (x : ℕ). 2 * x) (length-take-le n rows h)

pub first_next : (s rows : List ℕ) (n i : ℕ) → n ≤ length rows → i < n
    → take 2 (drop (2 * i) (spelled_rows s (take n rows))) ≡ (node_at s (get_or rows i 0)).number ∷ (node_at s (get_or rows i 0)).variant ∷ []
first_next s rows n i h l =
    let m = length-take-le n rows h in
    let e = get_or-take n rows i 0 l in
    nodes-next s (take n rows) i (omega arith) ∙ ap (λ (x : ℕ). (node_at s x).number ∷ (node_at s x).variant ∷ []) e

-- two stores, one after the other, are a run
pub two-stores : (l : List ℕ) (at a b : ℕ) → set (set l at a) (at + 1) b ≡ sets l at (a ∷ b ∷ [])
two-stores l at a b = let e : at + 1 ≡ suc at = omega arith in rw e refl

trail-map : {R : ℕ → ℕ → Type 0} {T T' : ℕ → Type 0} → ((a : ℕ) → T a → T' a) → {a : ℕ} {l : List ℕ} → Trail R T a l → Trail R T' a l
trail-map f (ends t) = ends (f _ t)
trail-map f (goes st w) = goes st (trail-map f w)

best-map : {R : ℕ → ℕ → Type 0} {T T' : ℕ → Type 0} → ((a : ℕ) → T a → T' a) → ((a : ℕ) → T' a → T a) → {a : ℕ} {l : List ℕ} → Best R T a l → Best R T' a l
best-map f f' b =
    record {
      leads = trail-map f b.leads;
      short = λ l' w. b.short l' (trail-map f' w);
      first = λ l' w e. b.first l' (trail-map f' w) e;
    }

-- a trail stays among the rows that there are
trail-inside : (s t : List ℕ) (h : Header) (w : Walk) (T : ℕ → Type 0) → WellFormed s t h → {a : ℕ} {l : List ℕ} → Trail (Steps s t w h.edges) T a l → a < h.nodes → RowsIn h.nodes l (length l)
trail-inside s t h w T f (ends x) q zero e = q
trail-inside s t h w T f (ends x) q (suc i) e = absurd (omega (arith, e))
trail-inside s t h w T f (goes st r) q zero e = q
trail-inside s t h w T f (goes st r) q (suc i) e = trail-inside s t h w T f r (step-inside s t h w f _ _ st).1 i (omega (arith, e))

module _ (s t : List ℕ) (h : Header) (f : WellFormed s t h) (seat : Seat) (side : Side) (q : Question) (rp rf : ℕ) (pl : Placed s q rp rf) (dist : List ℕ)
    (y : Layers (Steps s t (reversed (walk_for seat side q.deed)) h.edges) (λ x. x ≡ rf) dist) where
  -- the walk back can be traced on from the numbers alone
  pub traceable : Layers (Steps s t (reversed (walk_for seat side q.deed)) h.edges) (Starts dist) dist
  traceable = layers-map (λ a b x. x) (λ a b x. x) (started y) (starts y) y

  pub record Shown (rows : List ℕ) (r : ℕ) : Type 0 where
    pub size : r ≡ get_or dist rp 0
    pub inside : RowsIn h.nodes rows r
    pub is : WitnessIs (seen_from s seat) side q.person q.deed q.folio (spelled_rows s (take r rows))

  pub shown : (rows₀ rows : List ℕ) (r : ℕ) → Traced (Steps s t (walk_for seat side q.deed) h.edges) (Starts dist) rp rows₀ rows r → Shown rows r
  shown rows₀ rows r tr =
      let acc = words_of s t h f in
      let own = subst (λ (x : Header). Best (Steps s (edge_table s) (walk_for seat side q.deed) x.edges) (Starts dist) rp tr.trail) f.head
      (subst (λ (x : List ℕ). Best (Steps s x (walk_for seat side q.deed) h.edges) (Starts dist) rp tr.trail) f.table tr.best) in
      let best = best-map (starts y) (started y) own in
      let front : take r rows ≡ tr.trail = ap (take r) tr.wrote ∙ take_at tr.trail _ r tr.size in
      record {
        size = sym tr.size ∙ sized _ _ dist (back-layers s t h f seat side q rp rf pl dist y) best;
        inside = λ i l. let e = get_or-take r rows i 0 l in
            subst (λ (x : ℕ). x < h.nodes) (ap (λ (x : List ℕ). get_or x i 0) (sym front) ∙ e)
            (trail-inside s t h (walk_for seat side q.deed) (Starts dist) f tr.best.leads (subst (λ (x : Header). rp < x.nodes) (sym f.head) pl.person-in) i (let z = tr.size in omega arith));
        is = subst (λ (x : List ℕ). WitnessIs (seen_from s seat) side q.person q.deed q.folio (spelled_rows s x)) (sym front)
            (witness s acc seat side q.deed pl.deed-some rf q.folio pl.folio-in pl.folio-is rp q.person pl.person-in pl.person-is tr.trail best);
      }

-- ---- numbers measured from a seat

module _ (s t : List ℕ) (h : Header) (seat : Seat) (at : AtSeat s t h seat) (q : Question) (rp rf : ℕ) (pl : Placed s q rp rf) (d : List ℕ) (me : WalkedBack s t h seat q rf d)
    (w : Walk) (is : w ≡ walk_of seat (right_kind (side_of q.kind)) q.deed) where
  pub trace-layers : Layers (Steps s t (reversed w) h.edges) (Starts d) d
  trace-layers = subst (λ (x : Walk). Layers (Steps s t (reversed x) h.edges) (Starts d) d) (sym is) (traceable s t h at.formed seat (side_of q.kind) q rp rf pl d me.layers)

  pub trace-from : rp < h.nodes
  trace-from = subst (λ (x : Header). rp < x.nodes) (sym at.formed.head) pl.person-in

  pub trace-room : get_or d rp 0 ≤ max_nodes
  trace-room = subst (λ (x : ℕ). get_or d rp 0 ≤ x) me.long (number_bound _ _ d me.layers rp)

-- ---- as the code has it: numbers measured from where a question stands

module _ (o : Stand) where
  -- the walk of the question's paths
  abbrev OwnWalk : Walker → Type 0
  OwnWalk w = (w.sheet ≡ o.at.sheet) × (w.walk ≡ walk_of o.at.seat (right_kind (side_of o.question.kind)) o.question.deed)

  abbrev NumbersBack : List ℕ → Type 0
  NumbersBack d = WalkedBack o.at.sheet.words.now o.at.sheet.edges.now o.at.sheet.header o.at.seat o.question o.places.folio d

  pub measured-so : (w : Walker) → OwnWalk w → (d : List ℕ) → (length d ≡ max_nodes) × Layers (steps_back w) (λ x. x ≡ o.places.folio) d → NumbersBack d
  measured-so w is d m = record { long = m.0; layers = walked-back w o.at.sheet _ is _ d m.1 }

  module _ (d : List ℕ) (me : NumbersBack d) where
    -- a row without a number has no witness
    pub no-witness : get_or d o.places.person 0 ≡ 0 → (ws : List ℕ) → WitnessIs (seen_at_seat o.at) (side_of o.question.kind) o.question.person o.question.deed o.question.folio ws → ⊥
    no-witness z ws x =
        path-reached _ _ _ o.at.sheet.formed o.at.seat (side_of o.question.kind) o.question o.places.person o.places.folio o.placed d me.layers (record { words = ws; is = x.holds }) z

    module _ (w : Walker) (is : OwnWalk w) where
      -- what a trace asks for
      pub trace-ready : 0 < get_or d o.places.person 0 → (w.sheet.header.nodes ≤ length d) × Layers (steps_back w) (Starts d) d × (o.places.person < w.sheet.header.nodes) × (0 < get_or d o.places.person 0) × (get_or d o.places.person 0 ≤ max_nodes)
      trace-ready h =
          let f = o.at.sheet.formed in
          let n = f.nodes.header.nodes in
          let same = ap (λ (x : Header). x.nodes) f.head in
          let own = ap (λ (x : Sheet). x.header.nodes) is.0 in
          let rp = o.placed.person-in in (
            omega (arith, own, me.long),
            subst (λ (x : Walk). Layers (Steps w.sheet.words.now w.sheet.edges.now (reversed x) w.sheet.header.edges) (Starts d) d) (sym is.1)
                (subst (λ (x : Sheet). Layers (Steps x.words.now x.edges.now (reversed (walk_for o.at.seat (side_of o.question.kind) o.question.deed)) x.header.edges) (Starts d) d) (sym is.0)
                (traceable _ _ _ f o.at.seat (side_of o.question.kind) o.question o.places.person o.places.folio o.placed d me.layers)),
            omega (arith, own, same),
            h,
            subst (λ (x : ℕ). get_or d o.places.person 0 ≤ x) me.long (number_bound _ _ d me.layers o.places.person),
          )

      module _ (rows₀ rows : List ℕ) (r : ℕ) (tr : Traced (steps_of w) (Starts d) o.places.person rows₀ rows r) where
        own-trace : Traced (Steps o.at.sheet.words.now o.at.sheet.edges.now (walk_for o.at.seat (side_of o.question.kind) o.question.deed) o.at.sheet.header.edges) (Starts d) o.places.person rows₀ rows r
        own-trace =
            subst (λ (x : Walk). Traced (Steps o.at.sheet.words.now o.at.sheet.edges.now x o.at.sheet.header.edges) (Starts d) o.places.person rows₀ rows r) is.1
            (subst (λ (x : Sheet). Traced (Steps x.words.now x.edges.now w.walk x.header.edges) (Starts d) o.places.person rows₀ rows r) is.0 tr)

        own : Shown _ _ _ o.at.sheet.formed o.at.seat (side_of o.question.kind) o.question o.places.person o.places.folio o.placed d me.layers rows r
        own = shown _ _ _ o.at.sheet.formed o.at.seat (side_of o.question.kind) o.question o.places.person o.places.folio o.placed d me.layers rows₀ rows r own-trace

        long : r ≤ length rows
        long = let e = ap length tr.wrote in let z = tr.size in omega (arith, length-append tr.trail (drop r rows₀))

        pub trace-rows : PathRows o.at.sheet.words.now o.at.sheet.header.nodes o.at.seat o.question (get_or d o.places.person 0) rows
        trace-rows = subst (λ (n : ℕ). PathRows o.at.sheet.words.now o.at.sheet.header.nodes o.at.seat o.question n rows) own.size (record { inside = own.inside; most = long; is = own.is })
