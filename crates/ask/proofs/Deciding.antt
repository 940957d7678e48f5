-- What the numbers of a walk back from the folio decide: whether there is a path, and the witness.
-- Assumes nothing.
use Prim.Native.Nat.{ℕ, suc, ◌<◌}
use native.Mathlib.Omega.{arith}
use mathlib.Core.Path.{◌≡◌, refl, ap, subst, ◌∙◌}
use mathlib.Core.Bool.{Bool, true, false, not, true≢false, false≢true}
use mathlib.Core.List.{List}
use mathlib.Core.Logic.{⊎_elim}
use lib.Dec.{eqb}
use lib.ListN.{get_or}
use borrow.Author.Tests.{eqb-true, eq-eqb}
use Rattle.tables.specs.Key.{identity}
use Rattle.sheet.specs.declared.Header.{Header}
use Rattle.sheet.specs.declared.Seat.{Seat}
use Rattle.sheet.specs.declared.formed.Sheet.{Sheet}
use Rattle.sheet.specs.Rows.{header_of, node_at, edge_table}
use Rattle.sheet.specs.Accepted.{WellFormed, Accepted}
use Rattle.sheet.specs.Named.{node_row, seen_at}
use Rattle.sheet.specs.Seats.{seen_from}
use Rattle.sheet.proofs.Forming.{words_of}
use Rattle.sheet.proofs.Naming.{node_seen, ends-seen}
use Rattle.paths.specs.Reached.{Layers}
use Rattle.paths.proofs.Tests.{both}
use Rattle.paths.proofs.Distances.{zero_or}
use Rattle.paths.proofs.Trails.{listed, numbered}
use Rattle.meaning.specs.Paths.{Side, HasPath}
use Rattle.meaning.specs.Answers.{Says}
use Rattle.meaning.proofs.Axioms.{a1-a2}
use Rattle.walk.specs.declared.Walk.{Walk}
use Rattle.walk.specs.declared.walker.Walker.{Walker}
use Rattle.walk.specs.Arcs.{Steps, reversed}
use Rattle.walk.specs.WalkSteps.{steps_back}
use Rattle.walk.proofs.Walking.{turned-layers}
use Rattle.question.specs.declared.Question.{Question}
use Rattle.question.proofs.Known.{found-class}
use Rattle.question.specs.Asked.{stands, known}
use Rattle.ask.specs.Placed.{Placed}
use Rattle.ask.proofs.Links.{walk_for}
use Rattle.ask.proofs.Bridge.{trail-path, path-trail}
use Rattle.tables.proofs.Counts.{some_at}

-- the numbers of a walk back, over the sheet and by the walk that it goes
pub walked-back : (w : Walker) (sheet : Sheet) (walk : Walk) → (w.sheet ≡ sheet) × (w.walk ≡ walk) → (P : ℕ → Type 0) (d : List ℕ) → Layers (steps_back w) P d
    → Layers (Steps sheet.words.now sheet.edges.now (reversed walk) sheet.header.edges) P d
walked-back w sheet walk e P d y =
    subst (λ (x : Walk). Layers (Steps sheet.words.now sheet.edges.now (reversed x) sheet.header.edges) P d) e.1
    (subst (λ (x : Sheet). Layers (Steps x.words.now x.edges.now (reversed w.walk) x.header.edges) P d) e.0 y)

module _ (s t : List ℕ) (h : Header) (f : WellFormed s t h) (seat : Seat) (side : Side) (q : Question) (rp rf : ℕ) (pl : Placed s q rp rf) (dist : List ℕ)
    (y : Layers (Steps s t (reversed (walk_for seat side q.deed)) h.edges) (λ x. x ≡ rf) dist) where
  acc : Accepted s
  acc = words_of s t h f

  -- the numbers, over the words alone, as steps back
  pub back-layers : Layers (λ a b. Steps s (edge_table s) (walk_for seat side q.deed) (header_of s).edges b a) (λ x. x ≡ rf) dist
  back-layers =
      turned-layers s (edge_table s) (walk_for seat side q.deed) (header_of s).edges (λ x. x ≡ rf) dist
      (subst (λ (x : Header). Layers (Steps s (edge_table s) (reversed (walk_for seat side q.deed)) x.edges) (λ x. x ≡ rf) dist) f.head
      (subst (λ (x : List ℕ). Layers (Steps s x (reversed (walk_for seat side q.deed)) h.edges) (λ x. x ≡ rf) dist) f.table y))

  pub reached-path : (get_or dist rp 0 ≡ 0 → ⊥) → HasPath (seen_from s seat) side q.person q.deed q.folio
  reached-path n = ⊎_elim (λ z. absurd (n z)) some (zero_or (get_or dist rp 0))
    where
      some : (m : ℕ) × (get_or dist rp 0 ≡ suc m) → HasPath (seen_from s seat) side q.person q.deed q.folio
      some m =
          let l = listed _ _ (back-layers.sound rp m.0 m.1) in
          trail-path s acc seat side q.deed pl.deed-some rf q.folio pl.folio-in pl.folio-is rp q.person l.0 pl.person-is l.1

  pub path-reached : HasPath (seen_from s seat) side q.person q.deed q.folio → get_or dist rp 0 ≡ 0 → ⊥
  path-reached p z =
      let l = path-trail s acc seat side q.deed pl.deed-some rf q.folio pl.folio-in pl.folio-is rp q.person p.words pl.person-in pl.person-is p.is in
      let n = numbered _ _ dist back-layers l.trail in
      let n0 = n.0 in
      omega arith

  pub reach-says : (b : Bool) → b ≡ not (eqb (get_or dist rp 0) 0) → Says b (HasPath (seen_from s seat) side q.person q.deed q.folio)
  reach-says true e = reached-path (λ z. true≢false (e ∙ ap not (eq-eqb (get_or dist rp 0) 0 z)))
  reach-says false e = λ p. path-reached p (zero_is (eqb (get_or dist rp 0) 0) refl)
    where
      zero_is : (u : Bool) → eqb (get_or dist rp 0) 0 ≡ u → get_or dist rp 0 ≡ 0
      zero_is true d = eqb-true (get_or dist rp 0) 0 d
      zero_is false d = absurd (false≢true (e ∙ ap not d))

-- ---- who an office does not know has no path there

module _ (s : List ℕ) (acc : Accepted s) (office : ℕ) where
  seen-known : (class number variant : ℕ) → (seen_at s office).node (identity class number variant) ≡ true → known s false office class number ≡ true
  unfolding known stands node_row
  seen-known class number variant e =
      let r = node_seen s acc office (identity class number variant) e in
      let a : (node_at s r.row).class ≡ class = cc r.names in
      let b : (node_at s r.row).number ≡ number = cc r.names in
      some_at _ (header_of s).nodes r.row r.inside (both (eq-eqb _ class a) (both (eq-eqb _ number b) r.bears))

  pub path-known : (side : Side) (p d f : ℕ) → HasPath (seen_at s office) side p d f → (known s false office 1 p ≡ true) × (known s false office 3 d ≡ true) × (known s false office 4 f ≡ true)
  path-known side p d f h =
      let a = (a1-a2 (seen_at s office) p d f side).0 h in
      let m = ends-seen s acc office 1 1 p 0 2 a.c 0 a.assigned in
      let n = ends-seen s acc office 5 3 d a.variant 4 f 0 a.of in
      (seen-known 1 p 0 m.0, seen-known 3 d a.variant n.0, seen-known 4 f 0 n.1)

-- rows that were found for person, deed and folio place the question
pub placed_by : (s : List ℕ) → Accepted s → (any : Bool) (office : ℕ) (q : Question) (rp rd rf : ℕ) → rp < (header_of s).nodes → rd < (header_of s).nodes → rf < (header_of s).nodes
    → stands s any office 1 q.person rp ≡ true → stands s any office 3 q.deed rd ≡ true → stands s any office 4 q.folio rf ≡ true → Placed s q rp rf
placed_by s acc any office q rp rd rf lp ld lf ep ed ef =
    let a = found-class s any office 1 q.person rp ep in
    let b = found-class s any office 3 q.deed rd ed in
    let c = found-class s any office 4 q.folio rf ef in
    let u : (node_at s rp).variant ≡ 0 = (acc.nodes.fit rp lp).variant (λ z. let w = a.0 in omega arith) in
    let v : (node_at s rf).variant ≡ 0 = (acc.nodes.fit rf lf).variant (λ z. let w = c.0 in omega arith) in
    let a0 = a.0 in
    let a1 = a.1 in
    let c0 = c.0 in
    let c1 = c.1 in
    record { person-in = lp; person-is = cc; folio-in = lf; folio-is = cc; deed-some = λ z. (acc.nodes.fit rd ld).number (b.1 ∙ z) }
