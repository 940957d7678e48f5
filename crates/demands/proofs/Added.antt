-- What the desks were promised of a row that is added, of the functions' own statements.
-- Assumes nothing.
use Prim.Native.Nat.{ℕ, zero, suc, ◌+◌, ◌<◌, ◌≤◌}
use mathlib.Core.Path.{◌≡◌, refl, sym, ap, ap₂, subst, ◌∙◌}
use mathlib.Core.Bool.{Bool, true, false, not, ◌&&◌, ◌||◌}
use mathlib.Core.List.{List}
use mathlib.Core.Logic.{◌↔◌}
use native.Mathlib.Omega.{arith}
use lib.Dec.{ltb, T}
use lib.ListN.{length}
use Rattle.tables.specs.Count.{number_of}
use Rattle.tables.specs.Key.{Key, same_key}
use Rattle.tables.specs.Marks.{marked}
use Rattle.tables.specs.Office.{View, Same}
use Rattle.tables.specs.Table.{marks_at}
use Rattle.tables.proofs.Alike.{same_view, held-seen}
use Rattle.tables.proofs.Counts.{some_at, some-row}
use Rattle.sheet.specs.declared.Cells.{Cells}
use Rattle.sheet.specs.declared.Half.{Half}
use Rattle.sheet.specs.declared.Half.TheVariants.{Nodes, Edges}
use Rattle.sheet.specs.declared.Refusal.{Refusal}
use Rattle.sheet.specs.Accepted.{Accepted}
use Rattle.sheet.specs.Kinds.{person_type, deed_type, folio_type}
use Rattle.sheet.specs.Named.{node_row, held_at, seen_at}
use Rattle.sheet.specs.Refusals.{◌when◌otherwise◌, refuse}
use Rattle.sheet.specs.Rows.{header_of, node_at, node_key_at, count_in, row_words, row_key, as_node, as_edge}
use Rattle.sheet.specs.Verdict.{verdict, edge_fault}
use Rattle.sheet.proofs.Accepting.{accepted, not-refused, node-good, fit-good}
use Rattle.sheet.proofs.Refusing.{then-good, then-none, else-good, else-none, line-good, line-none}
use Rattle.sheet.proofs.Whole.{same_nodes}
use Rattle.meaning.specs.Paths.{Side, HasPath}
use Rattle.meaning.specs.Answers.{AnswerIs}
use Rattle.meaning.specs.Added.{table_in, other_half, key_named, held_in}
use Rattle.meaning.proofs.Sparing.{answer-spared, same-edges-path}
use Rattle.question.specs.declared.Question.{Question}
use Rattle.question.specs.declared.Answer.{Answer}
use Rattle.question.specs.Asked.{asked, stands, known, unknown, bad_office, ask_fault, plain, after_sheet}
use Rattle.question.specs.Replies.{tells, refused, answered}
use Rattle.question.proofs.Known.{ask-same}
use Rattle.question.proofs.Single.{replies-one}
use Rattle.question.proofs.Telling.{plain-none}
use Rattle.ask.specs.Promises.{AnswersAtOffice}
use Rattle.ask.proofs.Single.{answer-single}
use Rattle.find.specs.Promises.{TellsPlace}
use Rattle.add.specs.Adding.{add_fault, AddedAt, AddsRow}
use Rattle.add.proofs.Adding.{ends-in, no-marks}
use Rattle.add.proofs.Alone.{table-marks}
use Rattle.add.proofs.Having.{one-row-more, no-row-more, row-longer, holds_row, holds-rest}
use Rattle.add.proofs.Placing.{marked_row, row-marked, place_kept, stands-then, added-one}
use Rattle.add.proofs.Showing.{Good, fault-good, shown-row, row-shown}
use Rattle.demands.specs.Additions.{WasAdded, Additions}
use Rattle.demands.proofs.JointPlaces.{place-joined}
use Rattle.demands.proofs.Pruned.{replies-as, after_same}

-- ---- what was told and written

record Facts (half : Half) (s : List ℕ) (c : Cells) (t : List ℕ) (row : ℕ) : Type 0 where
  base : Accepted s
  good : Good half s c
  at : AddedAt half s c row t
  some : 0 < c.offices

-- a row of which nothing is refused bears marks
some-marks : (half : Half) (s : List ℕ) (c : Cells) → Good half s c → 0 < c.offices
unfolding edge_fault
some-marks Nodes s c g = (node-good (header_of s) (as_node c) g.row).marks.some
some-marks Edges s c g = (fit-good (header_of s) (as_edge c) _ _ (else-good _ _ g.row).1).marks.some

plain-number : (k : ℕ) → (plain k).number ≡ 0 → k ≡ 0
unfolding refuse
plain-number zero e = refl
plain-number (suc k) e = e

after_none : (s : List ℕ) (k : ℕ) → Accepted s → k ≡ 0 → (after_sheet s k).number ≡ 0
unfolding after_sheet
after_none s k v e = ap (λ (x : Refusal). x.number) (then-none (verdict 1 s) (plain k) (not-refused 1 s v)) ∙ plain-none k e

after-number : (s : List ℕ) (k : ℕ) → (after_sheet s k).number ≡ 0 → k ≡ 0
unfolding after_sheet
after-number s k e = plain-number k (then-good (verdict 1 s) (plain k) e).1

facts : (half : Half) (s : List ℕ) (c : Cells) (t : List ℕ) (row : ℕ) → WasAdded half s c t row → Facts half s c t row
unfolding after_sheet
facts half s c t row W =
    let x = shown-row _ (AddedAt half s c) W.out W.replies W.not-refused in
    let n = then-good (verdict 1 s) _ x.0 in
    let g = fault-good half s c (plain-number _ n.1) in
    record {
      base = accepted 1 s n.0;
      good = g;
      at = subst (λ (i : ℕ). AddedAt half s c i t) W.told (subst (λ (u : List ℕ). AddedAt half s c W.answer.value u) W.sheet x.1);
      some = some-marks half s c g;
    }

module _ (half : Half) (s : List ℕ) (c : Cells) (t : List ℕ) (row : ℕ) (W : WasAdded half s c t row) where
  abbrev F : Facts half s c t row
  F = facts half s c t row W

  rows_then : (count_in half (header_of t) ≡ count_in half (header_of s) + 1) × (count_in (other_half half) (header_of t) ≡ count_in (other_half half) (header_of s))
  rows_then = (one-row-more half s F.base c F.some (no-marks half s F.base c F.good) t F.at.0, no-row-more half s F.base c F.some (no-marks half s F.base c F.good) t F.at.0)

  offices : (office : ℕ) (k : Key) → (held_in half (held_at t office) k ≡ (held_in half (held_at s office) k || (same_key k (key_named half s c) && marked c.offices office))) × (held_in (other_half half) (held_at t office) k ≡ held_in (other_half half) (held_at s office) k)
  offices office k = (holds_row half s F.base c F.some (no-marks half s F.base c F.good) t F.at.0 office k, holds-rest half s F.base c F.some (no-marks half s F.base c F.good) t F.at.0 office k)

  found : {a : Answer} → TellsPlace half t (row_key c) a → a ≡ tells 1 row
  found (refused h) = absurd (h (ap (λ (x : Refusal). x.number) (not-refused 1 t F.at.0.accepted)))
  found (answered v i z p) =
      let n = ends-in half s c F.good in
      ap₂ tells (p.0 ∙ ap number_of (stands-then half s F.base c n t F.at.0 F.some)) (sym (place_kept half s F.base c n t F.at.0 row i F.at.1 p.1))

added : (half : Half) (s : List ℕ) (c : Cells) (out : List ℕ) {a : Answer} {o : List ℕ} → Accepted s → add_fault half s c ≡ 0 → length s + row_words half (header_of s).form ≤ length out → AddsRow half s c out a o → a.number ≡ 0
added half s c out v z room x =
    let g = fault-good half s c z in
    row-shown _ (AddedAt half s c) out x (after_none s _ v z)
    (λ i t p. omega (arith, row-longer half s v c (some-marks half s c g) (no-marks half s v c g) t p.0, room))

-- ---- a node changes no path and no answer

module _ (s : List ℕ) (c : Cells) (t : List ℕ) (row : ℕ) (W : WasAdded Nodes s c t row) where
  abbrev N : Facts Nodes s c t row
  N = facts Nodes s c t row W

  same-paths : (office : ℕ) (side : Side) (p d f : ℕ) → HasPath (seen_at s office) side p d f ↔ HasPath (seen_at t office) side p d f
  same-paths office side p d f = same-edges-path (seen_at s office) (seen_at t office) (λ k. sym (offices Nodes s c t row W office k).1) side p d f

  -- who was known is known
  known_on : (office class number : ℕ) → known s false office class number ≡ true → known t false office class number ≡ true
  unfolding known stands node_row
  known_on office class number e =
      let (i, l, q) = some-row _ (header_of s).nodes e in
      let m = row-marked Nodes s N.base i l in
      let apart : node_key_at s i ≡ key_named Nodes s c → ⊥ = (λ d. omega (arith, m, ap (marks_at (table_in Nodes s)) d, no-marks Nodes s N.base c N.good)) in
      let r = marked_row Nodes t (node_key_at s i) (rw (N.at.0.others (node_key_at s i) apart) m) in
      let marks = sym (table-marks Nodes t N.at.0.accepted (node_key_at s i) r.row r.inside r.names) ∙ (N.at.0.others (node_key_at s i) apart ∙ table-marks Nodes s N.base (node_key_at s i) i l refl) in
      let a : (node_at t r.row).class ≡ (node_at s i).class = cc r.names in
      let b : (node_at t r.row).number ≡ (node_at s i).number = cc r.names in
      some_at _ (header_of t).nodes r.row r.inside (rw (a, b, marks) q)

  not_known : (b : Bool) → not b ≡ false → b ≡ true
  not_known true e = refl
  not_known false e = sym e

  line_on : (k : ℕ) (office class number rest rest' : ℕ) → T (ltb 0 k) → (rest ≡ 0 → rest' ≡ 0) → (k when not (known s false office class number) otherwise rest) ≡ 0 → (k when not (known t false office class number) otherwise rest') ≡ 0
  line_on k office class number rest rest' some on e =
      let g = line-good k _ rest some e in
      line-none k _ rest' (ap not (known_on office class number (not_known _ g.0))) (on g.1)

  ask-on : (q : Question) → ask_fault s q ≡ 0 → ask_fault t q ≡ 0
  unfolding ask_fault bad_office unknown
  ask-on q e =
      let g = else-good _ _ e in
      else-none _ _ (rw N.at.0.offices g.0)
      ∙ line_on 21 q.office person_type q.person _ _ tt (line_on 22 q.office deed_type q.deed _ _ tt (line_on 23 q.office folio_type q.folio 0 0 tt (λ z. z))) g.1

  same_answer : (q : Question) {x y : Answer} → AnswersAtOffice (after_sheet s) s q x → x.number ≡ 0 → AnswersAtOffice (after_sheet t) t q y → x ≡ y
  same_answer q (refused h) z b = absurd (h z)
  same_answer q (answered v n z p) y (refused h) = absurd (h (after_none t _ N.at.0.accepted (ask-on q (after-number s _ z))))
  same_answer q (answered v n z p) y (answered v' n' z' p') =
      answer-single (asked t q) q.person q.deed q.folio v n v' n' (answer-spared _ _ _ _ _ v (λ side. same-paths q.office side _ _ _) p.0, p.1) p'

-- ---- an edge changes nothing at an office that it is not marked with

module _ (s : List ℕ) (c : Cells) (t : List ℕ) (row : ℕ) (W : WasAdded Edges s c t row) where
  abbrev E : Facts Edges s c t row
  E = facts Edges s c t row W

  elsewhere : (office : ℕ) → marked c.offices office ≡ false → Same (held_at t office) (held_at s office)
  elsewhere office e =
      record {
        nodes = λ k. (offices Edges s c t row W office k).1;
        edges = λ k. (offices Edges s c t row W office k).0 ∙ rw e (no_more ((held_at s office).edge k) (same_key k (key_named Edges s c)));
      }
    where
      no_more : (a b : Bool) → (a || (b && false)) ≡ a
      no_more true b = refl
      no_more false true = refl
      no_more false false = refl

  answer-elsewhere : (q : Question) → marked c.offices q.office ≡ false → {x y : Answer} → AnswersAtOffice (after_sheet s) s q x → AnswersAtOffice (after_sheet t) t q y → x ≡ y
  answer-elsewhere q e x y =
      let n = same_nodes t s E.at.0.accepted E.base E.at.0.rest in
      let g = same_view _ _ (held-seen q.office q.office _ _ (elsewhere q.office e)) in
      replies-one _ _ (answer-single (asked s q) q.person q.deed q.folio) x
      (replies-as _ _ _ _ (after_same s t _ _ E.base E.at.0.accepted (ask-same s t n.0 (λ i l. n.1 i (omega (arith, n.0))) E.at.0.offices q))
      (λ v m p. (subst (λ (z : View). AnswerIs z q.person q.deed q.folio v) g p.0, p.1)) y)

pub additions : Additions
additions =
    record {
      is-added = λ half s c out v z room x. added half s c out v z room x;
      by-tables = λ half s c t row W. (facts half s c t row W).at.0;
      one_way = added-one;
      one_more = rows_then;
      by-offices = offices;
      found-there = λ half s c t row W x. found half s c t row W x;
      node-no-path = same-paths;
      node-no-answer = λ s c t row W q x z y. same_answer s c t row W q x z y;
      edge-elsewhere = elsewhere;
      edge-no-answer = λ s c t row W q e x y. answer-elsewhere s c t row W q e x y;
      joint-place = place-joined;
    }
