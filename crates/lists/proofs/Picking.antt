-- Rows of one type that are picked: the code's test is the definition's, and their numbers rise; and what a question refuses, by what was looked up.
-- Assumes nothing.
use Prim.Native.Nat.{ℕ, zero, suc, ◌<◌, ◌≤◌}
use native.Mathlib.Omega.{arith}
use mathlib.Core.Path.{◌≡◌, refl, sym, ap, subst, ◌∙◌}
use mathlib.Core.Bool.{Bool, true, false, not, ◌&&◌, beq, true≢false}
use mathlib.Core.List.{List}
use lib.Dec.{eqb}
use lib.ListN.{get_or}
use borrow.Author.Tests.{eqb-true, eq-eqb}
use Rattle.std.specs.Prelude.{Ok, Err, Result, is_ok}
use Rattle.tables.proofs.Counts.{some_at}
use Rattle.tables.specs.Marks.{marked}
use Rattle.sheet.specs.declared.Header.{Header}
use Rattle.sheet.specs.declared.Node.{Node}
use Rattle.sheet.specs.declared.Seat.{Seat}
use Rattle.sheet.specs.declared.fault.Fault.{Fault}
use Rattle.sheet.specs.declared.fault.Fault.TheVariants.{UnknownDeed, UnknownFolio, UnknownCategory}
use Rattle.sheet.specs.FaultNumbers.{fault_number}
use Rattle.sheet.specs.Accepted.{WellFormed}
use Rattle.sheet.proofs.Forming.{nodes-same}
use Rattle.sheet.specs.Refusals.{◌when◌otherwise◌, ◌or_else◌}
use Rattle.sheet.specs.Rows.{header_of, node_at}
use Rattle.paths.proofs.Tests.{and_left, and_right, both}
use Rattle.meaning.specs.Forms.{Rising}
use Rattle.question.specs.declared.Question.{Question}
use Rattle.question.specs.Asked.{seat_for, stands, SoughtIn, known, bad_office}
use Rattle.lists.specs.Picked.{wanted, Picked, PickedNumber}
use Rattle.lists.specs.declared.Search.{Search}
use Rattle.lists.specs.declared.Search.TheVariants.{PersonsInCategory, PersonsWithGrant, FoliosOutOfReach, LeastTriple, LeastHolder, RedundantEdges}
use Rattle.lists.specs.Sought.{unknown_category, unknown_right, bad_pair, asked_fault, sought_fault}
use Rattle.reach.proofs.Collecting.{Collected, collected-all}
use Rattle.tables.specs.Count.{some_row}

-- ---- the test of a row

-- some, or none, as the code compares it
pub wanted-is : (v : ℕ) (b : Bool) → beq (not (eqb v 0)) b ≡ wanted b v
unfolding wanted
wanted-is v true = is-true (eqb v 0)
  where
    is-true : (x : Bool) → beq (not x) true ≡ not x
    is-true true = refl
    is-true false = refl
wanted-is v false = is-false (eqb v 0)
  where
    is-false : (x : Bool) → beq (not x) false ≡ x
    is-false true = refl
    is-false false = refl

module _ (s : List ℕ) (office class : ℕ) (some : Bool) (d : List ℕ) (i : ℕ) (r : Node) (b : Bool) (e : r ≡ node_at s i)
    (t : b ≡ (eqb r.class class && (marked r.offices office && wanted some (get_or d i 0)))) where
  own : b ≡ (eqb (node_at s i).class class && (marked (node_at s i).offices office && wanted some (get_or d i 0)))
  own = rw (← e) t

  pub picked-yes : b ≡ true → Picked s office class some d i
  picked-yes q =
      let x = sym own ∙ q in
      let y = and_right (eqb (node_at s i).class class) _ x in
      record {
        is-class = eqb-true _ class (and_left (eqb (node_at s i).class class) _ x);
        bears = and_left (marked (node_at s i).offices office) _ y;
        by = and_right (marked (node_at s i).offices office) _ y;
      }

  pub picked-no : b ≡ false → Picked s office class some d i → ⊥
  picked-no q p = true≢false (sym (both (eq-eqb _ class p.is-class) (both p.bears p.by)) ∙ sym own ∙ q)

-- all rows passed: the list is that of the picked numbers
pub picked_all : (s : List ℕ) (i n office class : ℕ) (some : Bool) (d out : List ℕ) → i ≤ n → n ≤ i → Collected (Picked s office class some d) (λ j. (node_at s j).number) i out → Rising (PickedNumber s n office class some d) out
picked_all s i n office class some d out l m c =
    let e : i ≡ n = omega arith in
    collected-all _ _ n out _ (subst (λ (x : ℕ). Collected (Picked s office class some d) (λ j. (node_at s j).number) x out) e c) (λ x r. record { row = r.row; inside = r.inside; picked = r.counts; numbered = r.is }) (λ x r. record { row = r.row; inside = r.inside; counts = r.picked; is = r.numbered })

-- ---- a row that a question names, at the office of the question

module _ (s t : List ℕ) (h : Header) (f : WellFormed s t h) (office class number : ℕ) where
  pub known-at : (i : ℕ) → SoughtIn s false office class number h.nodes (Ok i) → (known s false office class number ≡ true) × (i < h.nodes) × (stands s false office class number i ≡ true)
  unfolding known
  known-at i x =
      let e = x.1.found x.0 in
      (some_at (stands s false office class number) (header_of s).nodes i (subst (λ (n : ℕ). i < n) (nodes-same s t h f) x.0) e, x.0, e)

  pub unknown-at : (i : ℕ) → SoughtIn s false office class number h.nodes (Err i) → known s false office class number ≡ false
  unfolding known
  unknown-at i x = rw (nodes-same s t h f) at x.0

-- .. and whether there is one
pub known_by : (s : List ℕ) (h : Header) (office class number : ℕ) (r : Result ℕ ℕ) → h ≡ header_of s → SoughtIn s false office class number h.nodes r → is_ok r ≡ known s false office class number
unfolding known
known_by s h office class number (Ok i) e x =
    sym (some_at (stands s false office class number) (header_of s).nodes i (subst (λ (y : Header). i < y.nodes) e x.0) (x.1.found x.0))
known_by s h office class number (Err i) e x = sym (subst (λ (y : Header). some_row (stands s false office class number) y.nodes ≡ false) e x.0)

-- a line of the table
line-passed : (n more : ℕ) (b : Bool) → b ≡ true → (n when not b otherwise more) ≡ more
unfolding ◌when◌otherwise◌
line-passed n more b e = rw e refl

line-met : (n more : ℕ) (b : Bool) → b ≡ false → (n when not b otherwise more) ≡ n
unfolding ◌when◌otherwise◌
line-met n more b e = rw e refl

-- what each row that is named, or not known, says of the question's own lines
module _ (s : List ℕ) (q : Question) (seat : Seat) (is : seat ≡ seat_for q) where
  at_own : (class number : ℕ) (b : Bool) → known s false seat.office class number ≡ b → known s false q.office class number ≡ b
  at_own class number b e = subst (λ (x : Seat). known s false x.office class number ≡ b) is e

  pub category-known : known s false seat.office 2 q.category ≡ true → unknown_category s q ≡ 0
  unfolding unknown_category
  category-known e = line-passed 24 0 _ (at_own 2 q.category true e)

  pub category-lacks : (f : Fault) → known s false seat.office 2 q.category ≡ false → f ≡ UnknownCategory → fault_number f ≡ unknown_category s q
  unfolding unknown_category
  category-lacks f e z = ap fault_number z ∙ sym (line-met 24 0 _ (at_own 2 q.category false e))

  pub right-known : known s false seat.office 3 q.deed ≡ true → known s false seat.office 4 q.folio ≡ true → unknown_right s q ≡ 0
  unfolding unknown_right
  right-known d e = line-passed 22 _ _ (at_own 3 q.deed true d) ∙ line-passed 23 0 _ (at_own 4 q.folio true e)

  pub deed-lacks : (f : Fault) → known s false seat.office 3 q.deed ≡ false → f ≡ UnknownDeed → fault_number f ≡ unknown_right s q
  unfolding unknown_right
  deed-lacks f e z = ap fault_number z ∙ sym (line-met 22 _ _ (at_own 3 q.deed false e))

  pub folio-lacks : (f : Fault) → known s false seat.office 3 q.deed ≡ true → known s false seat.office 4 q.folio ≡ false → f ≡ UnknownFolio → fault_number f ≡ unknown_right s q
  unfolding unknown_right
  folio-lacks f d e z = ap fault_number z ∙ sym (line-passed 22 _ _ (at_own 3 q.deed true d) ∙ line-met 23 0 _ (at_own 4 q.folio false e))

  pub pair-first : (f : Fault) → known s false seat.office 3 q.deed ≡ false → f ≡ UnknownDeed → fault_number f ≡ bad_pair s q
  unfolding bad_pair
  pair-first f e z = ap fault_number z ∙ sym (line-met 22 _ _ (at_own 3 q.deed false e))

  pub pair-other : (f : Fault) → known s false seat.office 3 q.deed ≡ true → known s false seat.office 3 q.other ≡ false → f ≡ UnknownDeed → fault_number f ≡ bad_pair s q
  unfolding bad_pair
  pair-other f d e z = ap fault_number z ∙ sym (line-passed 22 _ _ (at_own 3 q.deed true d) ∙ line-met 22 _ _ (at_own 3 q.other false e))

  pub pair-same : known s false seat.office 3 q.deed ≡ true → known s false seat.office 3 q.other ≡ true → (31 when eqb q.deed q.other otherwise 0) ≡ bad_pair s q
  unfolding bad_pair
  pair-same d e = sym (line-passed 22 _ _ (at_own 3 q.deed true d) ∙ line-passed 22 _ _ (at_own 3 q.other true e))

-- ---- where nothing is refused, what is named is known

else-zero : (k m : ℕ) → k or_else m ≡ 0 → m ≡ 0
unfolding ◌or_else◌
else-zero zero m e = e
else-zero (suc k) m e = absurd (omega (arith, e))

known-line : (n : ℕ) (b : Bool) (more : ℕ) → (n ≡ 0 → ⊥) → n when not b otherwise more ≡ 0 → (b ≡ true) × (more ≡ 0)
unfolding ◌when◌otherwise◌
known-line n true more z e = (refl, e)
known-line n false more z e = absurd (z e)

module _ (s : List ℕ) (q : Question) (seat : Seat) (is : seat ≡ seat_for q) where
  by_seat : (class number : ℕ) → known s false q.office class number ≡ true → known s false seat.office class number ≡ true
  by_seat class number e = subst (λ (x : Seat). known s false x.office class number ≡ true) (sym is) e

  pub category-there : sought_fault PersonsInCategory s q ≡ 0 → known s false seat.office 2 q.category ≡ true
  unfolding unknown_category ◌when◌otherwise◌
  category-there fine = by_seat 2 q.category (known-line 24 (known s false q.office 2 q.category) 0 (λ z. omega arith) (else-zero (bad_office (header_of s) q.office) _ fine)).0

  pub right-there : sought_fault PersonsWithGrant s q ≡ 0 → (known s false seat.office 3 q.deed ≡ true) × (known s false seat.office 4 q.folio ≡ true)
  unfolding unknown_right ◌when◌otherwise◌
  right-there fine =
      let a = known-line 22 (known s false q.office 3 q.deed) _ (λ z. omega arith) (else-zero (bad_office (header_of s) q.office) _ fine) in
      let b = known-line 23 (known s false q.office 4 q.folio) 0 (λ z. omega arith) a.1 in
      (by_seat 3 q.deed a.0, by_seat 4 q.folio b.0)

-- ---- what is refused, with the office's number in front

else-first : (n k m : ℕ) → n ≡ k → (n ≡ 0 → ⊥) → n ≡ k or_else m
unfolding ◌or_else◌
else-first n zero m e z = absurd (z e)
else-first n (suc k) m e z = e

else-own : (k m : ℕ) → k ≡ 0 → m ≡ k or_else m
unfolding ◌or_else◌
else-own k m e = rw e refl

pub fault-office : (search : Search) (s : List ℕ) (q : Question) (n : ℕ) → n ≡ bad_office (header_of s) q.office → (n ≡ 0 → ⊥) → n ≡ sought_fault search s q
fault-office PersonsInCategory s q n e z = else-first n _ _ e z
fault-office PersonsWithGrant s q n e z = else-first n _ _ e z
fault-office FoliosOutOfReach s q n e z = e
fault-office LeastTriple s q n e z = e
fault-office LeastHolder s q n e z = else-first n _ _ e z
fault-office RedundantEdges s q n e z = e

pub asked-fault-own : (search : Search) (s : List ℕ) (q : Question) → bad_office (header_of s) q.office ≡ 0 → asked_fault search s q ≡ sought_fault search s q
asked-fault-own PersonsInCategory s q e = else-own _ _ e
asked-fault-own PersonsWithGrant s q e = else-own _ _ e
asked-fault-own FoliosOutOfReach s q e = sym e
asked-fault-own LeastTriple s q e = sym e
asked-fault-own LeastHolder s q e = else-own _ _ e
asked-fault-own RedundantEdges s q e = sym e

-- .. by the header that was read
pub fault-after : (search : Search) (s : List ℕ) (q : Question) (h : Header) → h ≡ header_of s → bad_office h q.office ≡ 0 → sought_fault search s q ≡ asked_fault search s q
fault-after search s q h e z = sym (asked-fault-own search s q (subst (λ (x : Header). bad_office x q.office ≡ 0) e z))

pub sought-office : (search : Search) (s : List ℕ) (q : Question) (h : Header) (n : ℕ) → h ≡ header_of s → n ≡ bad_office h q.office → (n ≡ 0 → ⊥) → n ≡ sought_fault search s q
sought-office search s q h n e b z = fault-office search s q n (subst (λ (x : Header). n ≡ bad_office x q.office) e b) z

-- a question that refuses nothing more than the office's number
pub office-alone : (s : List ℕ) (q : Question) (search : Search) → (search ≡ PersonsInCategory → ⊥) → (search ≡ PersonsWithGrant → ⊥) → (search ≡ LeastHolder → ⊥) → sought_fault search s q ≡ bad_office (header_of s) q.office
office-alone s q PersonsInCategory a b c = absurd (a refl)
office-alone s q PersonsWithGrant a b c = absurd (b refl)
office-alone s q FoliosOutOfReach a b c = refl
office-alone s q LeastTriple a b c = refl
office-alone s q LeastHolder a b c = absurd (c refl)
office-alone s q RedundantEdges a b c = refl
