-- What refuses lines, from what the code finds: the first line with a fault, the first that repeats one, the first that lacks an end.
-- Assumes nothing.
use Prim.Native.Nat.{ℕ, zero, suc, ◌+◌, ◌-◌, ◌<◌, ◌≤◌}
use mathlib.Core.Path.{◌≡◌, refl, sym, ap, subst, ◌∙◌}
use mathlib.Core.Bool.{Bool, true, false, ◌&&◌, true≢false}
use mathlib.Core.List.{List, []}
use native.Mathlib.Omega.{arith}
use native.Mathlib.Decide.{dec_lt}
use lib.Dec.{eqb}
use lib.ListN.{length}
use borrow.Author.Tests.{lt-ltb, le-ltb, eqb-true, eq-eqb}
use Rattle.tables.specs.Count.{FirstStanding}
use Rattle.tables.proofs.Counts.{many-not, some-none}
use Rattle.tables.proofs.Keys.{same-eq}
use Rattle.sheet.specs.declared.Refusal.{Refusal}
use Rattle.sheet.specs.Limits.{max_nodes, max_edges}
use Rattle.sheet.specs.Refusals.{none, refuse, first_row, ◌or_else◌}
use Rattle.sheet.proofs.Refusing.{some_is, none_is, refuse-some, refuse-none, then-some-is, then-none-is, else-good, else-none, else-some, line-good, line-none, rows_none, taken, left}
use Rattle.sheet.proofs.Writing.{gives-refused, gives_as}
use Rattle.std.specs.Prelude.{Option, Some, None, is_some}
use Rattle.sheet.specs.declared.fault.Fault.{Fault}
use Rattle.sheet.specs.FaultNumbers.{fault_number}
use Rattle.lines.specs.Nine.{faulty}
use Rattle.lines.specs.declared.Line.{Line}
use Rattle.lines.specs.Naming.{is_node_line, within_itself, line_key, same_line}
use Rattle.listing.specs.declared.FirstFault.{FirstFault}
use Rattle.listing.specs.declared.Listing.{Listing}
use Rattle.listing.specs.Cut.{line_at}
use Rattle.listing.specs.Faults.{says_this, line_fault, end_fault, node_lines, edge_lines, count_fault, lines_fault, listing_fault}
use Rattle.sorting.specs.Sorted.{most_sorted}
use Rattle.listing.specs.Laying.{too_many_rows}
use Rattle.listing.specs.LineByLine.{fault_told, own_fault, LooksThrough, lacks_end}
use Rattle.listing.specs.Promises.{GivesListing, ReadsListing}
use Rattle.listing.proofs.Giving.{reply_refused}

-- ---- the first row that has a number

pub first-row-refuses : (p : ℕ) (f : ℕ → ℕ) (n r : ℕ) → r < n → ((j : ℕ) → j < r → f j ≡ 0) → (f r ≡ 0 → ⊥) → record { number = f r; sheet = p; row = r } ≡ first_row p f 0 n
unfolding first_row
first-row-refuses p f n r h before here = go 0 n (omega arith) (omega arith)
  where
    step : (i k : ℕ) → i ≤ r → r < i + suc k → (i < r → record { number = f r; sheet = p; row = r } ≡ first_row p f (suc i) k) → record { number = f r; sheet = p; row = r } ≡ refuse (f i) p i (first_row p f (suc i) k)
    step i k l m on = at (dec_lt i r)
      where
        at : Dec (i < r) → record { number = f r; sheet = p; row = r } ≡ refuse (f i) p i (first_row p f (suc i) k)
        at (yes d) = on d ∙ sym (refuse-none (f i) p i _ (before i d))
        at (no d) = let z : i ≡ r = omega arith in rw z (sym (refuse-some (f r) p r _ here))

    go : (i k : ℕ) → i ≤ r → r < i + k → record { number = f r; sheet = p; row = r } ≡ first_row p f i k
    go i zero l m = absurd (omega arith)
    go i (suc k) l m = step i k l m (λ d. go (suc i) k (omega arith) (omega arith))

-- ---- one line

module _ (l : Line) where
  pub own-good : own_fault l ≡ 0 → (l.fault ≡ 0) × (within_itself l ≡ false)
  unfolding own_fault
  own-good e = let x = else-good _ _ e in (x.0, (line-good 14 _ 0 tt x.1).0)

  pub own-within : l.fault ≡ 0 → within_itself l ≡ true → 14 ≡ own_fault l
  unfolding own_fault
  own-within f w = none_is _ _ _ _ refl f (taken _ _ _ w)

  pub own-none : l.fault ≡ 0 → within_itself l ≡ false → 0 ≡ own_fault l
  unfolding own_fault
  own-none f w = none_is _ _ _ _ refl f (left _ _ _ _ w refl)

-- each number of the table is one
pub line-fault-some : (f : Fault) → fault_number f ≡ 0 → ⊥
line-fault-some f e = grind arith

-- whether there is a fault, by its number
pub some-told : (f : Option Fault) → is_some f ≡ true → fault_told f ≡ 0 → ⊥
some-told None e z = true≢false (sym e)
some-told (Some f) e z = line-fault-some f z

pub none-told : (f : Option Fault) → is_some f ≡ false → fault_told f ≡ 0
none-told None e = refl
none-told (Some f) e = absurd (true≢false e)

pub own-of-fault : (f : Fault) → fault_number f ≡ own_fault (faulty (fault_number f))
unfolding own_fault
own-of-fault f = some_is _ _ _ refl (line-fault-some f)

module _ (ls : List Line) (i : ℕ) where
  pub line-has-none : own_fault (line_at ls i) ≡ 0 → says_this ls i (line_at ls i) ≡ false → line_fault ls i ≡ 0
  unfolding line_fault
  line-has-none e s = let x = own-good (line_at ls i) e in else-none _ _ x.0 ∙ line-none 42 _ _ s (line-none 14 _ 0 x.1 refl)

  pub line-repeats : own_fault (line_at ls i) ≡ 0 → says_this ls i (line_at ls i) ≡ true → line_fault ls i ≡ 42
  unfolding line_fault
  line-repeats e s = else-none _ _ (own-good (line_at ls i) e).0 ∙ sym (taken 42 _ _ s)

  -- a line that repeats none has its own fault
  pub line-own : says_this ls i (line_at ls i) ≡ false → line_fault ls i ≡ own_fault (line_at ls i)
  unfolding line_fault own_fault
  line-own s = ap (λ (k : ℕ). (line_at ls i).fault or_else k) (sym (left _ 42 _ _ s refl))

  -- a line that has 40 or 41 has that first
  pub line-bad : ((line_at ls i).fault ≡ 0 → ⊥) → line_fault ls i ≡ own_fault (line_at ls i)
  unfolding line_fault own_fault
  line-bad h = else-some _ _ h ∙ sym (else-some _ _ h)

  pub end-there : lacks_end ls (length ls) (line_at ls i) ≡ false → end_fault ls i ≡ 0
  unfolding end_fault
  end-there e = line-none 43 _ 0 e refl

  pub end-lacking : lacks_end ls (length ls) (line_at ls i) ≡ true → end_fault ls i ≡ 43
  unfolding end_fault
  end-lacking e = sym (taken 43 _ 0 e)

-- ---- all of them

module _ (ls : List Line) (s : FirstFault) (L : LooksThrough ls s) where
  -- two lines that say the same have the same fault but for 40 and 41, and these are not repeated: the line behind those that are good repeats none that is within itself
  own-repeated : (i j : ℕ) → (line_at ls j).fault ≡ 0 → own_fault (line_at ls i) ≡ 0 → same_line (line_at ls i) (line_at ls j) ≡ true → own_fault (line_at ls j) ≡ 0
  unfolding own_fault
  own-repeated i j f e same =
      let k = same-eq (line_key (line_at ls i)) (line_key (line_at ls j)) same in
      let form : (line_at ls i).form ≡ (line_at ls j).form = cc k in
      let a : (line_at ls i).first ≡ (line_at ls j).first = cc k in
      let b : (line_at ls i).second ≡ (line_at ls j).second = cc k in
      let w : within_itself (line_at ls j) ≡ false = (λ x. eqb (sym form x - 4) 2 && eqb (sym a x) (sym b x)) ∙ (own-good (line_at ls i) e).1 in
      else-none _ _ f ∙ line-none 14 _ 0 w refl

  module _ (r : ℕ) (x : FirstStanding (λ i. says_this ls i (line_at ls i)) s.count r) where
    fine : (i : ℕ) → i < s.count → i < r → line_fault ls i ≡ 0
    fine i h g = line-has-none ls i (L.good i h) (x.before i g)

    pub refused-42 : r < s.count → record { number = 42; sheet = 0; row = r } ≡ lines_fault ls
    unfolding lines_fault
    refused-42 h =
        let e = line-repeats ls r (L.good r h) (x.found h) in
        let d = L.inside in
        then-some-is _ _ _ ((λ i. record { number = sym e i; sheet = 0; row = r }) ∙ first-row-refuses 0 (line_fault ls) (length ls) r (omega arith) (λ j g. fine j (omega arith) g) (λ z. omega (arith, e, z))) (λ z. omega (arith, z))

    module _ (none-repeats : s.count ≤ r) where
      all-fine : (i : ℕ) → i < s.count → line_fault ls i ≡ 0
      all-fine i h = fine i h (omega arith)

      pub refused-own : (fault_told s.fault ≡ 0 → ⊥) → record { number = fault_told s.fault; sheet = 0; row = s.count } ≡ lines_fault ls
      unfolding lines_fault says_this
      refused-own h =
          let t = L.stopped h in
          let e : line_fault ls s.count ≡ fault_told s.fault = own (eqb (line_at ls s.count).fault 0) refl ∙ sym t.1 in
          then-some-is _ _ _ ((λ i. record { number = sym e i; sheet = 0; row = s.count }) ∙ first-row-refuses 0 (line_fault ls) (length ls) s.count t.0 all-fine (λ z. h (sym e ∙ z))) h
        where
          unrepeated : (line_at ls s.count).fault ≡ 0 → says_this ls s.count (line_at ls s.count) ≡ false
          unrepeated f = some-none _ s.count (λ j g. go j g (same_line (line_at ls j) (line_at ls s.count)) refl)
            where
              go : (j : ℕ) → j < s.count → (b : Bool) → same_line (line_at ls j) (line_at ls s.count) ≡ b → same_line (line_at ls j) (line_at ls s.count) ≡ false
              go j g false q = q
              go j g true q = absurd (h ((L.stopped h).1 ∙ own-repeated j s.count f (L.good j g) q))

          own : (b : Bool) → eqb (line_at ls s.count).fault 0 ≡ b → line_fault ls s.count ≡ own_fault (line_at ls s.count)
          own true q = line-own ls s.count (unrepeated (eqb-true _ 0 q))
          own false q = line-bad ls s.count (λ z. true≢false (sym (eq-eqb _ 0 z) ∙ q))

      module _ (whole : fault_told s.fault ≡ 0) where
        none-of-line : first_row 0 (line_fault ls) 0 (length ls) ≡ none
        none-of-line = rows_none 0 (line_fault ls) (length ls) (λ j h. all-fine j (omega (arith, L.through whole)))

        module _ (q : ℕ) (y : FirstStanding (λ i. lacks_end ls s.count (line_at ls i)) s.count q) where
          in_all : (i : ℕ) (b : Bool) → lacks_end ls s.count (line_at ls i) ≡ b → lacks_end ls (length ls) (line_at ls i) ≡ b
          in_all i b e = ap (λ (n : ℕ). lacks_end ls n (line_at ls i)) (sym (L.through whole)) ∙ e

          pub refused-43 : q < s.count → record { number = 43; sheet = 0; row = q } ≡ lines_fault ls
          unfolding lines_fault
          refused-43 h =
              let e = end-lacking ls q (in_all q true (y.found h)) in
              then-none-is none _ _ _ (sym none-of-line) refl
              (then-some-is _ _ _ ((λ i. record { number = sym e i; sheet = 0; row = q }) ∙ first-row-refuses 0 (end_fault ls) (length ls) q (omega (arith, L.through whole)) (λ j g. end-there ls j (in_all j false (y.before j g))) (λ z. omega (arith, e, z))) (λ z. omega (arith, z)))

          pub none-but-4 : s.count ≤ q → refuse (count_fault ls) 0 0 none ≡ lines_fault ls
          unfolding lines_fault
          none-but-4 h =
              let l = L.through whole in
              then-none-is none _ _ _ (sym none-of-line) refl
              (then-none-is none _ _ _ (sym (rows_none 0 (end_fault ls) (length ls) (λ j g. end-there ls j (in_all j false (y.before j (omega arith)))))) refl refl)

-- ---- a text that is refused

pub refuses-text : (text out : List ℕ) (v : Refusal) (a : Listing) → v ≡ listing_fault text → (v.number ≡ 0 → ⊥) → a ≡ reply_refused v → ReadsListing text out a out
refuses-text text out v a e h q =
    record {
      sheet = [];
      means = λ z. absurd (h (ap (λ (x : Refusal). x.number) e ∙ z));
      gives = subst (λ (b : Listing). GivesListing (listing_fault text) [] out b out) (sym q) (gives_as v (listing_fault text) [] out v 0 out e (gives-refused [] out v h));
    }

-- ---- how many

pub both_halves : (ls : List Line) → edge_lines ls + node_lines ls ≡ length ls
unfolding node_lines edge_lines
both_halves ls = many-not (λ i. is_node_line (line_at ls i)) (length ls)

-- ---- too many rows

module _ (n e : ℕ) where
  pub many-nodes : max_nodes < n → too_many_rows n e ≡ true
  many-nodes h = rw (lt-ltb max_nodes n h) refl

  pub many-edges : n ≤ max_nodes → max_edges 1 < e → too_many_rows n e ≡ true
  many-edges g h = rw (le-ltb max_nodes n g, lt-ltb (max_edges 1) e h) refl

  pub rows_fit : n ≤ max_nodes → e ≤ max_edges 1 → too_many_rows n e ≡ false
  rows_fit g h = rw (le-ltb max_nodes n g, le-ltb (max_edges 1) e h) refl

  -- more rows than are sorted are too many
  pub over-sorted : (m : ℕ) → e + n ≡ m → most_sorted < m → too_many_rows n e ≡ true
  unfolding max_edges
  over-sorted m q h = go (dec_lt max_nodes n)
    where
      go : Dec (max_nodes < n) → too_many_rows n e ≡ true
      go (yes l) = many-nodes l
      go (no l) = many-edges (omega arith) (omega arith)
