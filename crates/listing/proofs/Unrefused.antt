-- Lines that are not refused, in facts: no line has a fault of its own, no two say the same, each end has its node line, and they are few enough.
-- Assumes nothing.
use Prim.Native.Nat.{ℕ, zero, suc, ◌<◌}
use mathlib.Core.Path.{◌≡◌, refl, sym, ◌∙◌}
use mathlib.Core.Bool.{Bool, true, false, true≢false}
use mathlib.Core.List.{List, [], ◌∷◌, ◌++◌}
use native.Mathlib.Omega.{arith}
use native.Mathlib.Decide.{dec_lt}
use lib.ListN.{length}
use Rattle.tables.specs.Count.{some_row}
use Rattle.tables.proofs.Counts.{some_at, some-none}
use Rattle.tables.proofs.Keys.{eq-same}
use Rattle.sheet.specs.Refusals.{none, first_row}
use Rattle.sheet.proofs.Refusing.{line-good, line-none, else-good, else-none, refuse-good, refuse-none, then-good, then-none, rows-good, rows_none}
use Rattle.lines.specs.declared.Line.{Line}
use Rattle.lines.specs.Naming.{within_itself, line_key, same_line}
use Rattle.lines.proofs.Back.{GoodLine}
use Rattle.lines.proofs.Faultless.{said-good}
use Rattle.listing.specs.Cut.{cut_up, each_said, unended, lines_said, line_at}
use Rattle.listing.specs.Faults.{says_this, line_fault, end_fault, count_fault, lines_fault}
use Rattle.listing.specs.LineByLine.{own_fault, lacks_end}

-- lines that nothing refuses
pub record Unrefused (ls : List Line) : Type 0 where
  pub own : (i : ℕ) → i < length ls → own_fault (line_at ls i) ≡ 0
  pub once : (i j : ℕ) → j < i → i < length ls → same_line (line_at ls j) (line_at ls i) ≡ false
  pub ends : (i : ℕ) → i < length ls → lacks_end ls (length ls) (line_at ls i) ≡ false
  pub few : count_fault ls ≡ 0

-- a test that passes nowhere does not pass here
pub false-at : (p : ℕ → Bool) (n i : ℕ) → i < n → some_row p n ≡ false → p i ≡ false
false-at p n i h e = go (p i) refl
  where
    go : (b : Bool) → p i ≡ b → b ≡ false
    go true q = absurd (true≢false (sym (some_at p n i h q) ∙ e))
    go false q = refl

module _ (ls : List Line) where
  -- the three tests of a line
  line-unrefused : (i : ℕ) → line_fault ls i ≡ 0 → ((line_at ls i).fault ≡ 0) × (says_this ls i (line_at ls i) ≡ false) × (within_itself (line_at ls i) ≡ false)
  unfolding line_fault
  line-unrefused i e =
      let x = else-good (line_at ls i).fault _ e in
      let y = line-good 42 (says_this ls i (line_at ls i)) _ tt x.1 in
      (x.0, y.0, (line-good 14 (within_itself (line_at ls i)) 0 tt y.1).0)

  pub unrefused : (lines_fault ls).number ≡ 0 → Unrefused ls
  unfolding lines_fault end_fault says_this own_fault
  unrefused e =
      let a = then-good (first_row 0 (line_fault ls) 0 (length ls)) _ e in
      let b = then-good (first_row 0 (end_fault ls) 0 (length ls)) _ a.1 in
      let clear : (i : ℕ) → i < length ls → line_fault ls i ≡ 0 = rows-good 0 (line_fault ls) (length ls) a.0 in
      record {
        own = λ i h. let l = line-unrefused i (clear i h) in else-none (line_at ls i).fault _ l.0 ∙ line-none 14 _ 0 l.2 refl;
        once = λ i j g h. false-at (λ k. same_line (line_at ls k) (line_at ls i)) i j g (line-unrefused i (clear i h)).1;
        ends = λ i h. (line-good 43 (lacks_end ls (length ls) (line_at ls i)) 0 tt (rows-good 0 (end_fault ls) (length ls) b.0 i h)).0;
        few = (refuse-good (count_fault ls) 0 0 none b.1).0;
      }

  -- and back
  module _ (u : Unrefused ls) where
    line-none-at : (i : ℕ) → i < length ls → line_fault ls i ≡ 0
    unfolding line_fault says_this own_fault
    line-none-at i h =
        let o = else-good (line_at ls i).fault _ (u.own i h) in
        else-none (line_at ls i).fault _ o.0 ∙ line-none 42 _ _ (some-none _ i (λ j g. u.once i j g h)) o.1

    pub unrefused-none : lines_fault ls ≡ none
    unfolding lines_fault end_fault
    unrefused-none =
        then-none _ _ (rows_none 0 (line_fault ls) (length ls) line-none-at)
        ∙ then-none _ _ (rows_none 0 (end_fault ls) (length ls) (λ i h. line-none 43 _ 0 (u.ends i h) refl))
        ∙ refuse-none (count_fault ls) 0 0 none u.few

    -- each line is without a fault, and no other line says the same
    pub faultless-at : (i : ℕ) → i < length ls → (line_at ls i).fault ≡ 0
    unfolding own_fault
    faultless-at i h = (else-good (line_at ls i).fault _ (u.own i h)).0

    pub line-once : (i j : ℕ) → i < length ls → j < length ls → line_key (line_at ls i) ≡ line_key (line_at ls j) → i ≡ j
    line-once i j g h e = go (dec_lt i j) (dec_lt j i)
      where
        go : Dec (i < j) → Dec (j < i) → i ≡ j
        go (yes l) d = absurd (true≢false (sym (eq-same (line_key (line_at ls i)) (line_key (line_at ls j)) e) ∙ u.once j i l h))
        go (no l) (yes d) = absurd (true≢false (sym (eq-same (line_key (line_at ls j)) (line_key (line_at ls i)) (sym e)) ∙ u.once i j d g))
        go (no l) (no d) = omega arith

-- ---- the lines of a text: one without a fault is good

each-said-good : (ls : List (List ℕ)) (rest : List Line) → ((i : ℕ) → (line_at rest i).fault ≡ 0 → GoodLine (line_at rest i)) → (i : ℕ) → (line_at (each_said ls ++ rest) i).fault ≡ 0 → GoodLine (line_at (each_said ls ++ rest) i)
each-said-good [] rest more i e = more i e
each-said-good (l ∷ ls) rest more zero e = said-good l e
each-said-good (l ∷ ls) rest more (suc i) e = each-said-good ls rest more i e

unended-faulty : (left : List ℕ) (i : ℕ) → (line_at (unended left) i).fault ≡ 40
unended-faulty [] i = refl
unended-faulty (b ∷ t) zero = refl
unended-faulty (b ∷ t) (suc i) = refl

pub text-line-good : (text : List ℕ) (i : ℕ) → (line_at (lines_said text) i).fault ≡ 0 → GoodLine (line_at (lines_said text) i)
unfolding lines_said
text-line-good text = each-said-good (cut_up text).ended (unended (cut_up text).left) (λ i e. absurd (omega (arith, e, unended-faulty (cut_up text).left i)))
