-- Lines in a table of rows of four words: filling it, and finding a line by its order.
-- Assumes nothing.
use Prim.Native.Nat.{ℕ, ◌+◌, ◌*◌, ◌<◌, ◌≤◌}
use mathlib.Core.Path.{◌≡◌, refl, sym, ap, subst, ◌∙◌}
use mathlib.Core.Bool.{Bool, true, false, not}
use mathlib.Core.List.{List, [], ◌∷◌, ◌++◌}
use native.Mathlib.Omega.{arith}
use lib.ListN.{length, get_or, take, length-append, get_or-append}
use lib.Seq.{sets, sets-eq, get_or-append-add, get_or-take, length-take-le}
use borrow.Author.Count.{below_more}
use Rattle.tables.specs.Count.{FirstStanding}
use Rattle.tables.specs.Key.{same_key}
use Rattle.tables.proofs.Counts.{some_at, some-none, seek-known, seek-unknown}
use Rattle.std.specs.Prelude.{Option, Some, None, is_some}
use Rattle.std.specs.Option.{unwrap_or}
use Rattle.sheet.specs.Found.{FirstAt}
use Rattle.lines.specs.declared.Line.{Line}
use Rattle.lines.specs.Naming.{is_node_line, from_line, to_line, line_key, same_line}
use Rattle.sorting.specs.Sorted.{most_sorted, four_at, four_of}
use Rattle.sorting.specs.declared.Four.{Four}
use Rattle.listing.specs.Cut.{line_at}
use Rattle.listing.specs.Faults.{says_this}
use Rattle.listing.specs.LineByLine.{InTable, Tabled, lacks_end}

-- ---- filling

module _ (rows vs : List ℕ) (at : ℕ) (room : at + length vs ≤ length rows) where
  taken-long : length (take at rows) ≡ at
  taken-long = length-take-le at rows (omega arith)

  word_kept : (x : ℕ) → x < at → get_or (sets rows at vs) x 0 ≡ get_or rows x 0
  word_kept x h =
      ap (λ (l : List ℕ). get_or l x 0) (sets-eq vs rows at room) ∙ get_or-append (take at rows ++ vs) _ 0 x (omega (arith, length-append (take at rows) vs, taken-long))
      ∙ get_or-append (take at rows) vs 0 x (omega (arith, taken-long)) ∙ get_or-take at rows x 0 h

  word-new : (x : ℕ) → x < length vs → get_or (sets rows at vs) (at + x) 0 ≡ get_or vs x 0
  word-new x h =
      ap (λ (l : List ℕ). get_or l (at + x) 0) (sets-eq vs rows at room) ∙ get_or-append (take at rows ++ vs) _ 0 (at + x) (omega (arith, length-append (take at rows) vs, taken-long))
      ∙ ap (λ (n : ℕ). get_or (take at rows ++ vs) (n + x) 0) (sym taken-long) ∙ get_or-append-add (take at rows) vs x 0

module _ (ls : List Line) (rows : List ℕ) (i : ℕ) (l : Line) (room : 4 * i + 4 ≤ length rows) where
  row_kept : (j : ℕ) → j < i → four_at (sets rows (4 * i) (line_key l)) j ≡ four_at rows j
  unfolding four_at
  row_kept j h =
      let a = word_kept rows (line_key l) (4 * i) room (4 * j) (omega arith) in
      let b = word_kept rows (line_key l) (4 * i) room (4 * j + 1) (omega arith) in
      let c = word_kept rows (line_key l) (4 * i) room (4 * j + 2) (omega arith) in
      let d = word_kept rows (line_key l) (4 * i) room (4 * j + 3) (omega arith) in
      λ k. a k ∷ b k ∷ c k ∷ d k ∷ []

  row_new : four_at (sets rows (4 * i) (line_key l)) i ≡ line_key l
  unfolding four_at
  row_new =
      let z : 4 * i + 0 ≡ 4 * i = omega arith in
      let a = ap (λ (n : ℕ). get_or (sets rows (4 * i) (line_key l)) n 0) (sym z) ∙ word-new rows (line_key l) (4 * i) room 0 (omega arith) in
      let b = word-new rows (line_key l) (4 * i) room 1 (omega arith) in
      let c = word-new rows (line_key l) (4 * i) room 2 (omega arith) in
      let d = word-new rows (line_key l) (4 * i) room 3 (omega arith) in
      λ k. a k ∷ b k ∷ c k ∷ d k ∷ []

  pub table_more : InTable ls i rows → l ≡ line_at ls i → InTable ls (i + 1) (sets rows (4 * i) (line_key l))
  table_more t e = below_more _ i (λ j h. row_kept j h ∙ t j h) (row_new ∙ ap line_key e)

-- ---- finding

-- a test that is the same finds the same
standing-as : (f g : ℕ → Bool) (n r : ℕ) → ((j : ℕ) → j < n → f j ≡ g j) → FirstStanding f n r → FirstStanding g n r
standing-as f g n r e x = let m = x.most in record { most = m; before = λ i h. sym (e i (omega arith)) ∙ x.before i h; found = λ h. sym (e r h) ∙ x.found h }

first-as : (f g : ℕ → Bool) (n : ℕ) (p : Option ℕ) → ((j : ℕ) → j < n → f j ≡ g j) → FirstAt f n p → FirstAt g n p
first-as f g n None e x = standing-as f g n n e x
first-as f g n (Some r) e x = (x.0, standing-as f g n r e x.1)

module _ (ls : List Line) (count : ℕ) (rows order : List ℕ) (T : Tabled ls count rows order) where
  pub found-in-order : count ≤ most_sorted → (l : Line) (w : Four) (p : Option ℕ) → four_of w ≡ line_key l → FirstAt (λ i. same_key (four_at rows i) (four_of w)) (length order) p
      → FirstAt (λ j. same_line (line_at ls j) l) count p
  found-in-order few l w p e x =
      let y = subst (λ (n : ℕ). FirstAt (λ i. same_key (four_at rows i) (four_of w)) n p) (T.long few) x in
      first-as _ _ count p (λ j h. (λ k. same_key (T.filled few j h k) (e k))) y

module _ (ls : List Line) (count i : ℕ) (h : i < count) (l : Line) (e : l ≡ line_at ls i) where
  -- an earlier line says the same, or none does
  pub is-repeated : (p : Option ℕ) → FirstAt (λ j. same_line (line_at ls j) l) count p → unwrap_or p i < i → says_this ls i (line_at ls i) ≡ true
  unfolding says_this
  is-repeated None x g = absurd (omega arith)
  is-repeated (Some r) x g = rw (← e) (some_at _ i r g (x.1.found x.0))

  pub not-repeated : (p : Option ℕ) → FirstAt (λ j. same_line (line_at ls j) l) count p → i ≤ unwrap_or p i → says_this ls i (line_at ls i) ≡ false
  unfolding says_this
  not-repeated None x g = rw (← e) (some-none _ i (λ j d. x.before j (omega arith)))
  not-repeated (Some r) x g = rw (← e) (some-none _ i (λ j d. x.1.before j (omega arith)))

-- what is not the one is the other
pub not-swap : (a b : Bool) → a ≡ not b → b ≡ not a
not-swap a true e = rw e refl
not-swap a false e = rw e refl

-- a search finds a line exactly if it is there
pub says-told : (ls : List Line) (count : ℕ) (l : Line) (p : Option ℕ) → FirstAt (λ j. same_line (line_at ls j) l) count p → is_some p ≡ says_this ls count l
unfolding says_this
says-told ls count l None x = sym (seek-unknown _ count count x (omega arith))
says-told ls count l (Some r) x = sym (seek-known _ count r x.1 x.0)

module _ (ls : List Line) (count : ℕ) (l : Line) where
  pub lacks-none : is_node_line l ≡ true → false ≡ lacks_end ls count l
  lacks-none e = rw e refl

  module _ (edge : is_node_line l ≡ false) (from : Line) (f : from ≡ from_line l) (p : Option ℕ) (x : FirstAt (λ j. same_line (line_at ls j) from) count p) where
    pub lacks-from : is_some p ≡ false → true ≡ lacks_end ls count l
    lacks-from h = let s = ap (says_this ls count) (sym f) ∙ sym (says-told ls count from p x) ∙ h in rw (edge, s) refl

    pub lacks-to : is_some p ≡ true → (to : Line) → to ≡ to_line l → (q : Option ℕ) → FirstAt (λ j. same_line (line_at ls j) to) count q → not (is_some q) ≡ lacks_end ls count l
    lacks-to h to g q y =
        let s = ap (says_this ls count) (sym f) ∙ sym (says-told ls count from p x) ∙ h in
        ap not (says-told ls count to q y) ∙ ap (λ (z : Line). not (says_this ls count z)) g ∙ rw (edge, s) refl
