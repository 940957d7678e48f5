-- Combinations of the same tables are the same rows, as many as the rule keeps: the marks at every key decide a rising table.
-- Assumes nothing.
use Prim.Native.Nat.{ℕ, ◌^◌, ◌<◌}
use mathlib.Core.Path.{◌≡◌, refl, sym, ap, ap₂, ◌∙◌}
use mathlib.Core.Bool.{true}
use mathlib.Core.List.{List, [], ◌∷◌}
use native.Mathlib.Omega.{arith}
use Rattle.tables.specs.Key.{Key, below_key}
use Rattle.tables.specs.Table.{Row, rows_of, marks_at, Rise}
use Rattle.tables.proofs.Alike.{alike}
use Rattle.tables.proofs.Keys.{one-row}
use Rattle.tables.proofs.Tables.{marks-none, marks-named, rows-rise, rows_same}
use Rattle.sheet.specs.declared.Header.{Header}
use Rattle.sheet.specs.Found.{PlaceIs}
use Rattle.sheet.specs.declared.Half.{Half}
use Rattle.combine.specs.declared.Rule.{Rule}
use Rattle.combine.specs.Combined.{Making, keys, IsTable, Combined, rows_kept}
use Rattle.combine.specs.Rules.{makes, Sound}
use Rattle.combine.specs.Halves.{Inputs, HalfIs}
use Rattle.combine.proofs.Combining.{combination}
use Rattle.combine.proofs.Reading.{half-low, half-named}

not-empty : (k : Key) → (k ≡ [] → ⊥) → below_key [] k ≡ true
not-empty [] h = absurd (h refl)
not-empty (x ∷ k) h = refl

module _ (F : Making) (n : ℕ) (f : ℕ → Row) (m : ℕ) (g : ℕ → Row) (top : ℕ) (none : F 0 0 ≡ 0) (low : (key : Key) → F (marks_at (rows_of n f) key) (marks_at (rows_of m g) key) < top)
    (first : (i : ℕ) → i < n → (f i).key ≡ [] → ⊥) (second : (j : ℕ) → j < m → (g j).key ≡ [] → ⊥) where
  combined-rises : (k : ℕ) (h : ℕ → Row) → Combined F n f m g k h → Rise top [] (rows_of k h)
  combined-rises k h C =
      rows-rise top [] k h (λ l. not-empty (h 0).key (λ e. absurd (omega (arith, C.table.some 0 l, here 0 l, ap (λ (y : Key). F (marks_at (rows_of n f) y) (marks_at (rows_of m g) y)) e, bare))))
      C.table.up (λ u l. (C.table.some u l, omega (arith, here u l, low (h u).key)))
    where
      bare : F (marks_at (rows_of n f) []) (marks_at (rows_of m g) []) ≡ 0
      bare = ap₂ F (marks-none n f [] first) (marks-none m g [] second) ∙ none

      here : (u : ℕ) → u < k → (h u).marks ≡ F (marks_at (rows_of n f) (h u).key) (marks_at (rows_of m g) (h u).key)
      here u l = sym (marks-named k h (one-row (keys h) k C.table.up) (h u).key u l refl) ∙ C.marks (h u).key

  pub combined-one : (k k' : ℕ) (h h' : ℕ → Row) → Combined F n f m g k h → Combined F n f m g k' h' → (k ≡ k') × ((u : ℕ) → u < k → h u ≡ h' u)
  combined-one k k' h h' C D = rows_same k k' h h' (alike top top [] (rows_of k h) (rows_of k' h') (combined-rises k h C) (combined-rises k' h' D) (λ key. C.marks key ∙ sym (D.marks key)))

  -- whatever has the combination's marks has its count
  pub combined-count : IsTable n f → IsTable m g → (k : ℕ) (h : ℕ → Row) → Combined F n f m g k h → k ≡ rows_kept F n f m g
  combined-count A B k h C = let U = combination F none n f A m g B in (combined-one k U.rows h U.row C U.combined).0 ∙ U.count

-- of a half of two sheets
pub half-one : (rule : Rule) (half : Half) (a : List ℕ) (h : Header) (b : List ℕ) (g : Header) → Inputs a h b g rule → (c : ℕ) → Sound (makes rule) h.offices g.offices c → (k k' : ℕ) (row row' : ℕ → Row) → HalfIs rule half a h b g k row → HalfIs rule half a h b g k' row'
    → (k ≡ k') × ((u : ℕ) → u < k → row u ≡ row' u)
half-one rule half a h b g I c S k k' row row' =
    combined-one (makes rule) _ _ _ _ (2 ^ c) S.none (λ key. S.fits _ _ (half-low a h I.first half key) (half-low b g I.second half key))
    (λ i l. half-named half a i) (λ j l. half-named half b j) k k' row row'

-- a place among rows is the place among the same rows
pub place-alike : (row row' : ℕ → Row) (n : ℕ) (key : Key) (i : ℕ) → ((u : ℕ) → u < n → row u ≡ row' u) → PlaceIs (keys row) n key i → PlaceIs (keys row') n key i
place-alike row row' n key i same p =
    record {
      inside = p.inside;
      before = λ j l. ap (λ (x : Row). below_key x.key key) (sym (same j (omega (arith, p.inside)))) ∙ p.before j l;
      after = λ j l d. ap (λ (x : Row). below_key x.key key) (sym (same j d)) ∙ p.after j l d;
    }
