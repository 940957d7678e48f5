-- Rows as words and words as rows, of node rows and edge rows alike: what is stored is read again, and what stands before it stays.
-- Assumes nothing.
use Prim.Native.Nat.{ℕ, zero, suc, ◌+◌, ◌<◌, ◌≤◌}
use mathlib.Core.Path.{◌≡◌, refl, sym, ap, ◌∙◌}
use mathlib.Core.List.{List, ◌++◌}
use native.Mathlib.Omega.{arith}
use native.Mathlib.Nat.{add-zero}
use lib.ListN.{length, get_or, drop, take, length-append, length-drop, get_or-append}
use lib.Seq.{sets, sets-eq, take_at, drop-append-add, drop-drop, get_or-append-add}
use Rattle.sheet.specs.declared.Cells.{Cells}
use Rattle.sheet.specs.declared.Edge.{Edge}
use Rattle.sheet.specs.declared.Half.{Half}
use Rattle.sheet.specs.declared.Half.TheVariants.{Nodes, Edges}
use Rattle.sheet.specs.declared.Header.{Header}
use Rattle.sheet.specs.Limits.{edge_words, edge_place}
use Rattle.sheet.specs.Rows.{word, edge_at, cells_from, cells_in, row_words, row_place}
use Rattle.sheet.specs.Stored.{stored}
use Rattle.sheet.proofs.Widths.{place-next, words-low}

-- an edge row's words are those of its cells
pub edge-cells : (h : Header) (t : List ℕ) (j : ℕ) → edge_at h t j ≡ record { kind = (cells_in Edges h.form t j).first; from = (cells_in Edges h.form t j).second; to = (cells_in Edges h.form t j).third; offices = (cells_in Edges h.form t j).offices }
unfolding edge_at cells_in cells_from
edge-cells h t j = refl

-- two edge rows that are one have the same words
pub edge-row-words : (h : Header) (t u : List ℕ) (j : ℕ) → edge_at h t j ≡ edge_at h u j → (c : ℕ) → c < edge_words h.form → word t (edge_place h.form j + c) ≡ word u (edge_place h.form j + c)
unfolding edge_at edge_words
edge-row-words h t u j e zero l = rw add-zero (ap (λ (x : Edge). x.kind) e)
edge-row-words h t u j e (suc zero) l = ap (λ (x : Edge). x.from) e
edge-row-words h t u j e (suc (suc zero)) l = ap (λ (x : Edge). x.to) e
edge-row-words h t u j e (suc (suc (suc zero))) l = ap (λ (x : Edge). x.offices) e
edge-row-words h t u j e (suc (suc (suc (suc c)))) l = absurd (omega arith)

module _ (half : Half) (form : ℕ) where
  pub stored-long : (c : Cells) → length (stored half form c) ≡ row_words half form
  unfolding stored edge_words
  stored-long c = go half
    where
      go : (x : Half) → length (stored x form c) ≡ row_words x form
      go Nodes = refl
      go Edges = refl

  -- a row stays where more is written behind it
  pub cells-kept : (ws vs : List ℕ) (u : ℕ) → row_place half form u + row_words half form ≤ length ws → cells_in half form (ws ++ vs) u ≡ cells_in half form ws u
  unfolding cells_in cells_from
  cells-kept ws vs u h =
      let w = words-low half form in
      rw (
        get_or-append ws vs 0 (row_place half form u) (omega arith),
        get_or-append ws vs 0 (row_place half form u + 1) (omega arith),
        get_or-append ws vs 0 (row_place half form u + 2) (omega arith),
        get_or-append ws vs 0 (row_place half form u + 3) (omega arith),
      ) refl

  -- a row that is stored is read again
  pub cells-new : (ws : List ℕ) (c : Cells) (k : ℕ) → length ws ≡ row_place half form k → cells_in half form (ws ++ stored half form c) k ≡ c
  unfolding cells_in cells_from stored
  cells-new ws c k l =
      let at : (x : ℕ) → get_or (ws ++ stored half form c) (row_place half form k + x) 0 ≡ get_or (stored half form c) x 0 = (λ x. ap (λ (y : ℕ). get_or (ws ++ stored half form c) (y + x) 0) (sym l) ∙ get_or-append-add ws (stored half form c) x 0) in
      let a = ap (λ (y : ℕ). get_or (ws ++ stored half form c) y 0) (sym (add-zero (row_place half form k))) ∙ at 0 in
      let b = at 1 in
      let d = at 2 in
      let e = at 3 in
      λ i. record { first = a i; second = b i; third = d i; offices = e i }

  -- a row stored behind the others
  pub stored_on : (words out out₀ : List ℕ) (k : ℕ) (c : Cells) → length words ≡ row_place half form k → out ≡ words ++ drop (row_place half form k) out₀ → row_place half form k + row_words half form ≤ length out₀
      → sets out (row_place half form k) (stored half form c) ≡ (words ++ stored half form c) ++ drop (row_place half form (k + 1)) out₀
  stored_on words out out₀ k c l q h =
      let at = row_place half form k in
      let wide = row_words half form in
      let m = stored-long c in
      let long : length out ≡ length out₀ = ap length q ∙ length-append words (drop at out₀) ∙ omega (arith, length-drop at out₀) in
      let a : take at out ≡ words = ap (take at) q ∙ take_at words (drop at out₀) at l in
      let n : at + length (stored half form c) ≡ length words + wide = omega arith in
      let b : drop (at + length (stored half form c)) out ≡ drop (row_place half form (k + 1)) out₀ =
      ap (λ (x : ℕ). drop x out) n ∙ ap (drop (length words + wide)) q ∙ drop-append-add words (drop at out₀) wide ∙ drop-drop wide at out₀ ∙ ap (λ (x : ℕ). drop x out₀) (sym (place-next half form k)) in
      sets-eq (stored half form c) out at (omega arith) ∙ rw (a, b) refl
