-- Tails of an output that are lent one after the other: what is written to the front of each stands behind what was written before.
-- Assumes nothing.
use Prim.Native.Nat.{ℕ, ◌+◌, ◌-◌, ◌≤◌}
use mathlib.Core.Path.{◌≡◌, sym, ap, ◌∙◌}
use mathlib.Core.List.{List, [], ◌++◌, append_assoc, append-nil}
use native.Mathlib.Omega.{arith}
use lib.ListN.{length, take, drop, length-append, length-drop, drop_of_length-le}
use lib.Seq.{sets, sets-eq, take_at, drop_at, drop-drop, length-take-le}
use Rattle.sheet.specs.declared.Half.TheVariants.{Nodes, Edges}
use Rattle.sheet.specs.Limits.{edges_from, sheet_words}
use Rattle.sheet.specs.Rows.{row_place}
use Rattle.sheet.specs.Stored.{header_six}
use Rattle.sheet.proofs.Built.{six, built-long}
use Rattle.sheet.proofs.Refusing.{from_on}

-- the tail of l, where its front p ends, is lent, and ws is written to its front
lent-front : (l p q ws t : List ℕ) (e : ℕ) → l ≡ p ++ q → length p ≡ e → t ≡ ws ++ drop (length ws) (take (length l - e) (drop e l))
    → take e l ++ (t ++ drop (length l - e) (drop e l)) ≡ (p ++ ws) ++ drop (length ws) q
lent-front l p q ws t e at long holds =
    let a : drop e l ≡ q = ap (drop e) at ∙ drop_at p q e long in
    let b : take e l ≡ p = ap (take e) at ∙ take_at p q e long in
    let c : take (length l - e) (drop e l) ≡ q = from_on l e ∙ a in
    let d : drop (length l - e) (drop e l) ≡ [] = drop_of_length-le (drop e l) {i = length l - e} (omega (arith, length-drop e l)) in
    let f : t ≡ ws ++ drop (length ws) q = holds ∙ ap (λ (x : List ℕ). ws ++ drop (length ws) x) c in
    (λ i. b i ++ (f i ++ d i)) ∙ ap (λ (x : List ℕ). p ++ x) (append-nil (ws ++ drop (length ws) q)) ∙ sym (append_assoc p ws (drop (length ws) q))

-- a tail that is lent after another was given back has the room that the output has
pub second-room : (l t : List ℕ) (d k q : ℕ) → d ≤ length l → length t ≡ length (take (length l - d) (drop d l)) → k + q ≤ length l
    → q ≤ length (take (length (take d l ++ (t ++ drop (length l - d) (drop d l))) - k) (drop k (take d l ++ (t ++ drop (length l - d) (drop d l)))))
second-room l t d k q g e h =
    let a = ap length (from_on l d) in
    let b = length-drop d l in
    let c = length-take-le d l g in
    let f = length-drop (length l - d) (drop d l) in
    let m = length-append (take d l) (t ++ drop (length l - d) (drop d l)) in
    let n = length-append t (drop (length l - d) (drop d l)) in
    let r = ap length (from_on (take d l ++ (t ++ drop (length l - d) (drop d l))) k) in
    let s = length-drop k (take d l ++ (t ++ drop (length l - d) (drop d l))) in
    omega arith

pub first-room : (form : ℕ) (l : List ℕ) (n e : ℕ) → sheet_words form n e ≤ length l → row_place Nodes form n ≤ length (take (length l - 6) (drop 6 l))
first-room form l n e h = omega (arith, ap length (from_on l 6), length-drop 6 l)

-- a header, then node rows and edge rows through the tails behind it
module _ (form c n e : ℕ) (out wn we : List ℕ) (node-long : length wn ≡ row_place Nodes form n) (edge-long : length we ≡ row_place Edges form e) (room : sheet_words form n e ≤ length out) where
  headed : (l : List ℕ) → l ≡ sets out 0 (header_six form c n e) → l ≡ header_six form c n e ++ drop 6 out
  unfolding header_six
  headed l first = first ∙ sets-eq (header_six form c n e) out 0 (omega arith)

  pub two-tails : (l t k u : List ℕ) → l ≡ sets out 0 (header_six form c n e) → t ≡ wn ++ drop (length wn) (take (length l - 6) (drop 6 l)) → k ≡ take 6 l ++ (t ++ drop (length l - 6) (drop 6 l))
      → u ≡ we ++ drop (length we) (take (length k - edges_from n) (drop (edges_from n) k))
      → take (edges_from n) k ++ (u ++ drop (length k - edges_from n) (drop (edges_from n) k)) ≡ (header_six form c n e ++ wn ++ we) ++ drop (length (header_six form c n e ++ wn ++ we)) out
  two-tails l t k u first node-tail second edge-tail =
      let s = second ∙ lent-front l (header_six form c n e) (drop 6 out) wn t 6 (headed l first) (six form c n e wn we node-long edge-long) node-tail in
      let long : length (header_six form c n e ++ wn) ≡ edges_from n = length-append (header_six form c n e) wn ∙ omega (arith, six form c n e wn we node-long edge-long) in
      let z : 6 + length wn + length we ≡ sheet_words form n e = omega arith in
      let all : length (header_six form c n e ++ wn ++ we) ≡ sheet_words form n e = built-long form c n e wn we node-long edge-long in
      lent-front k (header_six form c n e ++ wn) (drop (length wn) (drop 6 out)) we u (edges_from n) s long edge-tail
      ∙ ap (λ (x : List ℕ). header_six form c n e ++ wn ++ we ++ x) (ap (drop (length we)) (drop-drop (length wn) 6 out) ∙ drop-drop (length we) (6 + length wn) out ∙ ap (λ (x : ℕ). drop x out) (z ∙ sym all))
