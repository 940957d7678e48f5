-- A pattern with its numbers put in, character by character, as the writer's loop puts it.
-- Assumes nothing.
use Prim.Native.Nat.{ℕ, zero, suc, ◌*◌, ◌≤◌, ◌+◌, ◌-◌, ◌<◌}
use mathlib.Core.Path.{◌≡◌, refl, sym, ap, ◌∙◌}
use mathlib.Core.Bool.{Bool, true, false, cond, not, ◌&&◌, ◌||◌}
use mathlib.Core.List.{List, [], ◌∷◌, ◌++◌, append_assoc}
use native.Mathlib.Omega.{arith}
use native.Mathlib.Numerals.{add-one}
use lib.ListN.{length, drop, get_or, set, drop_of_length-le}
use lib.Seq.{drop-cons, drop-drop, length-sets}
use Rattle.text.specs.Growing.{decimal, end_of_line, Grows}
use Rattle.text.proofs.Putting.{grows_then, grows-as}
use Rattle.lines.specs.declared.Line.{Line}
use Rattle.lines.specs.Nine.{nine, of_number, numbers_of, spelled_by, line_text, line_room}
use lib.Dec.{eqb}

-- ---- one character

append-nil : (l : List ℕ) → l ++ [] ≡ l
append-nil [] = refl
append-nil (x ∷ l) = ap (λ (t : List ℕ). x ∷ t) (append-nil l)

-- a character that stands for itself
pub plain-spelled : (p : ℕ) (ns : List ℕ) → of_number p ≡ false → spelled_by (p ∷ []) ns ≡ p ∷ []
unfolding spelled_by
plain-spelled p [] e = rw e
plain-spelled p (n ∷ ns) e = rw e

-- a mark, with a number left and with none
pub mark-spelled : (p n : ℕ) (ns : List ℕ) → of_number p ≡ true → spelled_by (p ∷ []) (n ∷ ns) ≡ decimal n
unfolding spelled_by
mark-spelled p n ns e = rw e (append-nil (decimal n))

pub mark-empty : (p : ℕ) → of_number p ≡ true → spelled_by (p ∷ []) [] ≡ []
unfolding spelled_by
mark-empty p e = rw e

-- what is behind it: a mark uses a number up
first_plain : (p : ℕ) (ps ns : List ℕ) → of_number p ≡ false → spelled_by (p ∷ ps) ns ≡ spelled_by (p ∷ []) ns ++ spelled_by ps ns
unfolding spelled_by
first_plain p ps [] e = rw e
first_plain p ps (n ∷ ns) e = rw e

first-mark : (p : ℕ) (ps ns : List ℕ) → of_number p ≡ true → spelled_by (p ∷ ps) ns ≡ spelled_by (p ∷ []) ns ++ spelled_by ps (drop 1 ns)
unfolding spelled_by
first-mark p ps [] e = rw e
first-mark p ps (n ∷ ns) e = rw e (ap (λ (x : List ℕ). x ++ spelled_by ps ns) (sym (append-nil (decimal n))))

-- ---- what one turn puts

module _ (p k at : ℕ) (ns out : List ℕ) where
  -- a character that stands for itself
  pub put-plain : of_number p ≡ false → Grows out at (spelled_by (p ∷ []) (drop k ns)) (at + 1) (set out at p)
  put-plain e = grows-as (sym (plain-spelled p (drop k ns) e)) (record { ends = refl; holds = refl })

  -- a mark behind the last number
  pub put-nothing : of_number p ≡ true → length ns ≤ k → Grows out at (spelled_by (p ∷ []) (drop k ns)) at out
  put-nothing e h = grows-as (sym (ap (spelled_by (p ∷ [])) (drop_of_length-le ns h) ∙ mark-empty p e)) (record { ends = omega arith; holds = refl })

  -- a mark
  pub put-decimal : of_number p ≡ true → k < length ns → (n r : ℕ) (out' : List ℕ) → n ≡ get_or ns k 0 → Grows out at ([] ++ decimal n) r out' → Grows out at (spelled_by (p ∷ []) (drop k ns)) r out'
  put-decimal e h n r out' q x = grows-as (ap decimal q ∙ sym (ap (spelled_by (p ∷ [])) (drop-cons ns k 0 h) ∙ mark-spelled p (get_or ns k 0) (drop (suc k) ns) e)) x

-- neither mark, and one of them
pub no-mark-here : (p : ℕ) → (not (eqb p 35) && not (eqb p 37)) ≡ true → of_number p ≡ false
no-mark-here p e = go (eqb p 35) (eqb p 37) e
  where
    go : (a b : Bool) → (not a && not b) ≡ true → (a || b) ≡ false
    go true b x = sym x
    go false true x = sym x
    go false false x = refl

pub mark-here : (p : ℕ) → (not (eqb p 35) && not (eqb p 37)) ≡ false → of_number p ≡ true
mark-here p e = go (eqb p 35) (eqb p 37) e
  where
    go : (a b : Bool) → (not a && not b) ≡ false → (a || b) ≡ true
    go true b x = refl
    go false true x = refl
    go false false x = sym x

-- the third number is the last
pub last-number : (l : Line) (k : ℕ) → k < 3 → (k ≡ 0 → ⊥) → (k ≡ 1 → ⊥) → l.third ≡ get_or (numbers_of l) k 0
last-number l k h a b = let e : k ≡ 2 = omega (arith, h, a, b) in rw e

-- ---- the loop

-- the first i characters were put, and used k numbers up: what was put, and what is to follow it
pub record Spelling (ps ns out : List ℕ) (i k at : ℕ) (out' : List ℕ) : Type 0 where
  pub put : List ℕ
  pub grows : Grows out 0 put at out'
  pub whole : put ++ spelled_by (drop i ps) (drop k ns) ≡ spelled_by ps ns

module _ (ps ns out : List ℕ) where
  pub spelling-starts : Spelling ps ns out 0 0 0 out
  spelling-starts = record { put = []; grows = record { ends = refl; holds = refl }; whole = refl }

  module _ (i k at r : ℕ) (o o' : List ℕ) (h : i < length ps) (x : Spelling ps ns out i k at o) (g : Grows o at (spelled_by (get_or ps i 0 ∷ []) (drop k ns)) r o') where
    further : (k' : ℕ) → spelled_by (get_or ps i 0 ∷ drop (suc i) ps) (drop k ns) ≡ spelled_by (get_or ps i 0 ∷ []) (drop k ns) ++ spelled_by (drop (suc i) ps) (drop k' ns) → Spelling ps ns out (i + 1) k' r o'
    further k' e =
        record {
          put = x.put ++ spelled_by (get_or ps i 0 ∷ []) (drop k ns);
          grows = grows_then x.grows g;
          whole =
              append_assoc x.put _ _
              ∙ ap (λ (t : List ℕ). x.put ++ t) (ap (λ (j : ℕ). spelled_by (get_or ps i 0 ∷ []) (drop k ns) ++ spelled_by (drop j ps) (drop k' ns)) (add-one i) ∙ sym e ∙ ap (λ (t : List ℕ). spelled_by t (drop k ns)) (sym (drop-cons ps i 0 h)))
              ∙ x.whole;
        }

    pub spelling-mark : of_number (get_or ps i 0) ≡ true → Spelling ps ns out (i + 1) (k + 1) r o'
    spelling-mark e = further (k + 1) (first-mark (get_or ps i 0) (drop (suc i) ps) (drop k ns) e ∙ ap (λ (t : List ℕ). spelled_by (get_or ps i 0 ∷ []) (drop k ns) ++ spelled_by (drop (suc i) ps) t) (drop-drop 1 k ns))

    pub spelling-plain : of_number (get_or ps i 0) ≡ false → Spelling ps ns out (i + 1) k r o'
    spelling-plain e = further k (first_plain (get_or ps i 0) (drop (suc i) ps) (drop k ns) e)

  pub spelling-done : (i k at : ℕ) (o : List ℕ) → length ps ≤ i → Spelling ps ns out i k at o → Grows out 0 (spelled_by ps ns) at o
  unfolding spelled_by
  spelling-done i k at o h x = grows-as (sym (append-nil x.put) ∙ ap (λ (t : List ℕ). x.put ++ spelled_by t (drop k ns)) (sym (drop_of_length-le ps h)) ∙ x.whole) x.grows

  pub spelling-long : (i k at : ℕ) (o : List ℕ) → Spelling ps ns out i k at o → length o ≡ length out
  spelling-long i k at o x = ap length x.grows.holds ∙ length-sets out 0 x.put

-- ---- the line feed, and the nine

spelled-ended : (ps ns : List ℕ) → spelled_by (ps ++ end_of_line) ns ≡ spelled_by ps ns ++ end_of_line
unfolding spelled_by
spelled-ended [] [] = refl
spelled-ended [] (n ∷ ns) = refl
spelled-ended (p ∷ ps) [] = go (of_number p) (spelled-ended ps [])
  where
    go : (b : Bool) → spelled_by (ps ++ end_of_line) [] ≡ spelled_by ps [] ++ end_of_line → cond b (spelled_by (ps ++ end_of_line) []) (p ∷ spelled_by (ps ++ end_of_line) []) ≡ cond b (spelled_by ps []) (p ∷ spelled_by ps []) ++ end_of_line
    go true e = e
    go false e = ap (λ (t : List ℕ). p ∷ t) e
spelled-ended (p ∷ ps) (n ∷ ns) = go (of_number p) (spelled-ended ps ns) (spelled-ended ps (n ∷ ns))
  where
    go : (b : Bool) → spelled_by (ps ++ end_of_line) ns ≡ spelled_by ps ns ++ end_of_line → spelled_by (ps ++ end_of_line) (n ∷ ns) ≡ spelled_by ps (n ∷ ns) ++ end_of_line
        → cond b (decimal n ++ spelled_by (ps ++ end_of_line) ns) (p ∷ spelled_by (ps ++ end_of_line) (n ∷ ns)) ≡ cond b (decimal n ++ spelled_by ps ns) (p ∷ spelled_by ps (n ∷ ns)) ++ end_of_line
    go true d e = ap (λ (t : List ℕ). decimal n ++ t) d ∙ sym (append_assoc (decimal n) (spelled_by ps ns) end_of_line)
    go false d e = ap (λ (t : List ℕ). p ∷ t) e

-- the longest pattern has 14 characters with its line feed
nine-short : (k : ℕ) → length (get_or nine k [] ++ end_of_line) ≤ 14
nine-short zero = omega arith
nine-short (suc zero) = omega arith
nine-short (suc (suc zero)) = omega arith
nine-short (suc (suc (suc zero))) = omega arith
nine-short (suc (suc (suc (suc zero)))) = omega arith
nine-short (suc (suc (suc (suc (suc zero))))) = omega arith
nine-short (suc (suc (suc (suc (suc (suc zero)))))) = omega arith
nine-short (suc (suc (suc (suc (suc (suc (suc zero))))))) = omega arith
nine-short (suc (suc (suc (suc (suc (suc (suc (suc zero)))))))) = omega arith
nine-short (suc (suc (suc (suc (suc (suc (suc (suc (suc k))))))))) = omega arith

-- a line of the form k, by the pattern of that form with its line feed
pub line-put : (l : Line) (k : ℕ) → l.form ≡ k → {out out' : List ℕ} {r : ℕ} → (r ≤ 10 * length (get_or nine (k - 1) [] ++ end_of_line)) × Grows out 0 (spelled_by (get_or nine (k - 1) [] ++ end_of_line) (numbers_of l)) r out'
    → (r ≤ line_room) × Grows out 0 (line_text l) r out'
unfolding line_text
line-put l k e x = (
  omega (arith, x.0, nine-short (k - 1)),
  grows-as (spelled-ended (get_or nine (k - 1) []) (numbers_of l) ∙ ap (λ (j : ℕ). spelled_by (get_or nine (j - 1) []) (numbers_of l) ++ end_of_line) (sym e)) x.1,
)

-- .. wherever it ends
pub line-grown : (l : Line) (k : ℕ) → l.form ≡ k → {out out' : List ℕ} {r : ℕ} → Grows out 0 (spelled_by (get_or nine (k - 1) [] ++ end_of_line) (numbers_of l)) r out' → Grows out 0 (line_text l) r out'
unfolding line_text
line-grown l k e x = grows-as (spelled-ended (get_or nine (k - 1) []) (numbers_of l) ∙ ap (λ (j : ℕ). spelled_by (get_or nine (j - 1) []) (numbers_of l) ++ end_of_line) (sym e)) x

-- a form that is none of the first eight is the last
pub not_yet : (k n : ℕ) → k ≤ n → (n ≡ k → ⊥) → suc k ≤ n
not_yet k n h a = omega (arith, h, a)

pub least-left : (n : ℕ) → 9 ≤ n → n ≤ 9 → n ≡ 9
least-left n a b = omega (arith, a, b)
