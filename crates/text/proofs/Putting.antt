-- Bytes put behind the front of a text: the front grows by them, and puts that follow each other are one.
-- Assumes nothing.
use Prim.Native.Nat.{ℕ, suc, ◌+◌, ◌-◌, ◌≤◌}
use mathlib.Core.Path.{◌≡◌, refl, sym, ap, ◌∙◌}
use mathlib.Core.List.{List, [], ◌∷◌, ◌++◌, append_assoc}
use native.Mathlib.Omega.{arith}
use lib.ListN.{length, set, take, drop, length-append}
use lib.Seq.{sets, sets-eq, take_at, drop-drop}
use Rattle.text.specs.Growing.{Grows}

-- the text's part from `at` on, as long as the bytes, came back as t, which is the bytes
pub put-behind : (text bytes t : List ℕ) (at : ℕ) → at + length bytes ≤ length text → t ≡ bytes
    → Grows text at bytes (at + length bytes) (take at text ++ (t ++ drop (at + length bytes - at) (drop at text)))
put-behind text bytes t at room holds =
    let n : at + length bytes - at ≡ length bytes = omega arith in
    let rest : drop (at + length bytes - at) (drop at text) ≡ drop (at + length bytes) text = ap (λ (i : ℕ). drop i (drop at text)) n ∙ drop-drop (length bytes) at text in
    record {
      ends = refl;
      holds = ap (λ (y : List ℕ). take at text ++ (y ++ drop (at + length bytes - at) (drop at text))) holds
          ∙ ap (λ (y : List ℕ). take at text ++ (bytes ++ y)) rest
          ∙ sym (append_assoc (take at text) bytes (drop (at + length bytes) text))
          ∙ sym (sets-eq bytes text at room);
    }

-- one byte
pub grows-byte : (text : List ℕ) (at b : ℕ) → Grows text at (b ∷ []) (at + 1) (set text at b)
grows-byte text at b = record { ends = refl; holds = refl }

-- two bytes
pub grows-two : (text : List ℕ) (at b c : ℕ) → Grows text at (b ∷ c ∷ []) (at + 2) (set (set text at b) (at + 1) c)
grows-two text at b c = record { ends = refl; holds = ap (λ (i : ℕ). set (set text at b) i c) (omega arith) }

-- a run of stores, and the next run behind it
sets_then : (text : List ℕ) (at : ℕ) (a b : List ℕ) → sets (sets text at a) (at + length a) b ≡ sets text at (a ++ b)
sets_then text at [] b = ap (λ (i : ℕ). sets text i b) (omega arith)
sets_then text at (x ∷ a) b = let e : at + suc (length a) ≡ suc at + length a = omega arith in ap (λ (i : ℕ). sets (sets (set text at x) (suc at) a) i b) e ∙ sets_then (set text at x) (suc at) a b

-- what is put behind what was put
pub grows_then : {text t t' a b : List ℕ} {at r q : ℕ} → Grows text at a r t → Grows t r b q t' → Grows text at (a ++ b) q t'
grows_then {text} {t} {t'} {a} {b} {at} {r} {q} x y =
    record {
      ends = omega (arith, x.ends, y.ends, length-append a b);
      holds = y.holds ∙ (λ i. sets (x.holds i) (x.ends i) b) ∙ sets_then text at a b;
    }

-- the same put, written in another way
pub grows-as : {text t a b : List ℕ} {at r : ℕ} → a ≡ b → Grows text at a r t → Grows text at b r t
grows-as {text} {t} {a} {b} {at} {r} e x = record { ends = x.ends ∙ ap (λ (y : List ℕ). at + length y) e; holds = x.holds ∙ ap (sets text at) e }

-- what was put first stands in front of where it ends
pub grows-front : {text t put : List ℕ} {r : ℕ} → r ≤ length text → Grows text 0 put r t → take r t ≡ put
grows-front {text} {t} {put} {r} room x =
    let z : 0 + length put ≡ length put = omega arith in
    (λ i. take ((x.ends ∙ z) i) ((x.holds ∙ sets-eq put text 0 (omega (arith, room, x.ends))) i)) ∙ take_at put (drop (0 + length put) text) (length put) refl
