-- Good lines, written one behind the other and cut again, are those lines.
-- Assumes nothing.
use Prim.Native.Nat.{ℕ, zero, suc, ◌+◌, ◌-◌, ◌<◌}
use mathlib.Core.Path.{◌≡◌, refl, sym, ap, ap₂, ◌∙◌}
use mathlib.Core.List.{List, [], ◌∷◌, ◌++◌, append_assoc}
use native.Mathlib.Omega.{arith}
use native.Mathlib.Decide.{dec_lt}
use lib.ListN.{length, get_or, length-append, get_or-append}
use lib.Seq.{get_or-append-add, get_or_at}
use borrow.Author.Tests.{not-true}
use Rattle.sheet.specs.Refusals.{◌is◌}
use Rattle.text.specs.Growing.{end_of_line}
use Rattle.lines.specs.declared.Line.{Line}
use Rattle.lines.specs.Nine.{nine, spelled_by, numbers_of, line_text}
use Rattle.lines.proofs.Decimals.{EveryByte}
use Rattle.lines.proofs.Back.{GoodLine, no_feed, said-back, line-no-feed}
use Rattle.listing.specs.Cut.{Cut, begun, cut_up, each_said, unended, lines_said}
use Rattle.listing.specs.Printed.{printed_lines}

-- lines, one behind the other
abbrev lines_text : List Line → List ℕ
lines_text [] = []
lines_text (l ∷ ls) = line_text l ++ lines_text ls

-- a line without its line feed
abbrev line_bytes : Line → List ℕ
line_bytes l = spelled_by (get_or nine (l.form - 1) []) (numbers_of l)

-- the bytes of each
abbrev each_bytes : List Line → List (List ℕ)
each_bytes [] = []
each_bytes (l ∷ ls) = line_bytes l ∷ each_bytes ls

-- each of them is good
abbrev pub AllGood : List Line → Type 0
AllGood [] = Unit {0}
AllGood (l ∷ ls) = GoodLine l × AllGood ls

-- ---- cut again

cut_line : (l t : List ℕ) → EveryByte no_feed l → cut_up (l ++ 10 ∷ t) ≡ record { ended = l ∷ (cut_up t).ended; left = (cut_up t).left }
unfolding cut_up begun
cut_line [] t x = refl
cut_line (b ∷ l) t x = rw (not-true (b is 10) x.0) (ap (begun b) (cut_line l t x.1))

cut-lines : (ls : List Line) → AllGood ls → cut_up (lines_text ls) ≡ record { ended = each_bytes ls; left = [] }
unfolding cut_up line_text
cut-lines [] g = refl
cut-lines (l ∷ ls) g =
    ap cut_up (append_assoc (line_bytes l) end_of_line (lines_text ls))
    ∙ cut_line (line_bytes l) (lines_text ls) (line-no-feed l g.0)
    ∙ ap (λ (c : Cut). record { ended = line_bytes l ∷ c.ended; left = c.left }) (cut-lines ls g.1)

each-said : (ls : List Line) → AllGood ls → each_said (each_bytes ls) ++ [] ≡ ls
each-said [] g = refl
each-said (l ∷ ls) g = ap₂ ◌∷◌ (said-back l g.0) (each-said ls g.1)

pub lines-back : (ls : List Line) → AllGood ls → lines_said (lines_text ls) ≡ ls
unfolding lines_said
lines-back ls g = ap (λ (c : Cut). each_said c.ended ++ unended c.left) (cut-lines ls g) ∙ each-said ls g

-- ---- the first n of lines, as a list

abbrev pub first_lines : (ℕ → Line) → ℕ → List Line
first_lines f zero = []
first_lines f (suc n) = first_lines f n ++ (f n ∷ [])

text-append : (a b : List Line) → lines_text (a ++ b) ≡ lines_text a ++ lines_text b
text-append [] b = refl
text-append (l ∷ a) b = ap (λ (t : List ℕ). line_text l ++ t) (text-append a b) ∙ sym (append_assoc (line_text l) (lines_text a) (lines_text b))

append-none : (t : List ℕ) → t ++ [] ≡ t
append-none [] = refl
append-none (b ∷ t) = ap (λ (x : List ℕ). b ∷ x) (append-none t)

pub lines-printed : (f : ℕ → Line) (n : ℕ) → lines_text (first_lines f n) ≡ printed_lines f n
unfolding printed_lines
lines-printed f zero = refl
lines-printed f (suc n) = text-append (first_lines f n) (f n ∷ []) ∙ ap₂ ◌++◌ (lines-printed f n) (append-none (line_text (f n)))

good-append : (a b : List Line) → AllGood a → AllGood b → AllGood (a ++ b)
good-append [] b x y = y
good-append (l ∷ a) b x y = (x.0, good-append a b x.1 y)

first_good : (f : ℕ → Line) (n : ℕ) → ((i : ℕ) → i < n → GoodLine (f i)) → AllGood (first_lines f n)
first_good f zero g = tt
first_good f (suc n) g = good-append (first_lines f n) (f n ∷ []) (first_good f n (λ i h. g i (omega (arith, h)))) (g n (omega arith), tt)

pub so-many-lines : (f : ℕ → Line) (n : ℕ) → length (first_lines f n) ≡ n
so-many-lines f zero = refl
so-many-lines f (suc n) = length-append (first_lines f n) (f n ∷ []) ∙ omega (arith, so-many-lines f n)

first-at : (f : ℕ → Line) (n i : ℕ) (d : Line) → i < n → get_or (first_lines f n) i d ≡ f i
first-at f zero i d h = absurd (omega (arith, h))
first-at f (suc n) i d h = go (dec_lt i n) (λ l. first-at f n i d l)
  where
    go : Dec (i < n) → (i < n → get_or (first_lines f n) i d ≡ f i) → get_or (first_lines f n ++ (f n ∷ [])) i d ≡ f i
    go (yes l) e = get_or-append (first_lines f n) (f n ∷ []) d i (omega (arith, l, so-many-lines f n)) ∙ e l
    go (no l) e = let q : n ≡ i = omega (arith, h, l) in get_or_at (first_lines f n) (f n) [] d i (so-many-lines f n ∙ q) ∙ ap f q

-- ---- node lines, then edge lines

module _ (f g : ℕ → Line) (n e : ℕ) where
  -- all of them
  abbrev pub both_lines : List Line
  both_lines = first_lines f n ++ first_lines g e

  pub both_long : length both_lines ≡ n + e
  both_long = length-append (first_lines f n) (first_lines g e) ∙ ap₂ ◌+◌ (so-many-lines f n) (so-many-lines g e)

  pub both_first : (i : ℕ) (d : Line) → i < n → get_or both_lines i d ≡ f i
  both_first i d h = get_or-append (first_lines f n) (first_lines g e) d i (omega (arith, h, so-many-lines f n)) ∙ first-at f n i d h

  pub both-second : (j : ℕ) (d : Line) → j < e → get_or both_lines (n + j) d ≡ g j
  both-second j d h = ap (λ (m : ℕ). get_or both_lines (m + j) d) (sym (so-many-lines f n)) ∙ get_or-append-add (first_lines f n) (first_lines g e) j d ∙ first-at g e j d h

  pub both-back : ((i : ℕ) → i < n → GoodLine (f i)) → ((j : ℕ) → j < e → GoodLine (g j)) → lines_said (printed_lines f n ++ printed_lines g e) ≡ both_lines
  both-back x y =
      ap lines_said (ap₂ ◌++◌ (sym (lines-printed f n)) (sym (lines-printed g e)) ∙ sym (text-append (first_lines f n) (first_lines g e)))
      ∙ lines-back both_lines (good-append (first_lines f n) (first_lines g e) (first_good f n x) (first_good g e y))
