-- How the writer's loops make what is printed: a line for each row, each behind the last.
-- Assumes nothing.
use Prim.Native.Nat.{ℕ, ◌+◌, ◌<◌, ◌≤◌}
use mathlib.Core.Path.{◌≡◌, refl, sym, ap, subst, ◌∙◌}
use mathlib.Core.Bool.{Bool, true, false, cond}
use mathlib.Core.List.{List, ◌++◌}
use native.Mathlib.Omega.{arith}
use native.Mathlib.Numerals.{add-one}
use lib.ListN.{length, take, length-append}
use borrow.Author.Tests.{eq-eqb, ne_eqb}
use Rattle.sheet.specs.declared.Edge.{Edge}
use Rattle.sheet.specs.declared.Half.{Half}
use Rattle.sheet.specs.declared.Half.TheVariants.{Nodes, Edges}
use Rattle.sheet.specs.declared.Header.{Header}
use Rattle.sheet.specs.declared.Node.{Node}
use Rattle.sheet.specs.Accepted.{WellFormed}
use Rattle.sheet.specs.Kinds.{applies_kind}
use Rattle.sheet.specs.Refusals.{◌is◌}
use Rattle.sheet.specs.Rows.{header_of, node_at, edge_of, edge_table, count_in}
use Rattle.sheet.proofs.Reading.{row_under}
use Rattle.text.specs.Growing.{Grows}
use Rattle.text.proofs.Putting.{grows_then, grows-as, grows-front}
use Rattle.lines.specs.declared.Line.{Line}
use Rattle.lines.specs.Nine.{line_text}
use Rattle.listing.specs.Printed.{line_of_edge, node_line_at, edge_line_at, row_line, printed_lines, printed, PutsIfRoom, line_of_node}

-- ---- the line of a row

module _ (kind : ℕ) (from to : Node) where
  pub applies-line : kind ≡ applies_kind → record { fault = 0; form = 4 + kind; first = from.number; second = from.variant; third = to.number } ≡ line_of_edge kind from to
  unfolding line_of_edge
  applies-line e = rw (eq-eqb kind applies_kind e)

  pub other-line : (kind ≡ applies_kind → ⊥) → record { fault = 0; form = 4 + kind; first = from.number; second = to.number; third = to.variant } ≡ line_of_edge kind from to
  unfolding line_of_edge
  other-line e = rw (ne_eqb kind applies_kind e)

  pub edge-form : (line_of_edge kind from to).form ≡ 4 + kind
  unfolding line_of_edge
  edge-form = go (kind is applies_kind)
    where
      go : (b : Bool) → (cond {A = Line} b (record { fault = 0; form = 4 + kind; first = from.number; second = from.variant; third = to.number }) (record { fault = 0; form = 4 + kind; first = from.number; second = to.number; third = to.variant })).form ≡ 4 + kind
      go true = refl
      go false = refl

-- the line of a row of a half that is told
pub line-of-node : (half : Half) (s : List ℕ) (i : ℕ) (r : Node) → half ≡ Nodes → r ≡ node_at s i → line_of_node r ≡ row_line half s i
line-of-node half s i r p q = ap line_of_node q ∙ ap (λ (x : Half). row_line x s i) (sym p)

pub line-of-edge : (half : Half) (s : List ℕ) (i : ℕ) (e : Edge) (a b : Node) (l : Line) → half ≡ Edges → e ≡ edge_of s i → a ≡ node_at s e.from → b ≡ node_at s e.to → l ≡ line_of_edge e.kind a b → l ≡ row_line half s i
line-of-edge half s i e a b l p q x y z = z ∙ (λ j. line_of_edge e.kind (x j) (y j)) ∙ ap (λ (d : Edge). line_of_edge d.kind (node_at s d.from) (node_at s d.to)) q ∙ ap (λ (h : Half). row_line h s i) (sym p)

module _ (s : List ℕ) (h : Header) (w : WellFormed s (edge_table s) h) where
  pub kind-few : (i : ℕ) (e : Edge) → i < h.edges → e ≡ edge_of s i → e.kind ≤ 5
  kind-few i e l q = omega (arith, (w.edges.shaped i l).kind-high, ap (λ (x : Edge). x.kind) (row_under s (edge_table s) h w i ∙ sym q))

  -- a row's line is one of the nine
  form_in : (half : Half) (i : ℕ) → i < count_in half h → (1 ≤ (row_line half s i).form) × ((row_line half s i).form ≤ 9)
  form_in Nodes i l = let f = w.nodes.fit i l in (omega (arith, f.class_low), omega (arith, f.class-high))
  form_in Edges i l =
      let e = edge-form (edge_of s i).kind (node_at s (edge_of s i).from) (node_at s (edge_of s i).to) in
      (omega (arith, e), omega (arith, e, kind-few i (edge_of s i) l refl))

  pub line-in : (half : Half) (i : ℕ) (l : Line) → i < count_in half h → l ≡ row_line half s i → (1 ≤ l.form) × (l.form ≤ 9)
  line-in half i l g e = let f = form_in half i g in let q = ap (λ (x : Line). x.form) e in (omega (arith, f.0, q), omega (arith, f.1, q))

-- ---- lines, one behind the other

pub printed-next : (f : ℕ → Line) (n : ℕ) → printed_lines f n ++ line_text (f n) ≡ printed_lines f (n + 1)
unfolding printed_lines
printed-next f n = ap (printed_lines f) (sym (add-one n))

-- nothing is put yet
pub puts_none : (text : List ℕ) (at : ℕ) (f : ℕ → Line) → PutsIfRoom text at (printed_lines f 0) at text
unfolding printed_lines
puts_none text at f = record { ends = omega arith; holds = λ _. refl }

-- what was put fits, or not
pub puts-all : {text put t : List ℕ} {at r : ℕ} → Grows text at put r t → PutsIfRoom text at put r t
puts-all g = record { ends = g.ends; holds = λ _. g.holds }

pub puts-not : {text put : List ℕ} {at r : ℕ} → r ≡ at + length put → length text < r → PutsIfRoom text at put r text
puts-not e h = record { ends = e; holds = λ l. absurd (omega (arith, h, l)) }

module _ {text t t' a b : List ℕ} {at r q : ℕ} where
  pub puts_then : PutsIfRoom text at a r t → PutsIfRoom t r b q t' → length t ≡ length text → PutsIfRoom text at (a ++ b) q t'
  puts_then x y e =
      record {
        ends = omega (arith, x.ends, y.ends, length-append a b);
        holds = λ h. (grows_then {text = text} {t = t} {t' = t'} {a = a} {b = b} {at = at} {r = r} {q = q} (record { ends = x.ends; holds = x.holds (omega (arith, y.ends, h)) }) (record { ends = y.ends; holds = y.holds (omega (arith, e, h)) })).holds;
      }

pub puts-as : {text t a b : List ℕ} {at r : ℕ} → a ≡ b → PutsIfRoom text at a r t → PutsIfRoom text at b r t
puts-as {text} {t} {a} {b} {at} {r} e x = subst (λ (y : List ℕ). PutsIfRoom text at y r t) e x

pub puts-at : {text put t : List ℕ} {at r q : ℕ} → q ≡ r → PutsIfRoom text at put r t → PutsIfRoom text at put q t
puts-at {text} {put} {t} {at} e x = subst (λ (i : ℕ). PutsIfRoom text at put i t) (sym e) x

-- a line that was spelled by itself, and is copied as the part of its own length
pub line-copied : {line line' text t : List ℕ} {n at r : ℕ} (l : Line) → n ≤ length line → Grows line 0 (line_text l) n line' → Grows text at (take n line') r t → PutsIfRoom text at (line_text l) r t
line-copied {line} {line'} {text} {t} {n} {at} {r} l h x y =
    puts-all (grows-as (grows-front h x) y)

-- all the lines of a sheet
pub sheet-put : {out t t' : List ℕ} {a r : ℕ} (s : List ℕ) (h : Header) → h ≡ header_of s → PutsIfRoom out 0 (printed_lines (row_line Nodes s) h.nodes) a t → PutsIfRoom t a (printed_lines (row_line Edges s) h.edges) r t' → length t ≡ length out → PutsIfRoom out 0 (printed s) r t'
unfolding printed
sheet-put s h e x y q = puts-as (ap (λ (g : Header). printed_lines (node_line_at s) g.nodes ++ printed_lines (edge_line_at s) g.edges) e) (puts_then x y q)
