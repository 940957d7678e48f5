-- The ends of an edge line, by its kind.
-- Assumes nothing.
use Prim.Native.Nat.{ℕ}
use mathlib.Core.Path.{◌≡◌, refl, sym, ◌∙◌}
use mathlib.Core.Bool.{true, false, ◌||◌}
use lib.Dec.{eqb}
use borrow.Author.Tests.{ne_eqb}
use Rattle.sheet.specs.Kinds.{person_type, category_type, deed_type, folio_type}
use Rattle.lines.specs.declared.Line.{Line}
use Rattle.lines.specs.Naming.{kind_named, node_line, from_line, to_line}

module _ (l : Line) (k : ℕ) (e : k ≡ kind_named l) where
  pub from_member : k ≡ 1 → node_line person_type l.first 0 ≡ from_line l
  unfolding from_line
  from_member q = rw (sym e ∙ q) refl

  pub from-applies : k ≡ 5 → node_line deed_type l.first l.second ≡ from_line l
  unfolding from_line
  from-applies q = rw (sym e ∙ q) refl

  pub from-other : (k ≡ 1 → ⊥) → (k ≡ 5 → ⊥) → node_line category_type l.first 0 ≡ from_line l
  unfolding from_line
  from-other a b = rw (ne_eqb (kind_named l) 1 (λ q. a (e ∙ q)), ne_eqb (kind_named l) 5 (λ q. b (e ∙ q))) refl

  pub to-category : (eqb k 1 || eqb k 2) ≡ true → node_line category_type l.second 0 ≡ to_line l
  unfolding to_line
  to-category q = rw (rw e at q) refl

  pub to-folio : k ≡ 5 → node_line folio_type l.third 0 ≡ to_line l
  unfolding to_line
  to-folio q = rw (sym e ∙ q) refl

  pub to-deed : (eqb k 1 || eqb k 2) ≡ false → (k ≡ 5 → ⊥) → node_line deed_type l.second l.third ≡ to_line l
  unfolding to_line
  to-deed q b = rw (rw e at q, ne_eqb (kind_named l) 5 (λ q. b (e ∙ q))) refl
