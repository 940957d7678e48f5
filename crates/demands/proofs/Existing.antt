-- A list of rising numbers is never missing: the numbers are bounded, and going down from the bound each is in the list or is not. So 26 has no place where such a list is asked for, nor where an office's sheet is.
-- Assumes nothing.
use Prim.Native.Nat.{ℕ, zero, suc, ◌+◌, ◌<◌, ◌≤◌}
use mathlib.Core.Path.{◌≡◌, refl, sym, ap, subst}
use mathlib.Core.Bool.{true, false≢true}
use mathlib.Core.List.{List, [], ◌∷◌}
use mathlib.Core.Logic.{◌⊎◌, inl, inr}
use native.Mathlib.Omega.{arith}
use native.Mathlib.Decide.{dec_lt}
use lib.Dec.{eqb}
use lib.ListN.{get_or}
use borrow.Author.Tests.{eqb-true, eq-eqb}
use Rattle.tables.specs.Key.{Key}
use Rattle.sheet.specs.Rows.{header_of, node_at}
use Rattle.sheet.specs.Accepted.{Accepted}
use Rattle.sheet.specs.Named.{seen_at}
use Rattle.sheet.proofs.Naming.{ends-seen}
use Rattle.paths.specs.Leads.{among}
use Rattle.paths.proofs.Tests.{or_cases, or_left, or_right}
use Rattle.meaning.specs.Paths.{grant, member}
use Rattle.meaning.specs.Forms.{Above, Rises, Rising}
use Rattle.meaning.specs.Questions.{InCategory, PersonsInCategoryAre, PersonsWithGrantAre, FoliosOutOfReachAre, RedundantRow, RedundantEdgesAre}
use Rattle.meaning.specs.Join.{IsTaken}
use Rattle.meaning.proofs.Spelling.{onward}
use Rattle.reach.proofs.Rows.{seen-row}
use Rattle.takeout.proofs.There.{run-sheet}
use Rattle.demands.specs.Demands.{NoSuch}

-- ---- rising numbers below a bound

-- exactly the numbers from `low` on of which P holds, rising
record RisingFrom (P : ℕ → Type 0) (low : ℕ) (ws : List ℕ) : Type 0 where
  rises : Rises ws
  sound : (x : ℕ) → among x ws ≡ true → P x × (low ≤ x)
  whole : (x : ℕ) → P x → low ≤ x → among x ws ≡ true

above : (low : ℕ) (ws : List ℕ) → Rises ws → ((x : ℕ) → among x ws ≡ true → low < x) → Above low ws
above low [] r h = tt
above low (x ∷ xs) r h = (h x (or_left (eqb x x) (among x xs) (eq-eqb x x refl)), r)

module _ (P : ℕ → Type 0) (low : ℕ) (ws : List ℕ) (q : RisingFrom P (suc low) ws) where
  -- `low` is one of them, or is not
  with-low : P low → RisingFrom P low (low ∷ ws)
  with-low p = record { rises = above low ws q.rises (λ x e. (q.sound x e).1); sound = λ x e. in_list x (or_cases (eqb x low) (among x ws) e); whole = λ x y l. in-set x y l (dec_lt low x) }
    where
      in_list : (x : ℕ) → (eqb x low ≡ true) ⊎ (among x ws ≡ true) → P x × (low ≤ x)
      in_list x (inl e) = let z = eqb-true x low e in (subst P (sym z) p, omega (arith, z))
      in_list x (inr e) = let s = q.sound x e in (s.0, omega (arith, s.1))

      in-set : (x : ℕ) → P x → low ≤ x → Dec (low < x) → among x (low ∷ ws) ≡ true
      in-set x y l (yes d) = or_right (eqb x low) (among x ws) (q.whole x y d)
      in-set x y l (no d) = or_left (eqb x low) (among x ws) (eq-eqb x low (omega arith))

  without-low : (P low → ⊥) → RisingFrom P low ws
  without-low n = record { rises = q.rises; sound = λ x e. let s = q.sound x e in (s.0, omega (arith, s.1)); whole = λ x y l. in-set x y l (dec_lt low x) }
    where
      in-set : (x : ℕ) → P x → low ≤ x → Dec (low < x) → among x ws ≡ true
      in-set x y l (yes d) = q.whole x y d
      in-set x y l (no d) = let e : x ≡ low = omega arith in absurd (n (subst P e y))

not-missing : (P : ℕ → Type 0) (n low : ℕ) → ((x : ℕ) → P x → x < low + n) → ((ws : List ℕ) → RisingFrom P low ws → ⊥) → ⊥
not-missing P zero low bound none = none [] (record { rises = tt; sound = λ x e. absurd (false≢true e); whole = λ x p l. absurd (omega (arith, bound x p, l)) })
not-missing P (suc n) low bound none =
    not-missing P n (suc low) (λ x p. omega (arith, bound x p)) (λ ws q. none ws (without-low P low ws q (λ p. none (low ∷ ws) (with-low P low ws q p))))

-- numbers below a bound have their rising list
pub rising-some : (P : ℕ → Type 0) (bound : ℕ) → ((x : ℕ) → P x → x < bound) → NoSuch (Rising P) → ⊥
rising-some P bound low none = not-missing P bound 0 (λ x p. omega (arith, low x p)) (λ ws q. none ws (record { rises = q.rises; sound = λ x e. (q.sound x e).0; whole = λ x p. q.whole x p (omega arith) }))

-- ---- the bounds

-- above the first n values
abbrev over : ℕ → (ℕ → ℕ) → ℕ
over zero f = 0
over (suc n) f = suc (f n) + over n f

under : (n : ℕ) (f : ℕ → ℕ) (i : ℕ) → i < n → f i < over n f
under zero f i l = absurd (omega (arith, l))
under (suc n) f i l = go (dec_lt i n) (under n f i)
  where
    go : Dec (i < n) → (i < n → f i < over n f) → f i < suc (f n) + over n f
    go (yes d) more = omega (arith, more d)
    go (no d) more = let e : i ≡ n = omega arith in omega (arith, ap f e)

module _ (s : List ℕ) (w : Accepted s) (office : ℕ) where
  -- above all numbers of node rows
  abbrev most : ℕ
  most = over (header_of s).nodes (λ i. (node_at s i).number)

  seen_low : (c x v : ℕ) → (seen_at s office).node (c ∷ x ∷ v ∷ []) ≡ true → x < most
  seen_low c x v e =
      let r = seen-row s _ (header_of s) w office c x v e in
      omega (arith, under (header_of s).nodes (λ i. (node_at s i).number) r.row r.inside, ap (λ (k : Key). get_or k 1 0) r.names)

  member-low : (p c : ℕ) → member (seen_at s office) p c ≡ true → p < most
  member-low p c e = seen_low 1 p 0 (ends-seen s w office 1 1 p 0 2 c 0 e).0

  pub persons-some : (c : ℕ) → NoSuch (PersonsInCategoryAre (seen_at s office) c) → ⊥
  persons-some c = rising-some (InCategory (seen_at s office) c) most (λ p x. member-low p x.directly x.member_of)

  pub holders-some : (d f : ℕ) → NoSuch (PersonsWithGrantAre (seen_at s office) d f) → ⊥
  holders-some d f = rising-some _ most (λ p x. let n = onward (seen_at s office) grant p d f x in member-low p n.start n.assigned)

  pub unreached-some : NoSuch (FoliosOutOfReachAre (seen_at s office)) → ⊥
  unreached-some = rising-some _ most (λ f x. seen_low 4 f 0 x.0)

  pub redundant-some : NoSuch (RedundantEdgesAre s office) → ⊥
  redundant-some = rising-some (RedundantRow s office) (header_of s).edges (λ j x. x.inside)

-- ---- an office's sheet

pub office-some : (s : List ℕ) → Accepted s → (k : ℕ) → NoSuch (IsTaken s k 1) → ⊥
office-some s w k none = let T = run-sheet s w k 1 (omega arith) (omega arith) in none T.sheet T.is
