-- Any two results of measuring are the same counts and places, and any two sheets that are the same combination the same words: marks at every key decide a sheet.
-- Assumes nothing.
use Prim.Native.Nat.{ℕ, suc, ◌<◌}
use mathlib.Core.Path.{◌≡◌, refl, sym, ap, subst, ◌∙◌}
use mathlib.Core.List.{List, ◌++◌}
use native.Mathlib.Omega.{arith}
use lib.ListN.{length, get_or, drop}
use Rattle.std.specs.Prelude.{Result, Ok}
use Rattle.tables.specs.Marks.{marked}
use Rattle.sheet.specs.declared.fault.Fault.{Fault}
use Rattle.combine.specs.Made.{PutsCombined, short, written}
use Rattle.sheet.specs.declared.Header.{Header}
use Rattle.sheet.specs.Found.{PlaceIs}
use Rattle.sheet.proofs.Naming.{marks-held}
use Rattle.sheet.proofs.Places.{place-one}
use Rattle.sheet.proofs.Whole.{sheet-alike}
use Rattle.sheet.specs.declared.Half.TheVariants.{Nodes}
use Rattle.combine.specs.declared.Rule.{Rule}
use Rattle.combine.specs.declared.Measure.{Measure}
use Rattle.combine.specs.Combined.{Making, keys, PlacesIn}
use Rattle.sheet.specs.Named.{row_at}
use Rattle.combine.specs.Sheets.{IsCombined, Pair, Measured, Laid}
use Rattle.combine.proofs.Alike.{half-one, place-alike}
use Rattle.combine.proofs.Whole.{node-inputs}

-- ---- what was measured

module _ (nodes edges : Rule) (c : ℕ) (a : List ℕ) (h : Header) (b : List ℕ) (g : Header) (Q : Pair nodes edges c a h b g) (ma mb ma' mb' : List ℕ) (m m' : Measure) (M : Measured nodes edges a h b g ma mb m) (M' : Measured nodes edges a h b g ma' mb' m') where
  pub counts-one : (m.nodes ≡ m'.nodes) × (m.edges ≡ m'.edges)
  counts-one = (M.node-rows.count ∙ sym M'.node-rows.count, M.edge-rows ∙ sym M'.edge-rows)

  -- one law for both maps
  place_same : (s : List ℕ) (n : ℕ) (spots map' : ℕ → ℕ) → PlacesIn (row_at Nodes s) n spots m.nodes M.node-rows.row → PlacesIn (row_at Nodes s) n map' m'.nodes M'.node-rows.row → (x : ℕ) → x < n → spots x ≡ map' x
  place_same s n spots map' L L' x l =
      let rows = half-one nodes Nodes a h b g (node-inputs nodes edges c a h b g Q) c Q.rules.nodes m.nodes m'.nodes M.node-rows.row M'.node-rows.row M.node-rows.combined M'.node-rows.combined in
      place-one (keys M'.node-rows.row) m'.nodes M'.node-rows.combined.table.up (row_at Nodes s x).key (spots x) (map' x)
      (subst (λ (k : ℕ). PlaceIs (keys M'.node-rows.row) k (row_at Nodes s x).key (spots x)) rows.0 (place-alike _ _ m.nodes _ _ rows.1 (L x l))) (L' x l)

  pub places-one : ((x : ℕ) → x < h.nodes → get_or ma x 0 ≡ get_or ma' x 0) × ((y : ℕ) → y < g.nodes → get_or mb y 0 ≡ get_or mb' y 0)
  places-one = (
    place_same a h.nodes _ _ (M.node-rows.first (omega (arith, M.first-long, Q.first.nodes.header.nodes))) (M'.node-rows.first (omega (arith, M'.first-long, Q.first.nodes.header.nodes))),
    place_same b g.nodes _ _ (M.node-rows.second (omega (arith, M.second-long, Q.second.nodes.header.nodes))) (M'.node-rows.second (omega (arith, M'.second-long, Q.second.nodes.header.nodes))),
  )

-- ---- what is laid

pub combined-alike : (N E : Making) (c : ℕ) (a b t t' : List ℕ) → IsCombined N E c a b t → IsCombined N E c a b t' → t ≡ t'
combined-alike N E c a b t t' x y =
    sheet-alike t t' x.accepted y.accepted (x.offices-are ∙ sym y.offices-are)
    (λ i l. marks-held t t' x.accepted y.accepted (suc i) (suc i)
    (λ k. ap (λ (m : ℕ). marked m (suc i)) (x.nodes k ∙ sym (y.nodes k)))
    (λ k. ap (λ (m : ℕ). marked m (suc i)) (x.edges k ∙ sym (y.edges k))))

pub laid_one : (nodes edges : Rule) (c : ℕ) (a : List ℕ) (h : Header) (b : List ℕ) (g : Header) (m : Measure) (out o o' : List ℕ) → Laid nodes edges c a h b g m out o → Laid nodes edges c a h b g m out o' → o ≡ o'
laid_one nodes edges c a h b g m out o o' x y =
    x.holds ∙ ap (λ (s : List ℕ). s ++ drop (length s) out) (combined-alike _ _ c a b x.sheet y.sheet x.is y.is) ∙ sym y.holds

-- ---- what is put into an output

module _ (R : List ℕ → Type 0) (one : (t u : List ℕ) → R t → R u → t ≡ u) (out : List ℕ) where
  pub puts-one : {r r' : Result ℕ Fault} {o o' : List ℕ} → PutsCombined R out r o → PutsCombined R out r' o' → (r ≡ r') × (o ≡ o')
  puts-one (short t x l) (short u y d) = (refl, refl)
  puts-one (short t x l) (written u y d) = let e = ap length (one t u x y) in absurd (omega arith)
  puts-one (written t x l) (short u y d) = let e = ap length (one t u x y) in absurd (omega arith)
  puts-one (written t x l) (written u y d) = let e = one t u x y in (ap (λ (w : List ℕ). Ok (length w)) e, ap (λ (w : List ℕ). w ++ drop (length w) out) e)
