-- What the steps of the check find is the verdict: the header's fault, then the first of the node rows, then the first of the edge rows.
-- Assumes nothing.
use Prim.Native.Nat.{ℕ}
use mathlib.Core.Path.{◌≡◌, refl, sym, ap, subst, ◌∙◌}
use mathlib.Core.List.{List}
use Rattle.sheet.specs.declared.Half.{Half}
use Rattle.sheet.specs.declared.Half.TheVariants.{Nodes, Edges}
use Rattle.sheet.specs.declared.Header.{Header}
use Rattle.sheet.specs.declared.Refusal.{Refusal}
use Rattle.sheet.specs.Accepted.{WellFormed}
use Rattle.sheet.specs.Refusals.{first_row, none, refuse, ◌then◌}
use Rattle.sheet.specs.Rows.{header_of, edge_table, count_in}
use Rattle.sheet.specs.Verdict.{sheet_fault, rows_verdict, verdict}
use Rattle.sheet.proofs.Accepting.{accepted}
use Rattle.sheet.proofs.Refusing.{refuse-none-is, then-some-is, then-none-is}
use Rattle.verdict.specs.Each.{fault_at}

-- the first row of a half that has a fault
abbrev pub first_fault : ℕ → List ℕ → List ℕ → Header → Half → Refusal
first_fault p s t h half = first_row p (fault_at s t h half) 0 (count_in half h)

step-by-step : (p : ℕ) (s d t : List ℕ) (h : Header) → d ≡ s → t ≡ edge_table s → h ≡ header_of s → refuse (sheet_fault s) p 0 (first_fault p d t h Nodes then first_fault p d t h Edges) ≡ verdict p s
unfolding verdict rows_verdict fault_at
step-by-step p s d t h o q e = rw (o, q, e) refl

-- of the words s, as a draft with the words d, the edge table t and the header h
module _ (p : ℕ) (s d t : List ℕ) (h : Header) (o : d ≡ s) (q : t ≡ edge_table s) (e : h ≡ header_of s) (z : 0 ≡ sheet_fault s) where
  -- a node row refuses
  pub nodes-refuse : (r : Refusal) → r ≡ first_fault p d t h Nodes → (r.number ≡ 0 → ⊥) → r ≡ verdict p s
  nodes-refuse r a n = refuse-none-is 0 _ p 0 r _ z refl (then-some-is r _ _ a n) ∙ step-by-step p s d t h o q e

  -- no node row does, and an edge row refuses, or none does either
  pub edges-tell : (r : Refusal) → none ≡ first_fault p d t h Nodes → r ≡ first_fault p d t h Edges → r ≡ verdict p s
  edges-tell r a b = refuse-none-is 0 _ p 0 r _ z refl (then-none-is none _ r _ a refl b) ∙ step-by-step p s d t h o q e

  pub formed-by : none ≡ first_fault p d t h Nodes → none ≡ first_fault p d t h Edges → WellFormed s t h
  formed-by a b =
      let w = accepted p s (ap (λ (r : Refusal). r.number) (sym (edges-tell none a b))) in
      subst (λ (x : List ℕ). WellFormed s x h) (sym q) (subst (λ (x : Header). WellFormed s (edge_table s) x) (sym e) w)
