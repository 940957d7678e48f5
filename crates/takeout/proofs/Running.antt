-- A run of offices is a combination of the sheet with itself: each office of the run holds what it held.
-- Assumes nothing.
use Prim.Native.Nat.{ℕ, suc, ◌+◌, ◌-◌, ◌*◌, ◌/◌, ◌%◌, ◌^◌, ◌<◌, ◌≤◌}
use mathlib.Core.Path.{◌≡◌, refl, sym, ap, ◌∙◌}
use mathlib.Core.List.{List}
use native.Mathlib.Omega.{arith}
use native.Mathlib.Nat.{one-mul}
use lib.Dec.{lit<}
use lib.Pow.{shl_exact, pow_pos}
use Rattle.tables.specs.Marks.{marked}
use Rattle.tables.proofs.Counts.{many-most}
use Rattle.tables.proofs.Marks.{marked-run}
use Rattle.sheet.specs.declared.Header.{Header}
use Rattle.sheet.specs.Limits.{max_offices}
use Rattle.sheet.specs.Rows.{header_of, edge_table}
use Rattle.sheet.specs.Accepted.{WellFormed}
use Rattle.sheet.proofs.Naming.{marks-held}
use Rattle.meaning.specs.Join.{IsTaken}
use Rattle.sheet.specs.declared.Half.TheVariants.{Nodes, Edges}
use Rattle.combine.specs.declared.Rule.TheVariants.{Run}
use Rattle.combine.specs.declared.Measure.{Measure}
use Rattle.combine.specs.Combined.{first_stays}
use Rattle.sheet.specs.Named.{row_at}
use Rattle.combine.specs.Halves.{kept_rows}
use Rattle.combine.specs.Made.{PutsCombined, short, written}
use Rattle.combine.specs.Sheets.{IsCombined, Pair, Measured}
use Rattle.std.specs.Prelude.{Ok, Err}
use Rattle.sheet.specs.declared.Refusal.{Refusal}
use Rattle.sheet.specs.declared.fault.Fault.{Fault}
use Rattle.sheet.specs.FaultNumbers.{fault_number}
use Rattle.sheet.specs.Refusals.{none, refuse}
use Rattle.question.specs.Replies as shown
use Rattle.question.specs.Replies.{refused_by, tells, Shows}
use Rattle.sheet.specs.declared.formed.Sheet.{Sheet}
use Rattle.sheet.specs.declared.Seat.{Seat}
use Rattle.sheet.specs.Seats.{seat_at}
use Rattle.sheet.specs.Verdict.{verdict}
use Rattle.question.specs.declared.Answer.{Answer}
use Rattle.question.specs.declared.office.OfficeSheet.{OfficeSheet}
use Rattle.question.specs.Asked.{bad_office}
use Rattle.question.proofs.Telling.{shown-fault, shown-stands}
use Rattle.takeout.specs.Promises.{TakesOut}
use Rattle.combine.proofs.Counting.{kept-few}
use Rattle.sheet.proofs.Forming.{words_of}
use Rattle.combine.proofs.Ruling.{zero-run, run-rules}

-- a shift by a count of offices, which is less than the width, is a power of two
pub span-is : (count : ℕ) → count ≤ max_offices → 1 * 2 ^ count % 4294967296 ≡ 2 ^ count
span-is count l = shl_exact {a = 1} 1 count 32 (lit< tt) (omega arith) ∙ one-mul _

module _ (s : List ℕ) (h : Header) (W : WellFormed s (edge_table s) h) (k n low span : ℕ) (low-is : low ≡ 2 ^ k) (span-is : span ≡ 2 ^ n) where
  -- the sheet goes with itself: what the second has is not looked at
  pub run-pair : 1 ≤ n → n ≤ max_offices → Pair (Run low span) (Run low span) n s h s h
  run-pair a b =
      record {
        first = W;
        second = W;
        rules = run-rules h.offices h.offices k n low span low-is span-is;
        safe-nodes = λ x y l d. safe;
        safe-edges = λ x y l d. safe;
        low = a;
        high = b;
      }
    where
      safe : (0 < low) × (0 < span)
      safe = (omega (arith, low-is, pow_pos k), omega (arith, span-is, pow_pos n))

  -- no more rows than there were
  pub run-kept : (kept_rows (Run low span) Nodes s h s h ≤ h.nodes) × (kept_rows (Run low span) Edges s h s h ≤ h.edges)
  run-kept = (
    omega (arith, kept-few (λ x y. x / low % span) h.nodes (row_at Nodes s) h.nodes (row_at Nodes s) (λ y. zero-run low span), many-most (first_stays (λ x y. x / low % span) (row_at Nodes s) h.nodes (row_at Nodes s)) h.nodes),
    omega (arith, kept-few (λ x y. x / low % span) h.edges (row_at Edges s) h.edges (row_at Edges s) (λ y. zero-run low span), many-most (first_stays (λ x y. x / low % span) (row_at Edges s) h.edges (row_at Edges s)) h.edges),
  )

  pub run-few : (ma mb : List ℕ) (m : Measure) → Measured (Run low span) (Run low span) s h s h ma mb m → (m.nodes ≤ h.nodes) × (m.edges ≤ h.edges)
  run-few ma mb m M = (omega (arith, M.node-rows.count, run-kept.0), omega (arith, M.edge-rows, run-kept.1))

  pub run-taken : (t : List ℕ) → IsCombined (λ x y. x / low % span) (λ x y. x / low % span) n s s t → IsTaken s k n t
  run-taken t C =
      record {
        accepted = C.accepted;
        offices = C.offices-are;
        holds = λ i l. marks-held t s C.accepted (words_of s _ h W) (suc i) (suc (k + i)) (λ key. office i l _ _ (C.nodes key)) (λ key. office i l _ _ (C.edges key));
      }
    where
      office : (i : ℕ) → i < n → (m x : ℕ) → m ≡ x / low % span → marked m (suc i) ≡ marked x (suc (k + i))
      office i l m x e = ap (λ (y : ℕ). marked y (suc i)) e ∙ rw (low-is, span-is) (marked-run k n x i l)

-- ---- what is told

module _ (R : List ℕ → Type 0) (out : List ℕ) where
  pub puts-shown : (n : ℕ) (out' : List ℕ) → PutsCombined R out (Ok n) out' → Shows none R out (tells 0 n) out'
  puts-shown n out' (written t x l) = shown.written t refl x l

  pub puts-short : (f : Fault) (r : Refusal) (out' : List ℕ) → r ≡ record { number = fault_number f; sheet = 0; row = 0 } → PutsCombined R out (Err f) out' → Shows none R out (refused_by r) out'
  unfolding refuse
  puts-short f r out' e (short t x l) = rw e (shown.short t refl x l)

module _ (words : List ℕ) (office : ℕ) (out : List ℕ) (v : verdict 1 words ≡ none) (s : Sheet) (w : s.words.now ≡ words) where
  same-office : bad_office s.header office ≡ bad_office (header_of words) office
  same-office = ap (λ (h : Header). bad_office h office) (s.formed.head ∙ ap header_of w)

  pub takes-fault : (f : Fault) (r : Refusal) → fault_number f ≡ bad_office s.header office → r ≡ record { number = fault_number f; sheet = 0; row = 0 } → TakesOut words office out (refused_by r) out
  takes-fault f r e q = shown-fault _ out words _ f r v (e ∙ same-office) q

  -- what stands of the office's seat
  pub takes-on : (at : OfficeSheet) → (at.sheet ≡ s) × (at.seat ≡ seat_at office) × (bad_office s.header office ≡ 0) → (a : Answer) (out' : List ℕ)
      → Shows none (IsTaken at.sheet.words.now (at.seat.office - 1) 1) out a out' → TakesOut words office out a out'
  takes-on at e a out' x =
      let p : at.sheet.words.now ≡ words = ap (λ (t : Sheet). t.words.now) e.0 ∙ w in
      let q : at.seat.office ≡ office = ap (λ (t : Seat). t.office) e.1 in
      shown-stands _ out words _ a out' v (sym same-office ∙ e.2) (rw (← p, ← q) x)
