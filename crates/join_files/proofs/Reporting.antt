-- What is said of a join: its lines one behind the other, at the front of the text lent.
-- Assumes nothing.
use Prim.Native.Nat.{ℕ, ◌<◌, ◌≤◌}
use mathlib.Core.Path.{◌≡◌, refl, sym, ap, ◌∙◌}
use mathlib.Core.Bool.{Bool, true, false, cond}
use mathlib.Core.List.{List, ◌++◌, append_assoc}
use native.Mathlib.Omega.{arith}
use lib.ListN.{length, take, drop, length-append}
use lib.Seq.{length-take-le}
use Rattle.std.proofs.lemmas.List.{take_all}
use lib.Dec.{ltb}
use borrow.Author.Tests.{lt-ltb, le-ltb, eq-eqb, ne_eqb}
use Rattle.text.specs.Growing.{labelled, end_of_line, Grows}
use Rattle.text.proofs.Putting.{grows_then, grows-front}
use Rattle.join.specs.declared.Joined.{Joined}
use Rattle.join_files.specs.Lines.{nodes_text, shared_text, edges_text, refused_text, sheet_text, row_text, two_lines, refusal_line, report_of, Reports}

-- the pieces of the two lines, and of a refusal's line, put one behind the other
module _ {text t t' t'' : List ℕ} {a b r : ℕ} (j : Joined) (room : r ≤ length text) where
  pub lines-put : Grows text 0 (labelled nodes_text j.nodes ++ labelled shared_text j.sharednodes) a t → Grows t a (labelled edges_text j.edges ++ labelled shared_text j.sharededges) b t' → Grows t' b end_of_line r t'' → take r t'' ≡ two_lines j
  unfolding two_lines
  lines-put x y z = grows-front room (grows_then (grows_then x y) z) ∙ ap (λ (l : List ℕ). l ++ end_of_line) (sym (append_assoc (labelled nodes_text j.nodes ++ labelled shared_text j.sharednodes) (labelled edges_text j.edges) (labelled shared_text j.sharededges)))

  pub refusal-put : Grows text 0 (labelled refused_text j.number ++ labelled sheet_text j.sheet) a t → Grows t a (labelled row_text j.row) b t' → Grows t' b end_of_line r t'' → take r t'' ≡ refusal_line j
  unfolding refusal_line
  refusal-put x y z = grows-front room (grows_then (grows_then x y) z)

pub says-lines : (j : Joined) (l : List ℕ) → j.number ≡ 0 → l ≡ two_lines j → l ≡ report_of j
unfolding report_of
says-lines j l z e = e ∙ ap (λ (b : Bool). cond b (two_lines j) (refusal_line j)) (sym (eq-eqb j.number 0 z))

pub says-refusal : (j : Joined) (l : List ℕ) → (j.number ≡ 0 → ⊥) → l ≡ refusal_line j → l ≡ report_of j
unfolding report_of
says-refusal j l z e = e ∙ ap (λ (b : Bool). cond b (two_lines j) (refusal_line j)) (sym (ne_eqb j.number 0 z))

-- a line whose first n bytes are the report
module _ (report text line : List ℕ) (n : ℕ) (h : n ≤ length line) (e : take n line ≡ report) where
  long : n ≡ length report
  long = sym (length-take-le n line h) ∙ ap length e

  pub report-short : length text < n → Reports report text 0 text
  report-short l = record { told = ap (λ (b : Bool). cond b 0 (length report)) (sym (lt-ltb (length text) (length report) (omega (arith, l, long)))); holds = refl }

  pub report-whole : (t : List ℕ) → n ≤ length text → t ≡ take n line → Reports report text n (t ++ drop n text)
  report-whole t l f =
      let q : take n report ≡ report = take_all n report (omega (arith, long)) in
      record {
        told = long ∙ ap (λ (x : Bool). cond x 0 (length report)) (sym (le-ltb (length text) (length report) (omega (arith, l, long))));
        holds = ap (λ (y : List ℕ). y ++ drop n text) (f ∙ e ∙ sym q);
      }

-- what is told is a part of the text
pub report-part : (report text : List ℕ) (n : ℕ) (text' : List ℕ) → Reports report text n text' → n ≤ length text'
report-part report text n text' x = go (ltb (length text) (length report)) x.told
  where
    go : (b : Bool) → n ≡ cond b 0 (length report) → n ≤ length text'
    go true e = omega (arith, e)
    go false e = omega (arith, ap length x.holds, length-append (take n report) (drop n text), length-take-le n report (omega (arith, e)))
