-- What refuses a question at an office: that there is none, and whom it does not know.
-- Assumes nothing.
use Prim.Native.Nat.{ℕ}
use mathlib.Core.Path.{◌≡◌, sym, ap, subst, ◌∙◌}
use mathlib.Core.Bool.{false}
use Rattle.sheet.specs.declared.Header.{Header}
use Rattle.sheet.specs.declared.Seat.{Seat}
use Rattle.sheet.specs.declared.fault.Fault.{Fault}
use Rattle.sheet.specs.declared.formed.Sheet.{Sheet}
use Rattle.sheet.specs.FaultNumbers.{fault_number}
use Rattle.sheet.specs.Rows.{header_of}
use Rattle.sheet.specs.Seats.{seen_from}
use Rattle.tables.specs.Office.{View}
use Rattle.sheet.proofs.Refusing.{else-some, else-none}
use Rattle.question.specs.declared.Question.{Question}
use Rattle.question.specs.declared.office.OfficeSheet.{OfficeSheet}
use Rattle.question.specs.Asked.{seat_for, asked, unknown, bad_office, ask_fault, side_of}
use Rattle.question.specs.Checked.{seen_at_seat}
use Rattle.ask.specs.declared.stand.Stand.{Stand}
use Rattle.sheet.proofs.Faulting.{fault-some}
use mathlib.Core.List.{List}
use Rattle.sheet.specs.declared.Refusal.{Refusal}
use Rattle.meaning.specs.Questions.{WitnessIs}
use Rattle.question.specs.declared.Answer.{Answer}
use Rattle.question.specs.Replies.{Shows}
use Rattle.ask.specs.Promises.{WitnessOf}

-- what is seen from the seat is what the question is about
pub show-seat : (s : List ℕ) (q : Question) (seat : Seat) (r : Refusal) (out : List ℕ) (a : Answer) (out' : List ℕ) → seat ≡ seat_for q
    → Shows r (WitnessIs (seen_from s seat) (side_of q.kind) q.person q.deed q.folio) out a out' → Shows r (WitnessOf s q) out a out'
show-seat s q seat r out a out' e y = subst (λ (x : Seat). Shows r (WitnessIs (seen_from s x) (side_of q.kind) q.person q.deed q.folio) out a out') e y

-- what refuses a question of any words, by their header
pub fault-by-office : (s : List ℕ) (q : Question) (h : Header) (n : ℕ) → h ≡ header_of s → n ≡ bad_office h q.office → (n ≡ 0 → ⊥) → n ≡ ask_fault s q
unfolding ask_fault
fault-by-office s q h n e b z = let d = rw e at b in d ∙ sym (else-some (bad_office (header_of s) q.office) (unknown s false q.office q) (λ x. z (d ∙ x)))

pub fault-unknown : (s : List ℕ) (q : Question) (h : Header) (n : ℕ) → h ≡ header_of s → bad_office h q.office ≡ 0 → n ≡ unknown s false q.office q → n ≡ ask_fault s q
unfolding ask_fault
fault-unknown s q h n e z u = u ∙ sym (else-none (bad_office (header_of s) q.office) _ (subst (λ (x : Header). bad_office x q.office ≡ 0) e z))

-- no such office
pub no-office : (sheet : Sheet) (q : Question) (f : Fault) → fault_number f ≡ bad_office sheet.header q.office → fault_number f ≡ ask_fault sheet.words.now q
unfolding ask_fault
no-office sheet q f b =
    let d = rw sheet.formed.head at b in
    d ∙ sym (else-some (bad_office (header_of sheet.words.now) q.office) (unknown sheet.words.now false q.office q) (λ x. fault-some f (d ∙ x)))

-- an office that there is, and what it does not know
pub office-unknown : (sheet : Sheet) (q : Question) (at : OfficeSheet) (n : ℕ) → (at.sheet ≡ sheet) × (at.seat ≡ seat_for q) × (bad_office sheet.header q.office ≡ 0) → n ≡ unknown at.sheet.words.now false at.seat.office q
    → n ≡ ask_fault sheet.words.now q
unfolding ask_fault
office-unknown sheet q at n e u =
    let words = ap (λ (x : Sheet). x.words.now) e.0 in
    let office = ap (λ (x : Seat). x.office) e.1 in
    rw (words, office) at u ∙ sym (else-none (bad_office (header_of sheet.words.now) q.office) _ (subst (λ (x : Header). bad_office x q.office ≡ 0) sheet.formed.head e.2))

-- what is said of a question where it stands is said of it on the sheet
pub at-stand : (P : View → Question → Type 0) (o : Stand) (sheet : Sheet) (q : Question) → (o.at.sheet ≡ sheet) × (o.at.seat ≡ seat_for q) × (o.question ≡ q) × (ask_fault sheet.words.now q ≡ 0)
    → P (seen_at_seat o.at) o.question → P (asked sheet.words.now q) q
at-stand P o sheet q e x =
    subst (λ (y : Question). P (asked sheet.words.now q) y) e.2
    (subst (λ (y : Seat). P (seen_from sheet.words.now y) o.question) e.1 (subst (λ (y : Sheet). P (seen_from y.words.now o.at.seat) o.question) e.0 x))
