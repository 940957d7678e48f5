-- Laws of what refuses something: a fault has a number that is not 0, so that where one is returned a table of refusals stops.
-- Assumes nothing.
use Prim.Native.Nat.{ℕ, zero, suc}
use mathlib.Core.Bool.{cond}
use mathlib.Core.Path.{◌≡◌, refl, sym, ap, ◌∙◌}
use native.Mathlib.Omega.{arith}
use Rattle.sheet.specs.declared.Refusal.{Refusal}
use Rattle.sheet.specs.declared.fault.Fault.{Fault}
use Rattle.sheet.specs.declared.fault.Fault.TheVariants.{TooFewWords, Form, OfficeCount, RowCount, Layout, NodeType, NodeNumber, NodeOffices, NodeRepeated, NodeOrder, EdgeKind, EdgeEnd, EndTypes, WithinItself, EdgeOffices, EdgeRepeated, EdgeOrder, NoOffice, UnknownPerson, UnknownDeed, UnknownFolio, UnknownCategory, OutputShort, NothingFound, NoRule, NotOneOffice, UnionNodes, UnionEdges, EqualDeeds, NoIdentity, FileLength, UnlikeLine, LineNumber, LineRepeated, EndMissing, EarlierMinute, TableFull, TraceRow, FolioTwice}
use Rattle.sheet.specs.FaultNumbers.{fault_number}
use Rattle.sheet.specs.Refusals.{◌is◌, ◌or_else◌, refuse}
use Rattle.sheet.proofs.Refusing.{some_is, refuse-some-is}

-- each number of the table is one
pub fault-some : (f : Fault) → fault_number f ≡ 0 → ⊥
fault-some f e = grind arith

-- what a number of the table is called
called : ℕ → Fault
called n = cond (n is 2) Form (cond (n is 3) OfficeCount (cond (n is 4) RowCount (cond (n is 5) Layout (cond (n is 6) NodeType (cond (n is 7) NodeNumber (cond (n is 8) NodeOffices (cond (n is 9) NodeRepeated (cond (n is 10) NodeOrder (cond (n is 11) EdgeKind (cond (n is 12) EdgeEnd (cond (n is 13) EndTypes (cond (n is 14) WithinItself (cond (n is 15) EdgeOffices (cond (n is 16) EdgeRepeated (cond (n is 17) EdgeOrder (cond (n is 20) NoOffice (cond (n is 21) UnknownPerson (cond (n is 22) UnknownDeed (cond (n is 23) UnknownFolio (cond (n is 24) UnknownCategory (cond (n is 25) OutputShort (cond (n is 26) NothingFound (cond (n is 27) NoRule (cond (n is 28) NotOneOffice (cond (n is 29) UnionNodes (cond (n is 30) UnionEdges (cond (n is 31) EqualDeeds (cond (n is 32) NoIdentity (cond (n is 33) FileLength (cond (n is 40) UnlikeLine (cond (n is 41) LineNumber (cond (n is 42) LineRepeated (cond (n is 43) EndMissing (cond (n is 50) EarlierMinute (cond (n is 51) TableFull (cond (n is 54) TraceRow (cond (n is 59) FolioTwice (TooFewWords))))))))))))))))))))))))))))))))))))))

called-back : (f : Fault) → called (fault_number f) ≡ f
unfolding called
called-back TooFewWords = refl
called-back Form = refl
called-back OfficeCount = refl
called-back RowCount = refl
called-back Layout = refl
called-back NodeType = refl
called-back NodeNumber = refl
called-back NodeOffices = refl
called-back NodeRepeated = refl
called-back NodeOrder = refl
called-back EdgeKind = refl
called-back EdgeEnd = refl
called-back EndTypes = refl
called-back WithinItself = refl
called-back EdgeOffices = refl
called-back EdgeRepeated = refl
called-back EdgeOrder = refl
called-back NoOffice = refl
called-back UnknownPerson = refl
called-back UnknownDeed = refl
called-back UnknownFolio = refl
called-back UnknownCategory = refl
called-back OutputShort = refl
called-back NothingFound = refl
called-back NoRule = refl
called-back NotOneOffice = refl
called-back UnionNodes = refl
called-back UnionEdges = refl
called-back EqualDeeds = refl
called-back NoIdentity = refl
called-back FileLength = refl
called-back UnlikeLine = refl
called-back LineNumber = refl
called-back LineRepeated = refl
called-back EndMissing = refl
called-back EarlierMinute = refl
called-back TableFull = refl
called-back TraceRow = refl
called-back FolioTwice = refl

-- no two are one number, so that the number says which fault it is
pub fault-one : (f g : Fault) → fault_number f ≡ fault_number g → f ≡ g
fault-one f g e = sym (called-back f) ∙ (ap called e ∙ called-back g)

-- what is returned early is the number of the whole table
pub fault-first : (f : Fault) (x rest : ℕ) → fault_number f ≡ x → fault_number f ≡ x or_else rest
fault-first f x rest e = some_is (fault_number f) x rest e (fault-some f)

-- .. and with its place the refusal
pub fault-refuses : (f : Fault) (x p i : ℕ) (rest : Refusal) → fault_number f ≡ x → record { number = fault_number f; sheet = p; row = i } ≡ refuse x p i rest
fault-refuses f x p i rest e = refuse-some-is (fault_number f) x p i rest e (fault-some f)

-- three tables, one after the other
pub else-after : (x y z : ℕ) → (x or_else y) or_else z ≡ x or_else (y or_else z)
unfolding ◌or_else◌
else-after zero y z = refl
else-after (suc x) y z = refl
