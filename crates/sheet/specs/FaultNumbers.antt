-- The numbers of the document's table, by what they are called.
-- Assumes nothing.
use Rattle.std.specs.Prelude.{ℕ, Result, Ok, Err}
use Rattle.sheet.specs.declared.fault.Fault.{Fault}
use Rattle.sheet.specs.declared.fault.Fault.TheVariants.{TooFewWords, Form, OfficeCount, RowCount, Layout, NodeType, NodeNumber, NodeOffices, NodeRepeated, NodeOrder, EdgeKind, EdgeEnd, EndTypes, WithinItself, EdgeOffices, EdgeRepeated, EdgeOrder, NoOffice, UnknownPerson, UnknownDeed, UnknownFolio, UnknownCategory, OutputShort, NothingFound, NoRule, NotOneOffice, UnionNodes, UnionEdges, EqualDeeds, NoIdentity, FileLength, UnlikeLine, LineNumber, LineRepeated, EndMissing, EarlierMinute, TableFull, TraceRow, FolioTwice}

-- what refuses something, as its number in the table
abbrev pub fault_number : Fault → ℕ
fault_number TooFewWords = 1
fault_number Form = 2
fault_number OfficeCount = 3
fault_number RowCount = 4
fault_number Layout = 5
fault_number NodeType = 6
fault_number NodeNumber = 7
fault_number NodeOffices = 8
fault_number NodeRepeated = 9
fault_number NodeOrder = 10
fault_number EdgeKind = 11
fault_number EdgeEnd = 12
fault_number EndTypes = 13
fault_number WithinItself = 14
fault_number EdgeOffices = 15
fault_number EdgeRepeated = 16
fault_number EdgeOrder = 17
fault_number NoOffice = 20
fault_number UnknownPerson = 21
fault_number UnknownDeed = 22
fault_number UnknownFolio = 23
fault_number UnknownCategory = 24
fault_number OutputShort = 25
fault_number NothingFound = 26
fault_number NoRule = 27
fault_number NotOneOffice = 28
fault_number UnionNodes = 29
fault_number UnionEdges = 30
fault_number EqualDeeds = 31
fault_number NoIdentity = 32
fault_number FileLength = 33
fault_number UnlikeLine = 40
fault_number LineNumber = 41
fault_number LineRepeated = 42
fault_number EndMissing = 43
fault_number EarlierMinute = 50
fault_number TableFull = 51
fault_number TraceRow = 54
fault_number FolioTwice = 59

-- the number of what refuses something, or 0 where nothing does
abbrev pub number_in : {T : Type 0} → Result T Fault → ℕ
number_in (Ok t) = 0
number_in (Err f) = fault_number f
