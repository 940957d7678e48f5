-- The types of a node and the kinds of an edge, by the document's numbers. src/lib.rt has the same numbers for the code.
-- Assumes nothing.
use Rattle.std.specs.Prelude.{ℕ}

-- a node row's type, the lowest and the highest being the first and the last
abbrev pub person_type : ℕ
person_type = 1

abbrev pub category_type : ℕ
category_type = 2

abbrev pub deed_type : ℕ
deed_type = 3

abbrev pub folio_type : ℕ
folio_type = 4

-- an edge row's kind, likewise: member, "from" is contained in "to", grant, ban, applies
abbrev pub member_kind : ℕ
member_kind = 1

abbrev pub contained_kind : ℕ
contained_kind = 2

abbrev pub grant_kind : ℕ
grant_kind = 3

abbrev pub ban_kind : ℕ
ban_kind = 4

abbrev pub applies_kind : ℕ
applies_kind = 5
