-- What each of the nine lines names: an identity, or a relation between two.
-- Assumes nothing.
use Rattle.std.specs.Prelude.{ℕ, ◌-◌, Bool, cond, ◌&&◌, ◌||◌, [], ◌∷◌}
use Rattle.tables.specs.Key.{Key, identity, relation, same_key}
use Rattle.sheet.specs.Kinds.{person_type, category_type, deed_type, folio_type, member_kind, contained_kind, applies_kind}
use Rattle.sheet.specs.Refusals.{◌is◌, ◌below◌}
use Rattle.lines.specs.declared.Line.{Line}

-- the first four forms are node lines, and a form is then the type that it names
abbrev pub is_node_line : Line → Bool
is_node_line l = l.form below 5

-- the identity that a node line names
abbrev pub identity_named : Line → Key
identity_named l = identity l.form l.first l.second

-- the kind that an edge line names: the forms behind the types
abbrev pub kind_named : Line → ℕ
kind_named l = l.form - 4

-- a node line
abbrev pub node_line : ℕ → ℕ → ℕ → Line
node_line type number variant = record { fault = 0; form = type; first = number; second = variant; third = 0 }

-- the node line of an edge line's from end: a person, a deed, or a category
unfoldable pub from_line : Line → Line
from_line l =
    cond (kind_named l is member_kind) (node_line person_type l.first 0)
    (cond (kind_named l is applies_kind) (node_line deed_type l.first l.second)
    (node_line category_type l.first 0))

-- the node line of its to end: a category, a folio, or a deed
unfoldable pub to_line : Line → Line
to_line l =
    cond (kind_named l is member_kind || kind_named l is contained_kind) (node_line category_type l.second 0)
    (cond (kind_named l is applies_kind) (node_line folio_type l.third 0)
    (node_line deed_type l.second l.third))

-- the relation that an edge line names
abbrev pub relation_named : Line → Key
relation_named l = relation (kind_named l) (identity_named (from_line l)) (identity_named (to_line l))

-- a category within itself
abbrev pub within_itself : Line → Bool
within_itself l = kind_named l is contained_kind && l.first is l.second

-- what orders lines, and tells one from another: sorted so, they stand in the order of a sheet's rows
abbrev pub line_key : Line → Key
line_key l = l.form ∷ l.first ∷ l.second ∷ l.third ∷ []

-- two lines say the same
abbrev pub same_line : Line → Line → Bool
same_line a b = same_key (line_key a) (line_key b)
