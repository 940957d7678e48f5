-- Request 2026-02's own case, and the case of two listed edges, by computation: the sheets are accepted, a path is shown or refuted, and a row that goes leaves all others.
-- Assumes nothing.
use Prim.Native.Nat.{ℕ, ◌+◌, ◌≤◌}
use native.Mathlib.Omega.{arith}
use native.Mathlib.Nat.{zero-add}
use mathlib.Core.Path.{◌≡◌, refl, sym, ap, ◌∙◌}
use mathlib.Core.Bool.{true, not, cond, ◌&&◌, true≢false}
use mathlib.Core.List.{List, [], ◌∷◌, ◌++◌}
use lib.Dec.{eqb}
use lib.ListN.{length}
use borrow.Author.Tests.{eqb-true}
use Rattle.tables.specs.Key.{Key, relation, same_key}
use Rattle.tables.specs.Table.{Row, Table, rows_of, marks_at}
use Rattle.tables.specs.Office.{View, some_of, holds, held_by}
use Rattle.tables.proofs.Keys.{ne_same}
use Rattle.sheet.specs.Kinds.{member_kind, contained_kind, grant_kind, ban_kind, applies_kind}
use Rattle.sheet.specs.Limits.{max_edges, edge_words, edge_place}
use Rattle.sheet.specs.Refusals.{◌when◌otherwise◌, ◌or_else◌, refuse, ◌then◌, first_row}
use Rattle.sheet.specs.Rows.{header_of, node_at, edge_at}
use Rattle.sheet.specs.Verdict.{header_fault, sheet_fault, node_fault, row_order, edge_shape, edge_fit, node_fault_at, edge_rest, edge_fault_at, rows_verdict, verdict}
use Rattle.sheet.specs.Accepted.{Accepted}
use Rattle.sheet.specs.Named.{node_row, edge_row, tables_of, seen_at}
use Rattle.sheet.proofs.Accepting.{accepted}
use Rattle.paths.specs.Leads.{leads, Reach, here, more}
use Rattle.paths.proofs.Tests.{and_left, and_right, ◌implies◌}
use Rattle.paths.proofs.Ways.{first_step}
use Rattle.meaning.specs.Paths.{Side, grant, ban, person, category, deed, folio, contained, right, path, spell, is_path}
use Rattle.meaning.specs.Questions.{AlsoMember, Redundant, member-row, containment-row, right-row}
use Rattle.meaning.proofs.Every.{rests, Test, tried, every-edge}
use Rattle.meaning.proofs.Ships.{by, never, answer-by}
use Rattle.demands.specs.Pruning.{sheet_ban, sheet_lost, sheet_ring, sheet_one, sheet_none, OwnCase, NotBoth}

all-accepted : Accepted sheet_ban × Accepted sheet_lost × Accepted sheet_ring × Accepted sheet_one × Accepted sheet_none
unfolding sheet_ban sheet_lost sheet_ring sheet_one sheet_none verdict rows_verdict sheet_fault header_fault max_edges node_fault_at node_fault row_order edge_fault_at edge_shape edge_rest edge_fit refuse ◌then◌ first_row ◌or_else◌ ◌when◌otherwise◌ header_of node_at edge_at edge_place edge_words
all-accepted = (accepted 1 sheet_ban refl, accepted 1 sheet_lost refl, accepted 1 sheet_ring refl, accepted 1 sheet_one refl, accepted 1 sheet_none refl)

-- a row that goes leaves the marks at every other key
marks-left : (before : Table) (r : Row) (after : Table) (k : Key) → (k ≡ r.key → ⊥) → marks_at (before ++ after) k ≡ marks_at (before ++ (r ∷ after)) k
unfolding marks_at
marks-left [] r after k n = sym (rw (ne_same r.key k (λ e. n (sym e))) (zero-add (marks_at after k)))
marks-left (b ∷ before) r after k n = ap (λ (m : ℕ). cond (same_key b.key k) b.marks 0 + m) (marks-left before r after k n)

-- the rows of the sheets below, each of office 1
abbrev row : Key → Row
row k = record { key = k; marks = 1 }

abbrev in21 : Row
in21 = row (relation member_kind (person 11) (category 21))

abbrev in22 : Row
in22 = row (relation member_kind (person 11) (category 22))

abbrev up : Row
up = row (relation contained_kind (category 21) (category 22))

abbrev down : Row
down = row (relation contained_kind (category 22) (category 21))

abbrev granted : Row
granted = row (relation grant_kind (category 21) (deed 31 0))

abbrev banned : Row
banned = row (relation ban_kind (category 22) (deed 31 0))

abbrev applied : Row
applied = row (relation applies_kind (deed 31 0) (folio 41))

-- ---- the request's own case lists no row

abbrev g : View
g = seen_at sheet_ban 1

-- one containment, from 21 to 22; one ban, on 22; no grant
abbrev only_these : Test
only_these kind n v n' v' = (eqb kind 2 implies (eqb n 21 && eqb n' 22)) && ((eqb kind 4 implies eqb n 22) && not (eqb kind 3))

only : (k : Key) → g.edge k ≡ true → tried only_these k ≡ true
unfolding sheet_ban header_of node_at edge_at edge_place edge_words node_row edge_row tables_of
only k e = every-edge sheet_ban all-accepted.0 1 only_these refl k e

contained-only : (a b : ℕ) → contained g a b ≡ true → (a ≡ 21) × (b ≡ 22)
contained-only a b e = let t = and_left (eqb a 21 && eqb b 22) _ (only (relation contained_kind (category a) (category b)) e) in (eqb-true a 21 (and_left (eqb a 21) _ t), eqb-true b 22 (and_right (eqb a 21) _ t))

banned-only : (c d v : ℕ) → right g ban c d v ≡ true → c ≡ 22
banned-only c d v e = eqb-true c 22 (and_left (eqb c 22) _ (only (relation ban_kind (category c) (deed d v)) e))

granted-never : (c d v : ℕ) → right g grant c d v ≡ true → ⊥
granted-never c d v e = true≢false (sym (only (relation grant_kind (category c) (deed d v)) e))

ban-there : right g ban 22 31 0 ≡ true
unfolding sheet_ban header_of node_at edge_at edge_place edge_words node_row edge_row tables_of rows_of some_of holds held_by
ban-there = refl

-- nothing contains 22
stays-there : (x a : ℕ) → x ≡ 22 → Reach (contained g) x a → a ≡ 22
stays-there x a e here = e
stays-there x a e (more {b = b} s r) = absurd (omega (arith, e, (contained-only x b s).0))

no-two-steps : (a b : ℕ) (cs : List ℕ) → 2 ≤ length cs → leads (contained g) (λ c. eqb c b) a cs ≡ true → ⊥
no-two-steps a b [] l e = omega (arith, l)
no-two-steps a b (x ∷ []) l e = omega (arith, l)
no-two-steps a b (x ∷ y ∷ cs) l e =
    let f = first_step (contained g) (λ c. eqb c b) a x (y ∷ cs) e in
    omega (arith, (contained-only a x f.0).1, (contained-only x y (first_step (contained g) (λ c. eqb c b) x y cs f.2).0).0)

none-redundant : (k : Key) → Redundant g k → ⊥
none-redundant k (member-row p a e up down) =
    let m = down (record { c = 22; d = 31; variant = 0; bans = ban-there }) in
    let over = (contained-only m.leads-here.next m.c m.leads-here.first).1 in
    let under = stays-there up.leads-here.next a (contained-only up.c up.leads-here.next up.leads-here.first).1 up.leads-here.rest in
    m.another (over ∙ sym under)
none-redundant k (containment-row a b cs e long way) = no-two-steps a b cs long way
none-redundant k (right-row grant a c d v e apart on has) = granted-never c d v has
none-redundant k (right-row ban a c d v e apart on has) = apart (banned-only c d v has ∙ sym (contained-only on.next a on.first).1)

pub own-case : OwnCase
unfolding sheet_ban sheet_lost header_of node_at edge_at edge_place edge_words node_row edge_row tables_of rows_of some_of holds held_by leads path spell is_path rests marks_at
own-case =
    record {
      old-rule = record { c = 21; another = λ e. omega (arith, e); member_of = refl; leads-here = record { next = 22; first = refl; rest = here } };
      removed = record { accepted = all-accepted.1; offices = refl; nodes = λ k. refl; row = refl; others = λ k n. marks-left (in21 ∷ []) in22 (up ∷ banned ∷ applied ∷ []) k n };
      before = answer-by sheet_ban all-accepted.0 1 11 31 41 (never (21 ∷ 22 ∷ [])) (by (11 ∷ 0 ∷ 22 ∷ 0 ∷ 31 ∷ 0 ∷ 41 ∷ 0 ∷ [])) refl refl;
      after = answer-by sheet_lost all-accepted.1 1 11 31 41 (never (21 ∷ 22 ∷ [])) (never (21 ∷ [])) refl refl;
      new-rule = record { rises = tt; sound = λ x e. absurd (true≢false (sym e)); whole = λ x r. absurd (none-redundant _ r.redundant) };
    }

pub not-both : NotBoth
unfolding sheet_ring sheet_one sheet_none header_of node_at edge_at edge_place edge_words node_row edge_row tables_of rows_of some_of holds held_by leads path spell is_path rests marks_at
not-both =
    record {
      listed = (
        record { inside = omega arith; bears = refl; redundant = member-row 11 21 refl (also21 grant) (λ b. also21 ban) },
        record { inside = omega arith; bears = refl; redundant = member-row 11 22 refl (also22 grant) (λ b. also22 ban) },
      );
      first_goes = record { accepted = all-accepted.3; offices = refl; nodes = λ k. refl; row = refl; others = λ k n. marks-left [] in21 (in22 ∷ up ∷ down ∷ granted ∷ applied ∷ []) k n };
      second-goes = record { accepted = all-accepted.4; offices = refl; nodes = λ k. refl; row = refl; others = λ k n. marks-left [] in22 (up ∷ down ∷ granted ∷ applied ∷ []) k n };
      before = answer-by sheet_ring all-accepted.2 1 11 31 41 (by (11 ∷ 0 ∷ 21 ∷ 0 ∷ 31 ∷ 0 ∷ 41 ∷ 0 ∷ [])) (never (21 ∷ 22 ∷ [])) refl refl;
      between = answer-by sheet_one all-accepted.3 1 11 31 41 (by (11 ∷ 0 ∷ 22 ∷ 0 ∷ 21 ∷ 0 ∷ 31 ∷ 0 ∷ 41 ∷ 0 ∷ [])) (never (21 ∷ 22 ∷ [])) refl refl;
      after = answer-by sheet_none all-accepted.4 1 11 31 41 (never []) (never []) refl refl;
    }
  where
    also21 : (side : Side) → AlsoMember (seen_at sheet_ring 1) side 11 21
    also21 grant = record { c = 22; another = λ e. omega (arith, e); member_of = refl; leads-here = record { next = 21; first = refl; rest = here } }
    also21 ban = record { c = 22; another = λ e. omega (arith, e); member_of = refl; leads-here = record { next = 21; first = refl; rest = here } }

    also22 : (side : Side) → AlsoMember (seen_at sheet_ring 1) side 11 22
    also22 grant = record { c = 21; another = λ e. omega (arith, e); member_of = refl; leads-here = record { next = 22; first = refl; rest = here } }
    also22 ban = record { c = 21; another = λ e. omega (arith, e); member_of = refl; leads-here = record { next = 22; first = refl; rest = here } }
