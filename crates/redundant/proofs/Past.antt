-- The other steps of a side's walk lead from a row's one end to the other exactly if something else leads there in the row's stead: by the link that the row is, a case for each kind. Other rows of the same relation make the same step.
-- Assumes nothing.
use Rattle.std.specs.Prelude.{Some}
use Prim.Native.Nat.{ℕ, suc, ◌+◌, ◌<◌, ◌≤◌}
use native.Mathlib.Omega.{arith}
use mathlib.Core.Path.{◌≡◌, refl, sym, ap, subst, ◌∙◌}
use mathlib.Core.Bool.{Bool, true, false}
use mathlib.Core.List.{List}
use lib.Dec.{eqb}
use lib.ListN.{length}
use Rattle.tables.specs.Key.{Key, relation}
use Rattle.tables.specs.Office.{View}
use Rattle.sheet.specs.Kinds.{member_kind, contained_kind}
use Rattle.sheet.specs.declared.Edge.{Edge}
use Rattle.sheet.specs.declared.Seat.{Seat}
use Rattle.sheet.specs.Rows.{header_of, node_at, edge_of, edge_table, node_key_at}
use Rattle.sheet.specs.Accepted.{Accepted}
use Rattle.sheet.specs.Seats.{counts_at, seen_from}
use Rattle.paths.specs.Leads.{leads, Reach, here, more, Beyond}
use Rattle.paths.specs.Reached.{Reached, start, then}
use Rattle.paths.specs.Best.{Trail, ends, goes}
use Rattle.paths.proofs.Tests.{and_right}
use Rattle.meaning.specs.Paths.{Side, right_kind, person, category, deed, member, right, step}
use Rattle.meaning.specs.Questions.{AlsoMember}
use Rattle.walk.specs.declared.Walk.{Walk}
use Rattle.walk.specs.Arcs.{takes, turned, tail_of, head_of, arc_at, Steps, leaving_out}
use Rattle.walk.proofs.Walking.{step-inside, other_step, other-apart, step_other}
use Rattle.ask.proofs.Links.{walk_for, Link, joins, climbs, gives-right, serves, link-of, member-arc, step-arc, right-arc, same_row}
use Rattle.reach.specs.Reaching.{LeadsTo}
use Rattle.reach.proofs.Reaching.{StepFor, own-step, any_step}
use Rattle.paths.proofs.Detours.{without, kept, still, never, Detour, detour-of, detour-reach}
use Rattle.redundant.proofs.Taking.{Own, own_of, kind_by, kind-by}

-- reached in some steps and not where it started
beyond-of : (R : ℕ → ℕ → Bool) {a c : ℕ} → Reach R a c → (a ≡ c → ⊥) → Beyond R a c
beyond-of R here n = absurd (n refl)
beyond-of R (more {b = b} e r) n = record { next = b; first = e; rest = r }

-- a walk listed from its start on
unrolled : (R : ℕ → ℕ → Type 0) (x y : ℕ) {n z : ℕ} {l : List ℕ} → Reached R (λ q. q ≡ x) n z → Trail R (λ q. q ≡ y) z l → (l' : List ℕ) × Trail R (λ q. q ≡ y) x l'
unrolled R x y {l = l} (start e) w = (l, subst (λ (q : ℕ). Trail R (λ q. q ≡ y) q l) e w)
unrolled R x y (then r st) w = unrolled R x y r (goes st w)

-- what the walk of a side finds past a relation, by its kind
pub data PastBy (g : View) (side : Side) (k : Key) : Type 0 where
  also-member : (p a : ℕ) → k ≡ relation member_kind (person p) (category a) → AlsoMember g side p a → PastBy g side k
  also-contained : (a b : ℕ) (cs : List ℕ) → k ≡ relation contained_kind (category a) (category b) → 2 ≤ length cs → leads (step g side) (λ c. eqb c b) a cs ≡ true → PastBy g side k
  also-right : (a c d v : ℕ) → k ≡ relation (right_kind side) (category a) (deed d v) → (c ≡ a → ⊥) → Beyond (step g side) a c → right g side c d v ≡ true → PastBy g side k

module _ (s : List ℕ) (acc : Accepted s) (seat : Seat) (side : Side) (j : ℕ) where
  abbrev g : View
  g = seen_from s seat

  abbrev edge : ℕ → Edge
  edge i = edge_of s i

  abbrev from : ℕ
  from = (edge j).from

  abbrev to : ℕ
  to = (edge j).to

  abbrev class : ℕ → ℕ
  class i = (node_at s i).class

  -- the walk for any deed
  abbrev w : Walk
  w = walk_for seat side 0

  -- the walk but for the row's own step
  abbrev past : Walk
  past = leaving_out w (Some (record { from = from; to = to }))

  abbrev OtherSteps : ℕ → ℕ → Type 0
  OtherSteps = Steps s (edge_table s) past (header_of s).edges

  -- the other steps lead from the row's one end to the other
  abbrev pub Past : Type 0
  Past = LeadsTo s (edge_table s) (header_of s) past from to

  -- a link by another row
  record Aside (a b : ℕ) : Type 0 where
    pub for : ℕ
    pub link : Link s acc seat side for a b
    pub inside : b < (header_of s).nodes
    pub apart : a ≡ from → b ≡ to → ⊥

  -- the walk takes row j, and not backwards
  module _ (inside : j < (header_of s).edges) (taken : takes w (edge j) (node_at s to) ≡ true) (straight : turned w (edge j) ≡ false) where
    own-kind : (i : ℕ) → takes w (edge i) (node_at s (edge i).to) ≡ true → Own side (edge i).kind
    unfolding takes
    own-kind i e = own_of side (edge i).kind _ (and_right (counts_at seat (edge i)) _ e)

    -- ---- each other step is a link with other ends, and each such link is another step

    aside-of : (a b : ℕ) → OtherSteps a b → Aside a b
    aside-of a b x =
        let y = other_step s (edge_table s) seat (right_kind side) 0 from to (header_of s).edges a b x in
        let o = any_step s acc seat side 0 a b y in
        record {
          for = o.0;
          link = link-of s acc seat side o.0 o.1 a b o.3;
          inside = (step-inside s (edge_table s) (header_of s) past acc a b x).1;
          apart = other-apart s (edge_table s) seat (right_kind side) 0 from to (header_of s).edges a b x;
        }

    -- the ends of row j
    leaves-from : tail_of w (edge j) ≡ from
    unfolding tail_of
    leaves-from = rw straight

    enters-to : head_of w (edge j) ≡ to
    unfolding head_of
    enters-to = rw straight

    past-step : (a b : ℕ) → StepFor s acc seat side 0 a b → (a ≡ from → b ≡ to → ⊥) → OtherSteps a b
    past-step a b x apart = step_other s (edge_table s) seat (right_kind side) 0 from to (header_of s).edges a b x apart

    -- ---- where a walk by other steps leads: types never fall, and from a deed on they rise

    rises : (d a b : ℕ) → Link s acc seat side d a b → (class a ≤ class b) × (3 ≤ class a → class a < class b)
    rises d a b (joins p c u v m) = let x : class a ≡ 1 = cc in let y : class b ≡ 2 = cc in (omega arith, λ h. omega arith)
    rises d a b (climbs c c' u v m) = let x : class a ≡ 2 = cc in let y : class b ≡ 2 = cc in (omega arith, λ h. omega arith)
    rises d a b (gives-right c v u v' m) = let x : class a ≡ 2 = cc in let y : class b ≡ 3 = cc in (omega arith, λ h. omega arith)
    rises d a b (serves x v f u v' m) = let x : class a ≡ 3 = cc in let y : class b ≡ 4 = cc in (omega arith, λ h. omega arith)

    abbrev Way-on : ℕ → List ℕ → Type 0
    Way-on z l = Trail OtherSteps (λ x. x ≡ to) z l

    never-falls : (z : ℕ) (l : List ℕ) → Way-on z l → class z ≤ class to
    never-falls z l (ends e) = omega (arith, ap class e)
    never-falls z l (goes {b = b} {l = l'} st v) = let a = aside-of z b st in omega (arith, (rises a.for z b a.link).0, never-falls b l' v)

    stays : (z : ℕ) (l : List ℕ) → 3 ≤ class z → class to ≤ class z → Way-on z l → z ≡ to
    stays z l h e (ends q) = q
    stays z l h e (goes {b = b} {l = l'} st v) = let a = aside-of z b st in let r = (rises a.for z b a.link).1 h in absurd (omega (arith, never-falls b l' v))

    -- ---- climbing: R has the steps between categories that are not row j's

    record Climbs (R : ℕ → ℕ → Bool) : Type 0 where
      pub up : (a b c c' : ℕ) → a < (header_of s).nodes → b < (header_of s).nodes → node_key_at s a ≡ category c → node_key_at s b ≡ category c' → step g side c c' ≡ true → (a ≡ from → b ≡ to → ⊥) → R c c' ≡ true
      pub is-step : (c c' : ℕ) → R c c' ≡ true → step g side c c' ≡ true
      pub apart : (a b c c' : ℕ) → node_key_at s a ≡ category c → node_key_at s b ≡ category c' → R c c' ≡ true → a ≡ from → b ≡ to → ⊥

    from_in : from < (header_of s).nodes
    from_in = (acc.edges.shaped j inside).from

    to_in : to < (header_of s).nodes
    to_in = (acc.edges.shaped j inside).to

    one-node : (a b : ℕ) (x : Key) → a < (header_of s).nodes → b < (header_of s).nodes → node_key_at s a ≡ x → node_key_at s b ≡ x → a ≡ b
    one-node a b x l m p q = same_row s acc seat side 0 a b x l m p q

    same_number : (a b c c' : ℕ) → a ≡ b → node_key_at s a ≡ category c → node_key_at s b ≡ category c' → c ≡ c'
    same_number a b c c' e p q = let r : category c ≡ category c' = sym p ∙ ap (node_key_at s) e ∙ q in cc

    -- every step, where row j is no containment
    climb-all : (class from ≡ 2 → class to ≡ 2 → ⊥) → Climbs (step g side)
    climb-all n =
        record {
          up = λ a b c c' l m p q e x. e;
          is-step = λ c c' e. e;
          apart = λ a b c c' p q e x y. n (ap class (sym x) ∙ is-two a c p) (ap class (sym y) ∙ is-two b c' q);
        }
      where
        is-two : (a c : ℕ) → node_key_at s a ≡ category c → class a ≡ 2
        is-two a c p = cc

    -- every step but its own, where it is one
    climb-past : (x y : ℕ) → node_key_at s from ≡ category x → node_key_at s to ≡ category y → Climbs (without (step g side) x y)
    climb-past x y u v =
        record {
          up = λ a b c c' l m p q e n. kept (step g side) x y c c' e (λ i i'. n (one-node a from (category x) l from_in (p ∙ ap (λ (z : ℕ). category z) i) u) (one-node b to (category y) m to_in (q ∙ ap (λ (z : ℕ). category z) i') v));
          is-step = λ c c' e. still (step g side) x y c c' e;
          apart = λ a b c c' p q e i i'. never (step g side) x y (subst (λ (z : ℕ). without (step g side) x y x z ≡ true) (same_number b to c' y i' q v) (subst (λ (z : ℕ). without (step g side) x y z c' ≡ true) (same_number a from c x i p u) e));
        }

    -- ---- from a walk to what it means

    to-category : (R : ℕ → ℕ → Bool) → Climbs R → (y : ℕ) → node_key_at s to ≡ category y → (z c : ℕ) (l : List ℕ) → z < (header_of s).nodes → node_key_at s z ≡ category c → Way-on z l → Reach R c y
    to-category R C y v z c l h e (ends q) = subst (λ (x : ℕ). Reach R c x) (same_number z to c y q e v) here
    to-category R C y v z c l h e (goes {b = b} {l = l'} st w') = by A.link (λ c' e'. to-category R C y v b c' l' A.inside e' w')
      where
        A : Aside z b
        A = aside-of z b st

        by : Link s acc seat side A.for z b → ((c' : ℕ) → node_key_at s b ≡ category c' → Reach R c' y) → Reach R c y
        by (joins p c' u x m) later = absurd (let i : ◌≡◌ {A = ℕ} 1 2 = cc in omega arith)
        by (climbs c₁ c₂ u x m) later =
            let i : c₁ ≡ c = cc in
            more (C.up z b c c₂ h A.inside e x (subst (λ (q : ℕ). step g side q c₂ ≡ true) i m) A.apart) (later c₂ x)
        by (gives-right c' x u u' m) later = let i : class b ≡ 3 = cc in let i' : class to ≡ 2 = cc in absurd (omega (arith, never-falls b l' w'))
        by (serves x x' f u u' m) later = absurd (let i : ◌≡◌ {A = ℕ} 3 2 = cc in omega arith)

    -- the last category of a walk that enters a deed
    record Lent (c d v : ℕ) : Type 0 where
      pub last : ℕ
      pub row : ℕ
      pub row_in : row < (header_of s).nodes
      pub names : node_key_at s row ≡ category last
      pub reached : Reach (step g side) c last
      pub gives : right g side last d v ≡ true
      pub apart : row ≡ from → ⊥

    to-deed : (d v : ℕ) → node_key_at s to ≡ deed d v → (z c : ℕ) (l : List ℕ) → z < (header_of s).nodes → node_key_at s z ≡ category c → Way-on z l → Lent c d v
    to-deed d v t z c l h e (ends q) = absurd (let r : category c ≡ deed d v = sym e ∙ ap (node_key_at s) q ∙ t in let i : ◌≡◌ {A = ℕ} 2 3 = cc in omega arith)
    to-deed d v t z c l h e (goes {b = b} {l = l'} st w') = by A.link (λ c' e'. to-deed d v t b c' l' A.inside e' w')
      where
        A : Aside z b
        A = aside-of z b st

        by : Link s acc seat side A.for z b → ((c' : ℕ) → node_key_at s b ≡ category c' → Lent c' d v) → Lent c d v
        by (joins p c' u x m) later = absurd (let i : ◌≡◌ {A = ℕ} 1 2 = cc in omega arith)
        by (climbs c₁ c₂ u x m) later =
            let i : c₁ ≡ c = cc in
            let r = later c₂ x in
            record { last = r.last; row = r.row; row_in = r.row_in; names = r.names; reached = more (subst (λ (q : ℕ). step g side q c₂ ≡ true) i m) r.reached; gives = r.gives; apart = r.apart }
        by (gives-right c' x u u' m) later =
            let i : class b ≡ 3 = cc in
            let i' : class to ≡ 3 = cc in
            let q : b ≡ to = stays b l' (omega arith) (omega arith) w' in
            let r : deed A.for x ≡ deed d v = sym u' ∙ ap (node_key_at s) q ∙ t in
            let a : c' ≡ c = cc in
            let b' : A.for ≡ d = cc in
            let b'' : x ≡ v = cc in
            record {
              last = c;
              row = z;
              row_in = h;
              names = e;
              reached = here;
              gives = subst (λ (y : ℕ). right g side c d y ≡ true) b'' (subst (λ (y : ℕ). right g side c y x ≡ true) b' (subst (λ (y : ℕ). right g side y A.for x ≡ true) a m));
              apart = λ y. A.apart y q;
            }
        by (serves x x' f u u' m) later = absurd (let i : ◌≡◌ {A = ℕ} 3 2 = cc in omega arith)

    listed : Past → (l : List ℕ) × Way-on from l
    listed P = unrolled OtherSteps from to P.reached (ends refl)

    -- a member row: another category of the person's leads on to this one
    past-member : (p y : ℕ) → node_key_at s from ≡ person p → node_key_at s to ≡ category y → Past → AlsoMember g side p y
    past-member p y u v P = go from refl (listed P).0 (listed P).1
      where
        by : (z b : ℕ) (l : List ℕ) → z ≡ from → (A : Aside z b) → Link s acc seat side A.for z b → Way-on b l → AlsoMember g side p y
        by z b l e A (joins p' c x x' m) w' =
            let a : person p' ≡ person p = sym x ∙ ap (node_key_at s) e ∙ u in
            let i : p' ≡ p = cc in
            let n : c ≡ y → ⊥ = λ q. A.apart e (one-node b to (category y) A.inside to_in (x' ∙ ap (λ (j : ℕ). category j) q) v) in
            let r = to-category (step g side) (climb-all (λ q q'. let q'' : class from ≡ 1 = cc in omega arith)) y v b c l A.inside x' w' in
            record { c = c; another = n; member_of = subst (λ (q : ℕ). member g q c ≡ true) i m; leads-here = beyond-of (step g side) r n }
        by z b l e A (climbs c c' x x' m) w' = absurd (let q : category c ≡ person p = sym x ∙ ap (node_key_at s) e ∙ u in let i : ◌≡◌ {A = ℕ} 2 1 = cc in omega arith)
        by z b l e A (gives-right c d x x' m) w' = absurd (let q : category c ≡ person p = sym x ∙ ap (node_key_at s) e ∙ u in let i : ◌≡◌ {A = ℕ} 2 1 = cc in omega arith)
        by z b l e A (serves d d' f x x' m) w' = absurd (let q : deed d d' ≡ person p = sym x ∙ ap (node_key_at s) e ∙ u in let i : ◌≡◌ {A = ℕ} 3 1 = cc in omega arith)

        go : (z : ℕ) → z ≡ from → (l : List ℕ) → Way-on z l → AlsoMember g side p y
        go z e l (ends q) = absurd (let r : person p ≡ category y = sym u ∙ ap (node_key_at s) (sym e ∙ q) ∙ v in let i : ◌≡◌ {A = ℕ} 1 2 = cc in omega arith)
        go z e l (goes {b = b} {l = l'} st w') = let A = aside-of z b st in by z b l' e A A.link w'

    past-contained : (x y : ℕ) → node_key_at s from ≡ category x → node_key_at s to ≡ category y → (from ≡ to → ⊥) → Past → Detour (step g side) x y
    past-contained x y u v n P =
        detour-of (step g side) x y (λ q. n (one-node from to (category y) from_in to_in (u ∙ ap (λ (j : ℕ). category j) q) v))
        (to-category (without (step g side) x y) (climb-past x y u v) y v from x (listed P).0 from_in u (listed P).1)

    -- a right: another category that this one leads on to has it
    abbrev Borne : ℕ → ℕ → ℕ → Type 0
    Borne x d v = (c : ℕ) × (c ≡ x → ⊥) × Beyond (step g side) x c × (right g side c d v ≡ true)

    past-right : (x d v : ℕ) → node_key_at s from ≡ category x → node_key_at s to ≡ deed d v → Past → Borne x d v
    past-right x d v u t P =
        let r = to-deed d v t from x (listed P).0 from_in u (listed P).1 in
        let n : r.last ≡ x → ⊥ = λ q. r.apart (one-node r.row from (category x) r.row_in from_in (r.names ∙ ap (λ (j : ℕ). category j) q) u) in
        (r.last, n, beyond-of (step g side) r.reached (λ q. n (sym q)), r.gives)

    -- nothing else leads from a deed to a folio
    past-applies : class from ≡ 3 → class to ≡ 4 → Past → ⊥
    past-applies x y P = go from refl (listed P).0 (listed P).1
      where
        go : (z : ℕ) → z ≡ from → (l : List ℕ) → Way-on z l → ⊥
        go z e l (ends q) = omega (arith, ap class e, ap class q)
        go z e l (goes {b = b} {l = l'} st w') =
            let A = aside-of z b st in
            let h = ap class e in
            let r = (rises A.for z b A.link).1 (omega arith) in
            A.apart e (stays b l' (omega arith) (omega arith) w')

    -- ---- and back

    record Landed (c : ℕ) : Type 0 where
      pub steps : ℕ
      pub row : ℕ
      pub reached : Reached OtherSteps (λ x. x ≡ from) steps row
      pub row_in : row < (header_of s).nodes
      pub names : node_key_at s row ≡ category c

    climbed : (R : ℕ → ℕ → Bool) → Climbs R → (c c' : ℕ) → Landed c → Reach R c c' → Landed c'
    climbed R C c c' a here = a
    climbed R C c c' a (more {b = b} e r) =
        let o = step-arc s acc seat side 0 a.row c b a.row_in a.names (C.is-step c b e) in
        climbed R C b c'
        (record { steps = suc a.steps; row = o.row; reached = then a.reached (past-step a.row o.row o.arc (C.apart a.row o.row c b a.names o.names e)); row_in = o.inside; names = o.names }) r

    -- the row that was looked for
    landed : (y : ℕ) → node_key_at s to ≡ category y → Landed y → Past
    landed y v a = record { steps = a.steps; reached = subst (λ (z : ℕ). Reached OtherSteps (λ x. x ≡ from) a.steps z) (one-node a.row to (category y) a.row_in to_in a.names v) a.reached }

    outset : (x : ℕ) → node_key_at s from ≡ category x → Landed x
    outset x u = record { steps = 0; row = from; reached = start refl; row_in = from_in; names = u }

    member-past : (p y : ℕ) → node_key_at s from ≡ person p → node_key_at s to ≡ category y → AlsoMember g side p y → Past
    member-past p y u v e =
        let o = member-arc s acc seat side 0 from p e.c from_in u e.member_of in
        let n : o.row ≡ to → ⊥ = λ q. e.another (same_number o.row to e.c y q o.names v) in
        landed y v (climbed (step g side) (climb-all (λ q q'. let q'' : class from ≡ 1 = cc in omega arith)) e.c y
        (record { steps = 1; row = o.row; reached = then (start refl) (past-step from o.row o.arc (λ q. n)); row_in = o.inside; names = o.names })
        (more e.leads-here.first e.leads-here.rest))

    contained-past : (x y : ℕ) (cs : List ℕ) → node_key_at s from ≡ category x → node_key_at s to ≡ category y → 2 ≤ length cs → leads (step g side) (λ c. eqb c y) x cs ≡ true → Past
    contained-past x y cs u v l e = landed y v (climbed (without (step g side) x y) (climb-past x y u v) x y (outset x u) (detour-reach (step g side) x y cs l e))

    right-past : (x d v : ℕ) → node_key_at s from ≡ category x → node_key_at s to ≡ deed d v → Borne x d v → Past
    right-past x d v u t e =
        let a = climbed (step g side) (climb-all (λ q q'. let q'' : class to ≡ 3 = cc in omega arith)) x e.0 (outset x u) (more e.2.first e.2.rest) in
        let o = right-arc s acc seat side d a.row e.0 v a.row_in a.names e.3 in
        let y = own-step s acc seat side 0 d a.row o.row (λ n. absurd (n refl)) o.arc in
        record {
          steps = suc a.steps;
          reached = then a.reached (subst (λ (z : ℕ). OtherSteps a.row z) (one-node o.row to (deed d v) o.inside to_in o.names t)
              (past-step a.row o.row y (λ q q'. e.1 (same_number a.row from e.0 x q a.names u))));
        }

    -- ---- by the link that row j is itself

    own-link : (d : ℕ) × Link s acc seat side d from to
    unfolding arc_at
    own-link =
        let o = any_step s acc seat side 0 from to (record { row = j; inside = inside; is = taken; leaves = leaves-from; enters = enters-to }) in
        (o.0, link-of s acc seat side o.0 o.1 from to o.3)

    kind-for : (n : ℕ) → class from + class to ≡ n → (edge j).kind ≡ kind_by side n
    kind-for n e = kind-by side (edge j).kind (class from) (class to) (own-kind j taken) (acc.edges.fit j inside).ends ∙ ap (kind_by side) e

    -- what the walk finds of row j
    abbrev own_key : Key
    own_key = relation (edge j).kind (node_key_at s from) (node_key_at s to)

    pub past-found : Past → PastBy g side own_key
    past-found P = by own-link.0 own-link.1
      where
        by : (d : ℕ) → Link s acc seat side d from to → PastBy g side own_key
        by d (joins p y u v m) =
            let a : class from ≡ 1 = cc in
            let b : class to ≡ 2 = cc in
            let n = kind-for 3 (omega arith) in
            also-member p y (cc) (past-member p y u v P)
        by d (climbs x y u v m) =
            let a : class from ≡ 2 = cc in
            let b : class to ≡ 2 = cc in
            let n = kind-for 4 (omega arith) in
            let r = past-contained x y u v ((acc.edges.fit j inside).apart n) P in
            also-contained x y r.by (cc) r.long r.leads-on
        by d (gives-right x v u t m) =
            let a : class from ≡ 2 = cc in
            let b : class to ≡ 3 = cc in
            let n = kind-for 5 (omega arith) in
            let r = past-right x d v u t P in
            also-right x r.0 d v (cc) r.1 r.2 r.3
        by d (serves x v f u t m) =
            let a : class from ≡ 3 = cc in
            let b : class to ≡ 4 = cc in
            absurd (past-applies a b P)

    pub found-past : PastBy g side own_key → Past
    found-past (also-member p y q m) =
        let u : node_key_at s from ≡ person p = cc in
        let v : node_key_at s to ≡ category y = cc in
        member-past p y u v m
    found-past (also-contained x y cs q l e) =
        let u : node_key_at s from ≡ category x = cc in
        let v : node_key_at s to ≡ category y = cc in
        contained-past x y cs u v l e
    found-past (also-right x c d v q n b m) =
        let u : node_key_at s from ≡ category x = cc in
        let t : node_key_at s to ≡ deed d v = cc in
        right-past x d v u t (c, n, b, m)
