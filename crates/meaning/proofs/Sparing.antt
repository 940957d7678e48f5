-- A redundant relation can go, and no path goes with it: what stood on it stands on others. One argument for both sides.
-- Assumes nothing.
use Prim.Native.Nat.{ℕ, ◌≤◌}
use native.Mathlib.Omega.{arith}
use mathlib.Core.Path.{◌≡◌, refl, sym, ap, subst, ◌∙◌}
use mathlib.Core.Bool.{Bool, true, false, ◌&&◌}
use mathlib.Core.List.{List, [], ◌∷◌}
use mathlib.Core.Logic.{◌↔◌}
use lib.Dec.{eqb}
use lib.ListN.{length}
use Rattle.tables.specs.Key.{Key, relation, same_key}
use Rattle.tables.specs.Office.{View}
use Rattle.tables.proofs.Keys.{same_or}
use Rattle.sheet.specs.Kinds.{member_kind, contained_kind, grant_kind, ban_kind, applies_kind}
use Rattle.paths.specs.Leads.{leads, Reach, here, more, Beyond}
use Rattle.paths.proofs.Ways.{joined, reach-back, reach-map}
use Rattle.paths.proofs.Detours.{still, apart_from, detour-reach}
use Rattle.meaning.specs.Paths.{Side, grant, ban, right_kind, person, category, deed, folio, member, contained, right, applies, step, path, spell, categories_in, variant_in, is_path, HasPath}
use Rattle.meaning.specs.Answers.{Says, AnswerIs}
use Rattle.meaning.specs.Source.{Authorised}
use Rattle.meaning.specs.Questions.{HasBanRow, AlsoMember, Redundant, member-row, containment-row, right-row}
use Rattle.meaning.specs.Removed.{LacksAtMost}
use Rattle.meaning.proofs.Axioms.{inherited, inheriting, a1-a2}

-- what h has in the place of each relation of g, on a side: a membership counts where there is a right
record StandsFor (g h : View) (side : Side) : Type 0 where
  steps : (a b : ℕ) → step g side a b ≡ true → Reach (step h side) a b
  members : (p c x d v : ℕ) → member g p c ≡ true → right g side x d v ≡ true → (c' : ℕ) × (member h p c' ≡ true) × Reach (step h side) c' c
  rights : (c d v : ℕ) → right g side c d v ≡ true → (c' : ℕ) × (right h side c' d v ≡ true) × Reach (step h side) c c'
  applied : (d v f : ℕ) → applies g d v f ≡ true → applies h d v f ≡ true

stands-for-path : (g h : View) (side : Side) → StandsFor g h side → (p d f : ℕ) → Authorised g side p d f → Authorised h side p d f
stands-for-path g h side S p d f a =
    let m = S.members p a.c a.c' d a.variant a.assigned a.allowed in
    let r = S.rights a.c' d a.variant a.allowed in
    let way = reach-map S.steps (inheriting g side a.inherits) in
    record {
      c = m.0;
      c' = r.0;
      variant = a.variant;
      assigned = m.1;
      inherits = inherited h side (joined (step h side) m.2 (joined (step h side) way r.2));
      allowed = r.1;
      of = S.applied d a.variant f a.of;
    }

-- the kinds of rights are no others
right-apart : (side : Side) → (right_kind side ≡ member_kind → ⊥) × (right_kind side ≡ contained_kind → ⊥) × (right_kind side ≡ applies_kind → ⊥)
right-apart grant = (λ e. omega arith, λ e. omega arith, λ e. omega arith)
right-apart ban = (λ e. omega arith, λ e. omega arith, λ e. omega arith)

module _ (g h : View) (k : Key) (B : LacksAtMost g k h) (kind : ℕ) (rest : Key) (is : k ≡ kind ∷ rest) where
  -- ---- relations of another kind stay

  stays : (other : ℕ) (a b : Key) → (kind ≡ other → ⊥) → g.edge (relation other a b) ≡ true → h.edge (relation other a b) ≡ true
  stays other a b n e = B.all_others _ (λ z. n (cc)) e

  steps-stay : (kind ≡ contained_kind → ⊥) → (side : Side) (a b : ℕ) → step g side a b ≡ true → Reach (step h side) a b
  steps-stay n grant a b e = more (stays contained_kind (category a) (category b) n e) here
  steps-stay n ban a b e = more (stays contained_kind (category b) (category a) n e) here

  -- .. and so what is beyond stays reached
  beyond-stays : (kind ≡ contained_kind → ⊥) → (side : Side) (a b : ℕ) → Beyond (step g side) a b → Reach (step h side) a b
  beyond-stays n side a b q = reach-map (steps-stay n side) (more q.first q.rest)

  members-stay : (kind ≡ member_kind → ⊥) → (side : Side) (p c x d v : ℕ) → member g p c ≡ true → right g side x d v ≡ true → (c' : ℕ) × (member h p c' ≡ true) × Reach (step h side) c' c
  members-stay n side p c x d v e r = (c, stays member_kind (person p) (category c) n e, here)

  rights-stay : (side : Side) → (kind ≡ right_kind side → ⊥) → (c d v : ℕ) → right g side c d v ≡ true → (c' : ℕ) × (right h side c' d v ≡ true) × Reach (step h side) c c'
  rights-stay side n c d v e = (c, stays (right_kind side) (category c) (deed d v) n e, here)

  applied-stays : (kind ≡ applies_kind → ⊥) → (d v f : ℕ) → applies g d v f ≡ true → applies h d v f ≡ true
  applied-stays n d v f e = stays applies_kind (deed d v) (folio f) n e

module _ (g h : View) (k : Key) (B : LacksAtMost g k h) where
  -- ---- a membership: another of the person's, from which the side's steps lead to its category

  module _ (p a : ℕ) (is : k ≡ relation member_kind (person p) (category a)) where
    member-by : (side : Side) → ((x d v : ℕ) → right g side x d v ≡ true → AlsoMember g side p a) → (q c x d v : ℕ) → member g q c ≡ true → right g side x d v ≡ true → (c' : ℕ) × (member h q c' ≡ true) × Reach (step h side) c' c
    member-by side also q c x d v e r = same_or (relation member_kind (person q) (category c)) k _ gone (λ n. (c, B.all_others _ n e, here))
      where
        A : AlsoMember g side p a
        A = also x d v r

        gone : relation member_kind (person q) (category c) ≡ k → (c' : ℕ) × (member h q c' ≡ true) × Reach (step h side) c' c
        gone y =
            let q-is : p ≡ q = cc in
            let c-is : a ≡ c = cc in (
              A.c,
              subst (λ (z : ℕ). member h z A.c ≡ true) q-is (B.all_others _ (λ z. A.another (cc)) A.member_of),
              subst (λ (z : ℕ). Reach (step h side) A.c z) c-is (beyond-stays g h k B _ _ is (λ z. omega arith) side A.c a A.leads-here),
            )

    member-stands : AlsoMember g grant p a → (HasBanRow g → AlsoMember g ban p a) → (side : Side) → StandsFor g h side
    member-stands up down side =
        record {
          steps = steps-stay g h k B _ _ is (λ z. omega arith) side;
          members = member-by side (also side);
          rights = rights-stay g h k B _ _ is side (λ z. (right-apart side).0 (sym z));
          applied = applied-stays g h k B _ _ is (λ z. omega arith);
        }
      where
        also : (side : Side) (x d v : ℕ) → right g side x d v ≡ true → AlsoMember g side p a
        also grant x d v r = up
        also ban x d v r = down (record { c = x; d = d; variant = v; bans = r })

  -- ---- a containment: the way past it

  module _ (a b : ℕ) (is : k ≡ relation contained_kind (category a) (category b)) (cs : List ℕ) (long : 2 ≤ length cs) (way : leads (contained g) (λ c. eqb c b) a cs ≡ true) where
    past-it : Reach (contained h) a b
    past-it = reach-map (λ x y e. more (B.all_others _ (λ z. apart_from (contained g) a b x y e (cc) (cc)) (still (contained g) a b x y e)) here) (detour-reach (contained g) a b cs long way)

    contained-by : (x y : ℕ) → contained g x y ≡ true → Reach (contained h) x y
    contained-by x y e = same_or (relation contained_kind (category x) (category y)) k _ gone (λ n. more (B.all_others _ n e) here)
      where
        gone : relation contained_kind (category x) (category y) ≡ k → Reach (contained h) x y
        gone z =
            let x-is : a ≡ x = cc in
            let y-is : b ≡ y = cc in
            subst (λ (u : ℕ). Reach (contained h) u y) x-is (subst (λ (u : ℕ). Reach (contained h) a u) y-is past-it)

    step_by : (side : Side) (x y : ℕ) → step g side x y ≡ true → Reach (step h side) x y
    step_by grant x y e = contained-by x y e
    step_by ban x y e = reach-back (contained h) (contained-by y x e)

    containment-stands : (side : Side) → StandsFor g h side
    containment-stands side =
        record {
          steps = step_by side;
          members = members-stay g h k B _ _ is (λ z. omega arith) side;
          rights = rights-stay g h k B _ _ is side (λ z. (right-apart side).1 (sym z));
          applied = applied-stays g h k B _ _ is (λ z. omega arith);
        }

  -- ---- a right: that of the category to which the side's steps lead

  module _ (own : Side) (a c d v : ℕ) (is : k ≡ relation (right_kind own) (category a) (deed d v)) (apart : c ≡ a → ⊥) (on : Beyond (step g own) a c) (has : right g own c d v ≡ true) where
    own-by : (x e w : ℕ) → right g own x e w ≡ true → (c' : ℕ) × (right h own c' e w ≡ true) × Reach (step h own) x c'
    own-by x e w r = same_or (relation (right_kind own) (category x) (deed e w)) k _ gone (λ n. (x, B.all_others _ n r, here))
      where
        gone : relation (right_kind own) (category x) (deed e w) ≡ k → (c' : ℕ) × (right h own c' e w ≡ true) × Reach (step h own) x c'
        gone z =
            let x-is : a ≡ x = cc in
            let e-is : d ≡ e = cc in
            let w-is : v ≡ w = cc in (
              c,
              subst (λ (u : ℕ). right h own c u w ≡ true) e-is (subst (λ (u : ℕ). right h own c d u ≡ true) w-is (B.all_others _ (λ z. apart (cc)) has)),
              subst (λ (u : ℕ). Reach (step h own) u c) x-is (beyond-stays g h k B _ _ is (right-apart own).1 own a c on),
            )

    -- the other side's rights are of another kind
    right_by : (side : Side) (x e w : ℕ) → right g side x e w ≡ true → (c' : ℕ) × (right h side c' e w ≡ true) × Reach (step h side) x c'
    right_by side = go own side own-by (λ n. rights-stay g h k B _ _ is side n)
      where
        go : (own side : Side) → ((x e w : ℕ) → right g own x e w ≡ true → (c' : ℕ) × (right h own c' e w ≡ true) × Reach (step h own) x c')
            → ((right_kind own ≡ right_kind side → ⊥) → (x e w : ℕ) → right g side x e w ≡ true → (c' : ℕ) × (right h side c' e w ≡ true) × Reach (step h side) x c')
            → (x e w : ℕ) → right g side x e w ≡ true → (c' : ℕ) × (right h side c' e w ≡ true) × Reach (step h side) x c'
        go grant grant by other = by
        go ban ban by other = by
        go grant ban by other = other (λ z. omega arith)
        go ban grant by other = other (λ z. omega arith)

    right-stands : (side : Side) → StandsFor g h side
    right-stands side =
        record {
          steps = steps-stay g h k B _ _ is (right-apart own).1 side;
          members = members-stay g h k B _ _ is (right-apart own).0 side;
          rights = right_by side;
          applied = applied-stays g h k B _ _ is (right-apart own).2;
        }

  stands-for-by : Redundant g k → (side : Side) → StandsFor g h side
  stands-for-by (member-row p a is up down) = member-stands p a is up down
  stands-for-by (containment-row a b cs is long way) = containment-stands a b is cs long way
  stands-for-by (right-row own a c d v is apart on has) = right-stands own a c d v is apart on has

-- fewer relations have no other paths
fewer-stand : (g h : View) → ((r : Key) → h.edge r ≡ true → g.edge r ≡ true) → (side : Side) → StandsFor h g side
fewer-stand g h f side =
    record { steps = steps side; members = λ p c x d v e r. (c, f _ e, here); rights = λ c d v e. (c, f _ e, here); applied = λ d v x e. f _ e }
  where
    steps : (side : Side) (a b : ℕ) → step h side a b ≡ true → Reach (step g side) a b
    steps grant a b e = more (f _ e) here
    steps ban a b e = more (f _ e) here

-- with a redundant relation and without it there are the same paths' ends
pub path-spared : (g h : View) (k : Key) → LacksAtMost g k h → Redundant g k → (side : Side) (p d f : ℕ) → HasPath g side p d f ↔ HasPath h side p d f
path-spared g h k B R side p d f = (
  λ x. (a1-a2 h p d f side).1 (stands-for-path g h side (stands-for-by g h k B R side) p d f ((a1-a2 g p d f side).0 x)),
  λ x. (a1-a2 g p d f side).1 (stands-for-path h g side (fewer-stand g h B.no_more side) p d f ((a1-a2 h p d f side).0 x)),
)

-- what says whether P holds says whether Q does, where they are one
pub says-as : (b : Bool) {P Q : Type 0} → P ↔ Q → Says b P → Says b Q
says-as true e x = e.0 x
says-as false e x = λ q. x (e.1 q)

-- so who has the same paths has the same answer
pub answer-spared : (g h : View) (p d f r : ℕ) → ((side : Side) → HasPath g side p d f ↔ HasPath h side p d f) → AnswerIs g p d f r → AnswerIs h p d f r
answer-spared g h p d f r same a = record { grants = a.grants; bans = a.bans; granted = says-as a.grants (same grant) a.granted; banned = says-as a.bans (same ban) a.banned; number = a.number }

-- ---- paths are made of relations alone

path-edges : (g h : View) → g.edge ≡ h.edge → (side : Side) (p d f : ℕ) (cs : List ℕ) (v : ℕ) → path g side p d f cs v ≡ path h side p d f cs v
unfolding path
path-edges g h e side p d f [] v = refl
path-edges g h e grant p d f (a ∷ cs) v =
    ap (λ (E : Key → Bool). E (relation member_kind (person p) (category a)) && leads (λ x y. E (relation contained_kind (category x) (category y))) (λ x. E (relation grant_kind (category x) (deed d v)) && E (relation applies_kind (deed d v) (folio f))) a cs) e
path-edges g h e ban p d f (a ∷ cs) v =
    ap (λ (E : Key → Bool). E (relation member_kind (person p) (category a)) && leads (λ x y. E (relation contained_kind (category y) (category x))) (λ x. E (relation ban_kind (category x) (deed d v)) && E (relation applies_kind (deed d v) (folio f))) a cs) e

path-along : (g h : View) → g.edge ≡ h.edge → (side : Side) (p d f : ℕ) → HasPath g side p d f → HasPath h side p d f
unfolding is_path
path-along g h e side p d f P =
    record {
      words = P.words;
      is = ap (λ (b : Bool). same_key P.words (spell p (categories_in P.words) d (variant_in P.words) f) && b) (sym (path-edges g h e side p d f (categories_in P.words) (variant_in P.words))) ∙ P.is;
    }

-- who sees the same relations has the same paths, whatever identities stand
pub same-edges-path : (g h : View) → ((k : Key) → g.edge k ≡ h.edge k) → (side : Side) (p d f : ℕ) → HasPath g side p d f ↔ HasPath h side p d f
same-edges-path g h e side p d f = (path-along g h (λ i k. e k i) side p d f, path-along h g (λ i k. sym (e k) i) side p d f)
