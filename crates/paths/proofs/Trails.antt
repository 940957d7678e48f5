-- Trails and distances: a trail from a has at least as many nodes as a's number, and walking down the numbers by the least node gives the best trail.
-- Assumes nothing.
use mathlib.Core.Path.{◌≡◌, refl, sym, ap, ◌∙◌}
use mathlib.Core.List.{List, [], ◌∷◌, ◌++◌, append_assoc}
use mathlib.Core.Logic.{⊎_elim}
use Prim.Native.Nat.{ℕ, suc, ◌+◌, ◌-◌, ◌<◌, ◌≤◌}
use native.Mathlib.Nat.{eq-or-lt_of_le}
use native.Mathlib.Omega.{arith}
use native.Mathlib.Numerals.{add-one}
use lib.ListN.{length, get_or, set, drop, length-set, length-append}
use lib.Seq.{drop-cons, set_at, ext_get_or}
use Rattle.paths.specs.Reached.{Reached, start, then, Layers, LeastNext}
use Rattle.paths.specs.Best.{Trail, ends, goes, Before, none, less, same, Best, Traced}
use Rattle.paths.proofs.Distances.{zero_or}

module _ (R : ℕ → ℕ → Type 0) (T : ℕ → Type 0) where
  -- backwards from T
  abbrev Back : ℕ → ℕ → Type 0
  Back = Reached (λ a b. R b a) T

  pub listed : {n a : ℕ} → Back n a → (l : List ℕ) × Trail R T a l × (length l ≡ suc n)
  listed (start t) = (_ ∷ [], ends t, refl)
  listed (then w st) = let p = listed w in (_ ∷ p.0, goes st p.1, ap suc p.2)

  pub counted : {a : ℕ} {l : List ℕ} → Trail R T a l → (n : ℕ) × Back n a × (length l ≡ suc n)
  counted (ends t) = (0, start t, refl)
  counted (goes st w) = let p = counted w in (suc p.0, then p.1 st, ap suc p.2)

  -- two paths whose first nodes are in order
  trail-lower : {a b : ℕ} {l l' : List ℕ} → a < b → Trail R T a l → Trail R T b l' → Before l l'
  trail-lower h (ends t) (ends t') = less h
  trail-lower h (ends t) (goes st' w') = less h
  trail-lower h (goes st w) (ends t') = less h
  trail-lower h (goes st w) (goes st' w') = less h

  module _ (d : List ℕ) (y : Layers (λ a b. R b a) T d) where
    pub numbered : {a : ℕ} {l : List ℕ} → Trail R T a l → (0 < get_or d a 0) × (get_or d a 0 ≤ length l)
    numbered {a} {l} w = let p = counted w in let q = y.least a p.0 p.1 in let q0 = q.0 in let q1 = q.1 in let e = p.2 in (q0, omega arith)

    pub sized : {a : ℕ} {l : List ℕ} → Best R T a l → length l ≡ get_or d a 0
    sized {a} {l} b = ⊎_elim (λ z. absurd (omega (arith, q.0))) some (zero_or (get_or d a 0))
      where
        q : (0 < get_or d a 0) × (get_or d a 0 ≤ length l)
        q = numbered b.leads

        some : (n : ℕ) × (get_or d a 0 ≡ suc n) → length l ≡ get_or d a 0
        some e =
            let p = listed (y.sound a e.0 e.1) in
            let h = b.short p.0 p.1 in
            let e1 = e.1 in
            let p2 = p.2 in
            omega (arith, q.1)

    pub best-one : (a : ℕ) → get_or d a 0 ≡ 1 → Best R T a (a ∷ [])
    best-one a e = record { leads = ends t; short = λ l' w. let n = numbered w in omega arith; first = λ l' w q. only w q }
      where
        from : {n : ℕ} → Back n a → n ≡ 0 → T a
        from (start t) z = t
        from (then w st) z = absurd (omega arith)

        t : T a
        t = from (y.sound a 0 e) refl

        only : {l' : List ℕ} → Trail R T a l' → length l' ≡ 1 → Before (a ∷ []) l'
        only (ends t) q = same none
        only (goes st w) q = same none

    -- the least node below a in number, and the best path from it
    module _ (a b n : ℕ) (ea : get_or d a 0 ≡ suc (suc n)) (eb : get_or d b 0 ≡ suc n) (st : R a b)
        (low : (b' : ℕ) → R a b' → get_or d b' 0 ≡ suc n → b ≤ b') {l : List ℕ} (be : Best R T b l) where
      long : {b' : ℕ} {l' : List ℕ} → R a b' → Trail R T b' l' → (suc n ≤ get_or d b' 0) × (get_or d b' 0 ≤ length l')
      long {b'} st' w =
          ⊎_elim (λ z. let q = numbered w in absurd (omega (arith, q.0)))
          (λ x. let x1 = x.1 in let q = numbered w in let u = y.least a (suc x.0) (then (y.sound b' x.0 x1) st') in (omega (arith, u.1), q.1))
          (zero_or (get_or d b' 0))

      pub best-more : Best R T a (a ∷ l)
      best-more = record { leads = goes st be.leads; short = short; first = first }
        where
          short : (l' : List ℕ) → Trail R T a l' → length (a ∷ l) ≤ length l'
          short l' (ends t) = let q = y.least a 0 (start t) in absurd (omega (arith, q.1))
          short l' (goes st' w) = let q = long st' w in omega (arith, q.0, q.1, sized be)

          first : (l' : List ℕ) → Trail R T a l' → length l' ≡ length (a ∷ l) → Before (a ∷ l) l'
          first l' (ends t) e = let q = y.least a 0 (start t) in absurd (omega (arith, q.1))
          first l' (goes {b = b'} {l = l''} st' w) e =
              let q = long st' w in
              same (⊎_elim
              (λ k. be.first l'' (rw (← k) at w) (omega arith))
              (λ h. trail-lower h be.leads w)
              (eq-or-lt_of_le (low b' st' (omega (arith, q.0, q.1, sized be)))))

-- one node more is written after those that stand there
wrote-more : (p out₀ out : List ℕ) (i a : ℕ) → length p ≡ i → i < length out₀ → out ≡ p ++ drop i out₀ → set out i a ≡ (p ++ (a ∷ [])) ++ drop (i + 1) out₀
wrote-more p out₀ out i a n h e =
    rw (e, drop-cons out₀ i 0 h, set_at p _ _ a i n, append_assoc, add-one i)

length_more : (p : List ℕ) (a i : ℕ) → length p ≡ i → length (p ++ (a ∷ [])) ≡ i + 1
length_more p a i n = length-append p (a ∷ []) ∙ rw n

module _ (R : ℕ → ℕ → Type 0) (T : ℕ → Type 0) (limit : ℕ) (d : List ℕ) (from : ℕ) (out₀ : List ℕ) where
  -- where a trace stands: it is at a node numbered v and has written i nodes, and with the best path from here these are the best path from the first
  pub record Tracing (out : List ℕ) (at i v : ℕ) : Type 0 where
    pub node : at < limit
    pub level : get_or d at 0 ≡ v
    pub some : 0 < v
    pub room : i + v ≤ length out₀
    pub long : length out ≡ length out₀
    pub done : List ℕ
    pub count : length done ≡ i
    pub wrote : out ≡ done ++ drop i out₀
    pub closes : (l : List ℕ) → Best R T at l → Best R T from (done ++ l)

  pub tracing-none : from < limit → 0 < get_or d from 0 → get_or d from 0 ≤ length out₀ → Tracing out₀ from 0 (get_or d from 0)
  tracing-none h p r =
      record { node = h; level = refl; some = p; room = omega arith; long = refl; done = []; count = refl; wrote = refl; closes = λ l b. b }

  module _ (y : Layers (λ a b. R b a) T d) (out : List ℕ) (at i v : ℕ) (tr : Tracing out at i v) where
    pub traced : v ≤ 1 → Traced R T from out₀ (set out i at) (i + 1)
    traced h =
        let w = tr.some in
        let k : get_or d at 0 ≡ 1 = tr.level ∙ omega arith in
        record {
          trail = tr.done ++ (at ∷ []);
          best = tr.closes (at ∷ []) (best-one R T d y at k);
          size = length_more tr.done at i tr.count;
          wrote = wrote-more tr.done out₀ out i at tr.count (let r = tr.room in omega arith) tr.wrote;
        }

    -- some node below is numbered one less
    below : (n : ℕ) → v ≡ suc (suc n) → (x : ℕ) × R at x × (get_or d x 0 ≡ suc n)
    below n e = from' (y.sound at (suc n) (tr.level ∙ e)) refl
      where
        from' : {k : ℕ} → Reached (λ a b. R b a) T k at → k ≡ suc n → (x : ℕ) × R at x × (get_or d x 0 ≡ suc n)
        from' (start t) q = absurd (omega arith)
        from' (then {n = k} {a = x} w st) q = (x, st, up)
          where
            up : get_or d x 0 ≡ suc n
            up =
                ⊎_elim (λ z. let u = y.least x k w in let u0 = u.0 in absurd (omega arith))
                (λ m. let m1 = m.1 in
                let u1 = (y.least x k w).1 in
                let v1 = (y.least at (suc m.0) (then (y.sound x m.0 m1) st)).1 in
                let l = tr.level in omega arith)
                (zero_or (get_or d x 0))

    pub tracing-more : (b : ℕ) → 1 < v → ((x : ℕ) → R at x → x < limit) → LeastNext limit R d at (v - 1) b → Tracing (set out i at) b (i + 1) (v - 1)
    tracing-more b h lim ne = go (v - 2) (omega arith)
      where
        go : (n : ℕ) → v ≡ suc (suc n) → Tracing (set out i at) b (i + 1) (v - 1)
        go n e =
            let f = below n e in
            let f2 = f.2 in
            let k : v - 1 ≡ suc n = omega arith in
            let l1 = lim f.0 f.1 in
            let l2 = ne.low f.0 f.1 (f2 ∙ sym k) in
            let l3 : b < limit = omega arith in
            let p = ne.found l3 in
            let r = tr.room in
            record {
              node = l3;
              level = p.0;
              some = omega arith;
              room = omega arith;
              long = length-set out i at ∙ tr.long;
              done = tr.done ++ (at ∷ []);
              count = length_more tr.done at i tr.count;
              wrote = wrote-more tr.done out₀ out i at tr.count (omega arith) tr.wrote;
              closes = λ l be. rw append_assoc (tr.closes (at ∷ l) (best-more R T d y at b n (tr.level ∙ e) (p.0 ∙ k) p.1 (λ b' st q. ne.low b' st (q ∙ sym k)) be));
            }

-- ---- the contracts determine what they speak of: two best trails are one, two traces are, and two numberings are
both-of : {l l' m m' : List ℕ} → Before l l' → Before m m' → m ≡ l' → m' ≡ l → l ≡ l'
both-of none none p q = p
both-of none (less h) p q = absurd (cc (p, q))
both-of none (same b) p q = absurd (cc (p, q))
both-of (less h) none p q = absurd (cc (p, q))
both-of (less {a = a} {b = b} h) (less {a = c} {b = d} h') p q = let e : c ≡ b = cc (p, q) in let f : d ≡ a = cc (p, q) in absurd (omega arith)
both-of (less {a = a} {b = b} h) (same {a = c} b') p q = let e : c ≡ b = cc (p, q) in let f : c ≡ a = cc (p, q) in absurd (omega arith)
both-of (same b) none p q = absurd (cc (p, q))
both-of (same {a = a} b) (less {a = c} {b = d} h') p q = let e : c ≡ a = cc (p, q) in let f : d ≡ a = cc (p, q) in absurd (omega arith)
both-of (same {a = a} {l = l} {l' = l'} b) (same {a = c} {l = m} {l' = m'} b') p q =
    let e : m ≡ l' = cc (p, q) in let f : m' ≡ l = cc (p, q) in ap (λ (x : List ℕ). a ∷ x) (both-of b b' e f)

pub before-both : {l l' : List ℕ} → Before l l' → Before l' l → l ≡ l'
before-both b b' = both-of b b' refl refl

pub best-one-only : {R : ℕ → ℕ → Type 0} {T : ℕ → Type 0} {a : ℕ} {l l' : List ℕ} → Best R T a l → Best R T a l' → l ≡ l'
best-one-only {l = l} {l' = l'} b b' =
    let s = b.short l' b'.leads in
    let s' = b'.short l b.leads in
    let e : length l ≡ length l' = omega arith in
    before-both (b.first l' b'.leads (sym e)) (b'.first l b.leads e)

pub traced-one : {R : ℕ → ℕ → Type 0} {T : ℕ → Type 0} {a : ℕ} {out₀ out out' : List ℕ} {r r' : ℕ} → Traced R T a out₀ out r → Traced R T a out₀ out' r' → (r ≡ r') × (out ≡ out')
traced-one {out₀ = out₀} {r = r} {r' = r'} x y =
    let e = best-one-only x.best y.best in
    let n : r ≡ r' = sym x.size ∙ (ap length e ∙ y.size) in
    (n, x.wrote ∙ (ap (λ (l : List ℕ). l ++ drop r out₀) e ∙ (ap (λ (k : ℕ). y.trail ++ drop k out₀) n ∙ sym y.wrote)))

pub layers-same : {R : ℕ → ℕ → Type 0} {S : ℕ → Type 0} {d d' : List ℕ} → Layers R S d → Layers R S d' → length d ≡ length d' → d ≡ d'
layers-same {R} {S} {d} {d'} y y' e = ext_get_or 0 d d' e (λ i _. at i)
  where
    up : (x x' : List ℕ) → Layers R S x → Layers R S x' → (i n : ℕ) → get_or x i 0 ≡ suc n → (0 < get_or x' i 0) × (get_or x' i 0 ≤ suc n)
    up x x' z z' i n h = z'.least i n (z.sound i n h)

    at : (i : ℕ) → get_or d i 0 ≡ get_or d' i 0
    at i =
        ⊎_elim
        (λ z. ⊎_elim (λ z'. omega arith) (λ n'. let n1 = n'.1 in let u = up d' d y' y i n'.0 n1 in let u0 = u.0 in absurd (omega arith)) (zero_or (get_or d' i 0)))
        (λ n. let n1 = n.1 in let u = up d d' y y' i n.0 n1 in let u0 = u.0 in let u1 = u.1 in
        ⊎_elim (λ z'. absurd (omega arith)) (λ n'. let n2 = n'.1 in let v = up d' d y' y i n'.0 n2 in let v1 = v.1 in omega arith) (zero_or (get_or d' i 0)))
        (zero_or (get_or d i 0))
