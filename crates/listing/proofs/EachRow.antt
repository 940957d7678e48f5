-- A text that is read has a node line for each node and an edge line for each edge of its sheet, and no more: lines name different rows, and each row is named.
-- Assumes nothing.
use Prim.Native.Nat.{ℕ, zero, suc, ◌^◌, ◌<◌, ◌≤◌}
use mathlib.Core.Path.{◌≡◌, refl, sym, ap, ◌∙◌}
use mathlib.Core.Bool.{Bool, true, false, not, cond, ◌&&◌}
use mathlib.Core.List.{List, [], ◌∷◌}
use native.Mathlib.Omega.{arith}
use lib.ListN.{length, get_or}
use borrow.Author.Tests.{ltb-true, ltb-false, not-true}
use Rattle.tables.specs.Count.{how_many, some_row, has, shared}
use Rattle.tables.specs.Key.{Key, same_key}
use Rattle.tables.specs.Marks.{marked}
use Rattle.tables.proofs.Counts.{many-all, many-same, some_at, some-row, has-row, has-not, shared-swap}
use Rattle.tables.proofs.Keys.{same_refl, same-eq, one-row}
use Rattle.tables.proofs.Tables.{and-true}
use Rattle.sheet.specs.Accepted.{MarksFit}
use Rattle.sheet.specs.Named.{held_at, node_row, edge_row}
use Rattle.sheet.specs.Rows.{header_of, edge_table}
use Rattle.sheet.proofs.Naming.{nodes-up, edges-up, node-held, held-node, edge-held, held-edge}
use Rattle.lines.specs.declared.Line.{Line}
use Rattle.lines.specs.Naming.{is_node_line, identity_named, from_line, to_line, relation_named, line_key}
use Rattle.lines.proofs.Back.{GoodLine}
use Rattle.lines.proofs.Faultless.{third-none}
use Rattle.listing.specs.Cut.{lines_said, line_at}
use Rattle.listing.specs.Faults.{node_lines, edge_lines, listing_fault}
use Rattle.listing.specs.Meant.{Means}
use Rattle.listing.specs.Printed.{line_of_edge}
use Rattle.listing.proofs.Unrefused.{Unrefused, unrefused, faultless-at, line-once, text-line-good}

-- ---- as many

-- of n lines those that pass a test name different keys, m rows have different keys, and the same keys are held by the lines and by the rows: then m lines pass
module _ (n : ℕ) (test : ℕ → Bool) (name : ℕ → Key) (m : ℕ) (row : ℕ → Key) (held : Key → Bool)
    (lines-own : (i j : ℕ) → i < n → j < n → test i ≡ true → test j ≡ true → name i ≡ name j → i ≡ j)
    (rows-own : (x y : ℕ) → x < m → y < m → row x ≡ row y → x ≡ y)
    (by_lines : (k : Key) → held k ≡ some_row (λ i. test i && same_key (name i) k) n)
    (by_rows : (k : Key) → held k ≡ true → (x : ℕ) × (x < m) × (row x ≡ k))
    (rows-held : (x : ℕ) → x < m → held (row x) ≡ true) where
  names-row : (i : ℕ) → i < n → test i ≡ true → (x : ℕ) × (x < m) × (row x ≡ name i)
  names-row i h e = by_rows (name i) (by_lines (name i) ∙ some_at _ n i h (rw e (same_refl (name i))))

  row_named : (x : ℕ) → x < m → (i : ℕ) × (i < n) × (test i ≡ true) × (name i ≡ row x)
  row_named x h =
      let r = some-row (λ i. test i && same_key (name i) (row x)) n (sym (by_lines (row x)) ∙ rows-held x h) in
      let p = and-true (test r.0) _ r.2 in
      (r.0, r.1, p.0, same-eq (name r.0) (row x) p.1)

  -- a 1 stands in front of a name, and a 0 in front of the number of a line that does not pass
  tagged : ℕ → Key
  tagged i = cond (test i) (1 ∷ name i) (0 ∷ i ∷ [])

  tag-row : ℕ → Key
  tag-row x = 1 ∷ row x

  tags-own : (i j : ℕ) → i < n → j < n → tagged i ≡ tagged j → i ≡ j
  unfolding tagged
  tags-own i j g h e = go (test i) refl (test j) refl e
    where
      go : (b : Bool) → test i ≡ b → (c : Bool) → test j ≡ c → ◌≡◌ {A = Key} (cond b (1 ∷ name i) (0 ∷ i ∷ [])) (cond c (1 ∷ name j) (0 ∷ j ∷ [])) → i ≡ j
      go true p true q e = lines-own i j g h p q (cc e)
      go true p false q e = absurd (omega (arith, ap (λ (k : Key). get_or k 0 0) e))
      go false p true q e = absurd (omega (arith, ap (λ (k : Key). get_or k 0 0) e))
      go false p false q e = ap (λ (k : Key). get_or k 1 0) e

  has-tag : (i : ℕ) → i < n → (b : Bool) → test i ≡ b → has m tag-row (tagged i) ≡ b
  unfolding tagged tag-row
  has-tag i h true e = let r = names-row i h e in has-row m tag-row (tagged i) r.0 r.1 (rw e (ap (λ (k : Key). 1 ∷ k) r.2))
  has-tag i h false e = has-not m tag-row (tagged i) (λ x g d. let z : ◌≡◌ {A = Key} (1 ∷ row x) (0 ∷ i ∷ []) = rw e at d in omega (arith, ap (λ (k : Key). get_or k 0 0) z))

  tag-has : (x : ℕ) → x < m → has n tagged (tag-row x) ≡ true
  unfolding tagged tag-row
  tag-has x h = let r = row_named x h in has-row n tagged (tag-row x) r.0 r.1 (rw r.2 (ap (λ (k : Key). 1 ∷ k) r.3))

  as-many-rows : m ≡ how_many test n
  unfolding shared tag-row
  as-many-rows =
      sym (many-all (λ x. has n tagged (tag-row x)) m tag-has)
      ∙ sym (shared-swap m tag-row (λ x y g h e. rows-own x y g h (cc e)) n tagged tags-own)
      ∙ many-same (λ i. has m tag-row (tagged i)) test n (λ i h. has-tag i h (test i) refl)

-- ---- what a good line names is its own

-- the line of a relation
relation_line : Key → Line
relation_line k = line_of_edge (get_or k 0 0) (record { class = get_or k 1 0; number = get_or k 2 0; variant = get_or k 3 0; offices = 1 }) (record { class = get_or k 4 0; number = get_or k 5 0; variant = get_or k 6 0; offices = 1 })

module _ (l : Line) (g : GoodLine l) where
  relation-line : is_node_line l ≡ false → line_key (relation_line (relation_named l)) ≡ line_key l
  unfolding relation_line line_of_edge from_line to_line
  relation-line e = go l.form l.first l.second l.third (ltb-false l.form 5 e) g.form-high (third-none l g)
    where
      go : (k a b c : ℕ) → 5 ≤ k → k ≤ 9 → (k ≤ 6 → c ≡ 0) → line_key (relation_line (relation_named (record { fault = 0; form = k; first = a; second = b; third = c }))) ≡ k ∷ a ∷ b ∷ c ∷ []
      go zero a b c low high z = absurd (omega arith)
      go (suc zero) a b c low high z = absurd (omega arith)
      go (suc (suc zero)) a b c low high z = absurd (omega arith)
      go (suc (suc (suc zero))) a b c low high z = absurd (omega arith)
      go (suc (suc (suc (suc zero)))) a b c low high z = absurd (omega arith)
      go (suc (suc (suc (suc (suc zero))))) a b c low high z = rw (z (omega arith)) refl
      go (suc (suc (suc (suc (suc (suc zero)))))) a b c low high z = rw (z (omega arith)) refl
      go (suc (suc (suc (suc (suc (suc (suc zero))))))) a b c low high z = refl
      go (suc (suc (suc (suc (suc (suc (suc (suc zero)))))))) a b c low high z = refl
      go (suc (suc (suc (suc (suc (suc (suc (suc (suc zero))))))))) a b c low high z = refl
      go (suc (suc (suc (suc (suc (suc (suc (suc (suc (suc k)))))))))) a b c low high z = absurd (omega arith)

  node-third : is_node_line l ≡ true → l.third ≡ 0
  node-third e = third-none l g (omega (arith, ltb-true l.form 5 e))

module _ (l m : Line) (g : GoodLine l) (h : GoodLine m) where
  identity-own : is_node_line l ≡ true → is_node_line m ≡ true → identity_named l ≡ identity_named m → line_key l ≡ line_key m
  identity-own p q e =
      let form : l.form ≡ m.form = cc e in
      let first : l.first ≡ m.first = cc e in
      let second : l.second ≡ m.second = cc e in
      let third : l.third ≡ m.third = node-third l g p ∙ sym (node-third m h q) in
      λ i. form i ∷ first i ∷ second i ∷ third i ∷ []

  relation-own : is_node_line l ≡ false → is_node_line m ≡ false → relation_named l ≡ relation_named m → line_key l ≡ line_key m
  relation-own p q e = sym (relation-line l g p) ∙ ap (λ (k : Key). line_key (relation_line k)) e ∙ relation-line m h q

-- the one office's mark
one-marked : (offices marks : ℕ) → offices ≡ 1 → MarksFit offices marks → marked marks 1 ≡ true
one-marked offices marks e f =
    let z : marks ≡ 1 = omega (arith, ap (λ (k : ℕ). 2 ^ k) e, f.some, f.high) in
    rw z refl

-- ---- a line for each row

module _ (ls : List Line) (s : List ℕ) (u : Unrefused ls) (good : (i : ℕ) → i < length ls → GoodLine (line_at ls i)) (M : Means ls s) where
  nodes-named : (header_of s).nodes ≡ node_lines ls
  unfolding node_lines node_row
  nodes-named =
      as-many-rows (length ls) (λ i. is_node_line (line_at ls i)) (λ i. identity_named (line_at ls i)) (header_of s).nodes (λ x. (node_row s x).key) (held_at s 1).node
      (λ i j g h p q e. line-once ls u i j g h (identity-own (line_at ls i) (line_at ls j) (good i g) (good j h) p q e))
      (one-row (λ x. (node_row s x).key) (header_of s).nodes (nodes-up s M.accepted))
      M.nodes
      (λ k e. let r = node-held s M.accepted 1 k e in (r.row, r.inside, r.names))
      (λ x h. held-node s M.accepted 1 (node_row s x).key (record { row = x; inside = h; names = refl; bears = one-marked _ _ M.one-office (M.accepted.nodes.fit x h).marks }))

  edges-named : (header_of s).edges ≡ edge_lines ls
  unfolding edge_lines edge_row
  edges-named =
      as-many-rows (length ls) (λ i. not (is_node_line (line_at ls i))) (λ i. relation_named (line_at ls i)) (header_of s).edges (λ x. (edge_row s (edge_table s) x).key) (held_at s 1).edge
      (λ i j g h p q e. line-once ls u i j g h (relation-own (line_at ls i) (line_at ls j) (good i g) (good j h) (not-true _ p) (not-true _ q) e))
      (one-row (λ x. (edge_row s (edge_table s) x).key) (header_of s).edges (edges-up s M.accepted))
      M.edges
      (λ k e. let r = edge-held s M.accepted 1 k e in (r.row, r.inside, r.names))
      (λ x h. held-edge s M.accepted 1 (edge_row s (edge_table s) x).key (record { row = x; inside = h; names = refl; bears = one-marked _ _ M.one-office (M.accepted.edges.fit x h).marks }))

-- a text that is read has a node line for each node and an edge line for each edge, and no more
pub line-for-each-row : (text s : List ℕ) → (listing_fault text).number ≡ 0 → Means (lines_said text) s → ((header_of s).nodes ≡ node_lines (lines_said text)) × ((header_of s).edges ≡ edge_lines (lines_said text))
line-for-each-row text s e M =
    let u = unrefused (lines_said text) e in
    let good : (i : ℕ) → i < length (lines_said text) → GoodLine (line_at (lines_said text) i) = λ i h. text-line-good text i (faultless-at (lines_said text) u i h) in
    (nodes-named (lines_said text) s u good M, edges-named (lines_said text) s u good M)
