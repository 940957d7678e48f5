-- What the loops know: the rows passed are combined, their places are noted, and the words of the rows that stay stand one behind the other.
-- Assumes nothing.
use Prim.Native.Nat.{ℕ, zero, suc, ◌+◌, ◌<◌, ◌≤◌}
use mathlib.Core.Path.{◌≡◌, refl, sym, ap, subst, ◌∙◌}
use mathlib.Core.Bool.{Bool, true, false, cond}
use mathlib.Core.List.{List, [], ◌++◌}
use native.Mathlib.Omega.{arith}
use native.Mathlib.Decide.{dec_lt}
use lib.Dec.{ltb}
use lib.ListN.{length, get_or, drop, set, length-append, length-set}
use lib.Seq.{get_or-set_same, get_or-set_other}
use borrow.Author.Tests.{lt-ltb, le-ltb}
use Rattle.tables.specs.Count.{number_of}
use Rattle.tables.specs.Key.{below_key}
use Rattle.tables.specs.Table.{Row}
use Rattle.tables.proofs.Counts.{many-most}
use Rattle.sheet.specs.declared.Cells.{Cells}
use Rattle.sheet.specs.declared.Half.{Half}
use Rattle.sheet.specs.declared.Header.{Header}
use Rattle.sheet.specs.Limits.{most_edges}
use Rattle.sheet.specs.Rows.{count_in, row_place, cells_in}
use Rattle.sheet.specs.Named.{row_at}
use Rattle.sheet.specs.Stored.{stored}
use Rattle.sheet.proofs.Storing.{stored-long, cells-kept, cells-new, stored_on}
use Rattle.sheet.proofs.Widths.{rows_few, place-start, place-next, place-before}
use Rattle.combine.specs.declared.Rule.{Rule}
use Rattle.combine.specs.Combined.{keys, IsTable, first_stays, second_stays, TableStep, takes, leaves, given, Walked, Put, PlacesIn}
use Rattle.combine.specs.Rules.{makes}
use Rattle.combine.specs.Halves.{Inputs, Next, MarkedStep, kept_rows, noted, Surveyed, Spelled, by_first, by-second, Words, Written, stored_at, taken_cells}
use Rattle.combine.proofs.Combining.{row_behind, putting-as, side-inside, next, walk-starts, walk-on, walk-done, walk-room, places-on, first-passed, second-passed}
use Rattle.combine.proofs.Reading.{half-table, stored_some, stored-none, taken-marks, taken-first, taken-second}

-- ---- places noted

noted-long : (spots : List ℕ) (from to place : ℕ) → length (noted spots from to place) ≡ length spots
unfolding noted
noted-long spots from to place = go (ltb from to)
  where
    go : (b : Bool) → length (cond b (set spots from place) spots) ≡ length spots
    go true = length-set {A = ℕ} spots from place
    go false = refl

noted-old : (spots : List ℕ) (from to place x : ℕ) → x < from → get_or (noted spots from to place) x 0 ≡ get_or spots x 0
unfolding noted
noted-old spots from to place x l = go (ltb from to)
  where
    go : (b : Bool) → get_or (cond b (set spots from place) spots) x 0 ≡ get_or spots x 0
    go true = get_or-set_other spots from x place 0 (λ q. omega arith)
    go false = refl

noted-new : (spots : List ℕ) (from to place : ℕ) → from < to → from < length spots → get_or (noted spots from to place) from 0 ≡ place
unfolding noted
noted-new spots from to place l h = rw (lt-ltb from to l) (get_or-set_same spots from place 0 h)

-- ---- the loops

-- rows are combined, and the places of those passed are noted
pub record Surveying (rule : Rule) (half : Half) (a : List ℕ) (h : Header) (b : List ℕ) (g : Header) (i j k : ℕ) (ma mb : List ℕ) : Type 0 where
  pub row : ℕ → Row
  pub walked : Walked (makes rule) (count_in half h) (row_at half a) (count_in half g) (row_at half b) i j k row
  pub first : count_in half h ≤ length ma → PlacesIn (row_at half a) i (λ x. get_or ma x 0) k row
  pub second : count_in half g ≤ length mb → PlacesIn (row_at half b) j (λ x. get_or mb x 0) k row

-- rows are combined, and their words stand in front of the output
pub record Writing (rule : Rule) (half : Half) (a : List ℕ) (h : Header) (b : List ℕ) (g : Header) (ma mb : List ℕ) (i j k : ℕ) (out₀ out : List ℕ) : Type 0 where
  pub row : ℕ → Row
  pub words : List ℕ
  pub walked : Walked (makes rule) (count_in half h) (row_at half a) (count_in half g) (row_at half b) i j k row
  pub spells : Words half a h b g ma mb k row words
  pub holds : out ≡ words ++ drop (row_place half h.form k) out₀

module _ (rule : Rule) (half : Half) (a : List ℕ) (h : Header) (b : List ℕ) (g : Header) (I : Inputs a h b g rule) where
  A : IsTable (count_in half h) (row_at half a)
  A = half-table a h I.first half

  B : IsTable (count_in half g) (row_at half b)
  B = half-table b g I.second half

  no_rows : ℕ → Row
  no_rows u = record { key = []; marks = 0 }

  start : Walked (makes rule) (count_in half h) (row_at half a) (count_in half g) (row_at half b) 0 0 0 no_rows
  start = walk-starts (makes rule) I.none _ _ A _ _ B no_rows

  pub surveying-none : (ma mb : List ℕ) → Surveying rule half a h b g 0 0 0 ma mb
  surveying-none ma mb = record { row = no_rows; walked = start; first = λ n x l. absurd (omega arith); second = λ n x l. absurd (omega arith) }

  pub writing-none : (ma mb out : List ℕ) → Writing rule half a h b g ma mb 0 0 0 out out
  writing-none ma mb out =
      let z = place-start half h.form in
      record { row = no_rows; words = []; walked = start; spells = record { long = sym z; each = λ u l. absurd (omega arith) }; holds = ap (λ (x : ℕ). drop x out) (sym z) }

  module _ (i j k : ℕ) (row : ℕ → Row) (W : Walked (makes rule) (count_in half h) (row_at half a) (count_in half g) (row_at half b) i j k row) where
    -- a walk's numbers are small
    pub small : (i ≤ most_edges) × (j ≤ most_edges) × (k ≤ most_edges + most_edges)
    small =
        let x : i ≤ most_edges = omega (arith, W.first-in, rows_few half h _ I.first.nodes.header) in
        let y : j ≤ most_edges = omega (arith, W.second-in, rows_few half g _ I.second.nodes.header) in
        (x, y, omega (arith, W.count, many-most (first_stays (makes rule) (row_at half a) (count_in half g) (row_at half b)) i, many-most (second_stays (makes rule) (count_in half h) (row_at half a) (row_at half b)) j))

    module _ (r : Next) (S : MarkedStep rule half a h b g i j r) where
      next_row : ℕ → Row
      next_row = row_behind k row (record { key = S.moves.key; marks = r.marks })

      -- there is room for a row that has marks
      pub room : 0 < r.marks → k < kept_rows rule half a h b g
      room l = walk-room (makes rule) I.none _ _ A _ _ B i j k row W S.moves.key r.i r.j S.moves.stepped (omega (arith, S.made))

      module _ (k' : ℕ) (count : k' ≡ k + number_of (ltb 0 r.marks)) where
        P : Put (makes rule (given (row_at half a) i r.i) (given (row_at half b) j r.j)) S.moves.key k row k' next_row
        unfolding next_row
        P = putting-as r.marks _ S.moves.key k row k' S.made count

        on : Walked (makes rule) (count_in half h) (row_at half a) (count_in half g) (row_at half b) r.i r.j k' next_row
        on = walk-on (makes rule) I.none _ _ A _ _ B i j k row W S.moves.key r.i r.j S.moves.stepped k' next_row P

  module _ (i j k : ℕ) (r : Next) (S : MarkedStep rule half a h b g i j r) (k' : ℕ) (count : k' ≡ k + number_of (ltb 0 r.marks)) where
    pub surveying-on : (ma mb : List ℕ) (X : Surveying rule half a h b g i j k ma mb) (ma' mb' : List ℕ) → ma' ≡ noted ma i r.i k → mb' ≡ noted mb j r.j k → Surveying rule half a h b g r.i r.j k' ma' mb'
    surveying-on ma mb X ma' mb' p q =
        record {
          row = next_row i j k X.row X.walked r S;
          walked = on i j k X.row X.walked r S k' count;
          first = λ n. places (count_in half h) (row_at half a) A i r.i S.moves.stepped.first (first-passed (makes rule) I.none _ _ A _ _ B i j k X.row X.walked S.moves.key r.i r.j S.moves.stepped)
              ma ma' p n (X.first (omega (arith, ap length p, noted-long ma i r.i k)));
          second = λ n. places (count_in half g) (row_at half b) B j r.j S.moves.stepped.second (second-passed (makes rule) I.none _ _ A _ _ B i j k X.row X.walked S.moves.key r.i r.j S.moves.stepped)
              mb mb' q n (X.second (omega (arith, ap length q, noted-long mb j r.j k)));
        }
      where
        places : (n° : ℕ) (f° : ℕ → Row) (T : IsTable n° f°) (o o' : ℕ) (Q : TableStep n° (keys f°) o S.moves.key o') → ((x : ℕ) → x < o → below_key (f° x).key S.moves.key ≡ true)
            → (spots map' : List ℕ) → map' ≡ noted spots o o' k → n° ≤ length map' → PlacesIn f° o (λ x. get_or spots x 0) k X.row → PlacesIn f° o' (λ x. get_or map' x 0) k' (next_row i j k X.row X.walked r S)
        places n° f° T o o' Q passed spots map' e n L =
            places-on (makes rule) I.none _ _ A _ _ B i j k X.row X.walked S.moves.key r.i r.j S.moves.stepped k' _ (P i j k X.row X.walked r S k' count) n° f° o o' Q passed
            (λ x. get_or spots x 0) (λ x. get_or map' x 0) L
            (λ x l. ap (λ (t : List ℕ). get_or t x 0) e ∙ noted-old spots o o' k x l)
            (λ l. ap (λ (t : List ℕ). get_or t o 0) e ∙ noted-new spots o o' k l (omega (arith, side-inside n° f° T o S.moves.key o' Q l, ap length e, noted-long spots o o' k)))

    pub writing-on : (ma mb out₀ out : List ℕ) (X : Writing rule half a h b g ma mb i j k out₀ out) (e : Cells) (out' : List ℕ) → e ≡ taken_cells half a ma b mb i r.i j r.marks → out' ≡ stored_at half h.form out k e
        → row_place half h.form (kept_rows rule half a h b g) ≤ length out₀ → Writing rule half a h b g ma mb r.i r.j k' out₀ out'
    unfolding next_row
    writing-on ma mb out₀ out X e out' p q most = go (dec_lt 0 r.marks)
      where
        W : Walked (makes rule) (count_in half h) (row_at half a) (count_in half g) (row_at half b) i j k X.row
        W = X.walked

        new : Row
        new = record { key = S.moves.key; marks = r.marks }

        kept : (u : ℕ) → u < k → row_behind k X.row new u ≡ X.row u
        kept u l = ap (λ (t : Bool). cond t (X.row u) new) (lt-ltb u k l)

        fresh : row_behind k X.row new k ≡ new
        fresh = ap (λ (t : Bool). cond t (X.row k) new) (le-ltb k k (omega arith))

        marks : e.offices ≡ r.marks
        marks = ap (λ (x : Cells). x.offices) p ∙ taken-marks half a ma b mb i r.i j r.marks

        -- the row is that of the table which the step takes
        by : TableStep (count_in half h) (keys (row_at half a)) i S.moves.key r.i → TableStep (count_in half g) (keys (row_at half b)) j S.moves.key r.j → Spelled half a h b g ma mb new e
        by (takes l d z) s = by_first i l d (p ∙ sym (taken-first half a ma b mb i r.i j r.marks (omega arith)))
        by (leaves l z) (takes l' d z') = by-second j l' d (p ∙ sym (taken-second half a ma b mb i r.i j r.marks (omega arith)))
        by (leaves l z) (leaves l' z') = absurd (omega (arith, S.moves.stepped.moved))

        go : Dec (0 < r.marks) → Writing rule half a h b g ma mb r.i r.j k' out₀ out'
        go (no d) =
            let z : number_of (ltb 0 r.marks) ≡ 0 = ap number_of (le-ltb 0 r.marks (omega arith)) in
            let same : k' ≡ k = omega arith in
            record {
              row = next_row i j k X.row W r S;
              words = X.words;
              walked = on i j k X.row W r S k' count;
              spells = record { long = X.spells.long ∙ ap (row_place half h.form) (sym same); each = λ u l. subst (λ (x : Row). Spelled half a h b g ma mb x (cells_in half h.form X.words u)) (sym (kept u (omega arith))) (X.spells.each u (omega arith)) };
              holds = q ∙ sym (stored-none half h.form out k e (omega (arith, marks))) ∙ X.holds ∙ ap (λ (x : ℕ). X.words ++ drop (row_place half h.form x) out₀) (sym same);
            }
        go (yes d) =
            let z : number_of (ltb 0 r.marks) ≡ 1 = ap number_of (lt-ltb 0 r.marks d) in
            let more : k' ≡ k + 1 = omega arith in
            let there = room i j k X.row W r S d in
            let long = X.spells.long in
            record {
              row = next_row i j k X.row W r S;
              words = X.words ++ stored half h.form e;
              walked = on i j k X.row W r S k' count;
              spells = record { long = length-append X.words (stored half h.form e) ∙ omega (arith, stored-long half h.form e, ap (row_place half h.form) more, place-next half h.form k); each = λ u l. each u l (dec_lt u k) };
              holds = q ∙ sym (stored_some half h.form out k e (omega (arith, marks))) ∙ stored_on half h.form X.words out out₀ k e long X.holds (omega (arith, place-before half h.form k _ there)) ∙ ap (λ (x : ℕ). (X.words ++ stored half h.form e) ++ drop (row_place half h.form x) out₀) (sym more);
            }
          where
            each : (u : ℕ) → u < k' → Dec (u < k) → Spelled half a h b g ma mb (row_behind k X.row new u) (cells_in half h.form (X.words ++ stored half h.form e) u)
            each u l (yes x) =
                subst (λ (y : Row). Spelled half a h b g ma mb y (cells_in half h.form (X.words ++ stored half h.form e) u)) (sym (kept u x))
                (subst (Spelled half a h b g ma mb (X.row u)) (sym (cells-kept half h.form X.words (stored half h.form e) u (omega (arith, X.spells.long, place-before half h.form u k x)))) (X.spells.each u x))
            each u l (no x) =
                let z : number_of (ltb 0 r.marks) ≡ 1 = ap number_of (lt-ltb 0 r.marks d) in
                let w : k ≡ u = omega arith in
                subst (λ (y : ℕ). Spelled half a h b g ma mb (row_behind k X.row new y) (cells_in half h.form (X.words ++ stored half h.form e) y)) w
                (subst (λ (y : Row). Spelled half a h b g ma mb y (cells_in half h.form (X.words ++ stored half h.form e) k)) (sym fresh)
                (subst (Spelled half a h b g ma mb new) (sym (cells-new half h.form X.words e k X.spells.long)) (by S.moves.stepped.first S.moves.stepped.second)))

  pub surveyed : (i j k : ℕ) (ma mb : List ℕ) → Surveying rule half a h b g i j k ma mb → count_in half h + count_in half g ≤ i + j → Surveyed rule half a h b g ma mb k
  surveyed i j k ma mb X l =
      let d = walk-done (makes rule) I.none _ _ A _ _ B i j k X.row X.walked l in
      record {
        row = X.row;
        combined = d.0;
        count = d.1;
        first = λ n. subst (λ (x : ℕ). PlacesIn (row_at half a) x (λ y. get_or ma y 0) k X.row) d.2 (X.first n);
        second = λ n. subst (λ (x : ℕ). PlacesIn (row_at half b) x (λ y. get_or mb y 0) k X.row) d.3 (X.second n);
      }

  pub all-written : (ma mb : List ℕ) (i j k : ℕ) (out₀ out : List ℕ) → Writing rule half a h b g ma mb i j k out₀ out → count_in half h + count_in half g ≤ i + j → Written rule half a h b g ma mb (kept_rows rule half a h b g) out₀ out
  all-written ma mb i j k out₀ out X l =
      let d = walk-done (makes rule) I.none _ _ A _ _ B i j k X.row X.walked l in
      subst (λ (x : ℕ). Written rule half a h b g ma mb x out₀ out) d.1
      (record { row = X.row; words = X.words; combined = d.0; spells = X.spells; holds = X.holds ∙ ap (λ (x : ℕ). X.words ++ drop x out₀) (sym X.spells.long) })

  -- ---- a combination can always be written where there is room

  pub record WritesRows (ma mb out : List ℕ) : Type 0 where
    pub after : List ℕ
    pub is : Written rule half a h b g ma mb (kept_rows rule half a h b g) out after

  writes-on : (ma mb out₀ : List ℕ) → row_place half h.form (kept_rows rule half a h b g) ≤ length out₀ → (left i j k : ℕ) (out : List ℕ) → Writing rule half a h b g ma mb i j k out₀ out → count_in half h + count_in half g ≤ i + j + left → WritesRows ma mb out₀
  writes-on ma mb out₀ most zero i j k out X l = record { after = out; is = all-written ma mb i j k out₀ out X (omega arith) }
  writes-on ma mb out₀ most (suc left) i j k out X l = go (dec_lt (i + j) (count_in half h + count_in half g)) (writes-on ma mb out₀ most left)
    where
      go : Dec (i + j < count_in half h + count_in half g) → ((i' j' k' : ℕ) (out' : List ℕ) → Writing rule half a h b g ma mb i' j' k' out₀ out' → count_in half h + count_in half g ≤ i' + j' + left → WritesRows ma mb out₀) → WritesRows ma mb out₀
      go (no d) more = record { after = out; is = all-written ma mb i j k out₀ out X (omega arith) }
      go (yes d) more =
          let s = next (count_in half h) (keys (row_at half a)) (count_in half g) (keys (row_at half b)) i j d X.walked.first-in X.walked.second-in in
          let r : Next = record { i = s.first_on; j = s.second-on; marks = makes rule (given (row_at half a) i s.first_on) (given (row_at half b) j s.second-on) } in
          let S : MarkedStep rule half a h b g i j r = record { moves = record { key = s.key; stepped = s.stepped }; made = refl } in
          more s.first_on s.second-on _ _ (writing-on i j k r S _ refl ma mb out₀ out X _ _ refl refl most) (omega (arith, s.stepped.moved))

  pub writes : (ma mb out : List ℕ) → row_place half h.form (kept_rows rule half a h b g) ≤ length out → WritesRows ma mb out
  writes ma mb out most = writes-on ma mb out most (count_in half h + count_in half g) 0 0 0 out (writing-none ma mb out) (omega arith)
