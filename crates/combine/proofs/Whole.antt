-- The whole sheet: what was measured is what is written, and header, node rows and edge rows stand one behind the other, the rows through lent tails of the output.
-- Assumes nothing.
use Prim.Native.Nat.{ℕ, ◌-◌, ◌<◌, ◌≤◌}
use mathlib.Core.Path.{◌≡◌, refl, sym, ap, subst, ◌∙◌}
use mathlib.Core.List.{List, [], ◌++◌}
use native.Mathlib.Omega.{arith}
use lib.ListN.{length, get_or, take, drop, replicate, length-replicate, length-append, length-drop}
use lib.Seq.{sets, length-sets}
use Rattle.tables.specs.Table.{Row}
use Rattle.sheet.specs.declared.Header.{Header}
use Rattle.sheet.specs.Limits.{max_nodes, max_edges, sheet_words, edges_from, edge_place}
use Rattle.sheet.specs.Rows.{header_of, row_place}
use Rattle.sheet.specs.Found.{PlaceIs}
use Rattle.sheet.specs.Accepted.{Accepted}
use Rattle.sheet.specs.Named.{node_row}
use Rattle.sheet.proofs.Built.{built-long, built-header}
use Rattle.sheet.proofs.Tails.{first-room, second-room, two-tails}
use Rattle.sheet.specs.Stored.{header_six}
use Rattle.sheet.specs.declared.Half.{Half}
use Rattle.sheet.specs.declared.Half.TheVariants.{Nodes, Edges}
use Rattle.combine.specs.declared.Rule.{Rule}
use Rattle.combine.specs.declared.Measure.{Measure}
use Rattle.std.specs.Prelude.{Result, Ok, Err}
use Rattle.sheet.specs.declared.fault.Fault.{Fault}
use Rattle.sheet.specs.declared.fault.Fault.TheVariants.{OutputShort}
use Rattle.combine.specs.Combined.{keys, Combined, PlacesIn}
use Rattle.combine.specs.Rules.{makes}
use Rattle.combine.specs.declared.combination.Combination.{Combination}
use Rattle.combine.specs.declared.halves.Halves.{Halves}
use Rattle.combine.specs.Rules.{rule_in}
use Rattle.combine.specs.Halves.{Inputs, through, Surveyed, Written, kept_rows}
use Rattle.combine.specs.Meets.{rows_kept_in, SurveyedIn, WrittenIn}
use Rattle.combine.specs.Made.{IsHalf, MeasuredAs, LaidAs, PutsCombined, PutsAs, short, written}
use Rattle.combine.specs.Sheets.{IsCombined, Pair, Measured, Laid}
use Rattle.combine.proofs.Reading.{entry-inside}
use Rattle.combine.proofs.Walking.{writes}
use Rattle.combine.proofs.Laying.{combined}
use Rattle.combine.proofs.Alike.{half-one, place-alike}

-- what is written keeps the output's length
written-long : (rule : Rule) (half : Half) (a : List ℕ) (h : Header) (b : List ℕ) (g : Header) (ma mb : List ℕ) (k : ℕ) (out out' : List ℕ) → Written rule half a h b g ma mb k out out' → row_place half h.form k ≤ length out → length out' ≡ length out
written-long rule half a h b g ma mb k out out' W l = ap length W.holds ∙ length-append W.words (drop (length W.words) out) ∙ omega (arith, length-drop (length W.words) out, W.spells.long)

-- ---- the sheet

module _ (nodes edges : Rule) (c : ℕ) (a : List ℕ) (h : Header) (b : List ℕ) (g : Header) (Q : Pair nodes edges c a h b g) where
  pub node-inputs : Inputs a h b g nodes
  node-inputs = record { first = Q.first; second = Q.second; safe = Q.safe-nodes; none = Q.rules.nodes.none }

  pub edge-inputs : Inputs a h b g edges
  edge-inputs = record { first = Q.first; second = Q.second; safe = Q.safe-edges; none = Q.rules.edges.none }

module _ (nodes edges : Rule) (c : ℕ) (a b : List ℕ) (Q : Pair nodes edges c a (header_of a) b (header_of b)) (ma mb : List ℕ) (m : Measure) (M : Measured nodes edges a (header_of a) b (header_of b) ma mb m)
    (few-nodes : m.nodes ≤ max_nodes) (few-edges : m.edges ≤ max_edges (header_of a).form) where
  -- the places that were noted are places in what is written
  places : (s : List ℕ) (spots : List ℕ) → Accepted s → length spots ≡ max_nodes → (row : ℕ → Row) → Combined (makes nodes) (header_of a).nodes (node_row a) (header_of b).nodes (node_row b) m.nodes row
      → ((header_of s).nodes ≤ length spots → PlacesIn (node_row s) (header_of s).nodes (λ x. get_or spots x 0) m.nodes M.node-rows.row) → PlacesIn (node_row s) (header_of s).nodes (through spots) m.nodes row
  places s spots v long row C L x l =
      let fits : (header_of s).nodes ≤ length spots = omega (arith, v.nodes.header.nodes) in
      subst (PlaceIs (keys row) m.nodes (node_row s x).key) (entry-inside spots x (omega arith))
      (place-alike M.node-rows.row row m.nodes _ _ same.1 (L fits x l))
    where
      same : (m.nodes ≡ m.nodes) × ((u : ℕ) → u < m.nodes → M.node-rows.row u ≡ row u)
      same = half-one nodes Nodes a (header_of a) b (header_of b) (node-inputs nodes edges c a (header_of a) b (header_of b) Q) c Q.rules.nodes m.nodes m.nodes M.node-rows.row row M.node-rows.combined C

  module _ (out l : List ℕ) (room : sheet_words (header_of a).form m.nodes m.edges ≤ length out) (first : l ≡ sets out 0 (header_six (header_of a).form c m.nodes m.edges)) where
    abbrev form : ℕ
    form = (header_of a).form

    abbrev n : ℕ
    n = m.nodes

    abbrev e : ℕ
    e = m.edges

    laid : (t : List ℕ) → Written nodes Nodes a (header_of a) b (header_of b) [] [] n (take (length l - 6) (drop 6 l)) t → (k : List ℕ) → k ≡ take 6 l ++ (t ++ drop (length l - 6) (drop 6 l))
        → (u : List ℕ) → Written edges Edges a (header_of a) b (header_of b) ma mb e (take (length k - edges_from n) (drop (edges_from n) k)) u
        → Laid nodes edges c a (header_of a) b (header_of b) m out (take (edges_from n) k ++ (u ++ drop (length k - edges_from n) (drop (edges_from n) k)))
    laid t WN k second u WE =
        let wn = WN.words in
        let we = WE.words in
        let hd = built-header form c n e wn we WN.spells.long WE.spells.long in
        let all : length (header_six form c n e ++ wn ++ we) ≡ sheet_words form n e = built-long form c n e wn we WN.spells.long WE.spells.long in
        record {
          sheet = header_six form c n e ++ wn ++ we;
          is = combined (makes nodes) (makes edges) c a b Q.first Q.second Q.rules Q.low Q.high n e few-nodes few-edges wn we ma mb WN.row WE.row WN.combined WE.combined WN.spells WE.spells
              (places a ma Q.first M.first-long WN.row WN.combined M.node-rows.first) (places b mb Q.second M.second-long WN.row WN.combined M.node-rows.second);
          long = all;
          rows = (ap (λ (x : Header). x.nodes) hd, ap (λ (x : Header). x.edges) hd);
          holds = two-tails form c n e out wn we WN.spells.long WE.spells.long room l t k u first WN.holds second WE.holds;
        }

-- .. under the headers that the sheets have
abbrev LaidBy : Rule → Rule → ℕ → List ℕ → Header → List ℕ → Header → List ℕ → List ℕ → Measure → Type 0
LaidBy nodes edges c a h b g ma mb m =
    Pair nodes edges c a h b g → Measured nodes edges a h b g ma mb m → m.nodes ≤ max_nodes → m.edges ≤ max_edges h.form → (out l : List ℕ) → sheet_words h.form m.nodes m.edges ≤ length out → l ≡ sets out 0 (header_six h.form c m.nodes m.edges)
    → (t : List ℕ) → Written nodes Nodes a h b g [] [] (kept_rows nodes Nodes a h b g) (take (length l - 6) (drop 6 l)) t → (k : List ℕ) → k ≡ take 6 l ++ (t ++ drop (length l - 6) (drop 6 l))
    → (u : List ℕ) → Written edges Edges a h b g ma mb (kept_rows edges Edges a h b g) (take (length k - edges_from m.nodes) (drop (edges_from m.nodes) k)) u
    → Laid nodes edges c a h b g m out (take (edges_from m.nodes) k ++ (u ++ drop (length k - edges_from m.nodes) (drop (edges_from m.nodes) k)))

pub laid_by : (nodes edges : Rule) (c : ℕ) (a : List ℕ) (h : Header) (b : List ℕ) (g : Header) (ma mb : List ℕ) (m : Measure) → LaidBy nodes edges c a h b g ma mb m
laid_by nodes edges c a h b g ma mb m Q =
    subst (λ (x : Header). LaidBy nodes edges c a x b g ma mb m) (sym Q.first.head)
    (subst (λ (y : Header). LaidBy nodes edges c a (header_of a) b y ma mb m) (sym Q.second.head) own) Q
  where
    own : LaidBy nodes edges c a (header_of a) b (header_of b) ma mb m
    own Q M x y out l room first t WN k second u WE =
        laid nodes edges c a b Q ma mb m M x y out l room first t
        (subst (λ (z : ℕ). Written nodes Nodes a (header_of a) b (header_of b) [] [] z (take (length l - 6) (drop 6 l)) t) (sym M.node-rows.count) WN) k second u
        (subst (λ (z : ℕ). Written edges Edges a (header_of a) b (header_of b) ma mb z (take (length k - edges_from m.nodes) (drop (edges_from m.nodes) k)) u) (sym M.edge-rows) WE)

-- there is such a sheet, whatever the output
pub record There (nodes edges : Rule) (c : ℕ) (a : List ℕ) (h : Header) (b : List ℕ) (g : Header) (m : Measure) : Type 0 where
  pub sheet : List ℕ
  pub is : IsCombined (makes nodes) (makes edges) c a b sheet
  pub long : length sheet ≡ sheet_words h.form m.nodes m.edges

pub there : (nodes edges : Rule) (c : ℕ) (a : List ℕ) (h : Header) (b : List ℕ) (g : Header) (ma mb : List ℕ) (m : Measure) → Pair nodes edges c a h b g → Measured nodes edges a h b g ma mb m → m.nodes ≤ max_nodes → m.edges ≤ max_edges h.form → There nodes edges c a h b g m
there nodes edges c a h b g ma mb m Q M x y =
    let out = replicate {A = ℕ} (sheet_words h.form m.nodes m.edges) 0 in
    let room : sheet_words h.form m.nodes m.edges ≤ length out = omega (arith, length-replicate {A = ℕ} (sheet_words h.form m.nodes m.edges) 0) in
    let l = sets out 0 (header_six h.form c m.nodes m.edges) in
    let long : length l ≡ length out = length-sets out 0 (header_six h.form c m.nodes m.edges) in
    let N = writes nodes Nodes a h b g (node-inputs nodes edges c a h b g Q) [] [] (take (length l - 6) (drop 6 l)) (omega (arith, M.node-rows.count, first-room h.form l m.nodes m.edges (omega arith))) in
    let k = take 6 l ++ (N.after ++ drop (length l - 6) (drop 6 l)) in
    let E = writes edges Edges a h b g (edge-inputs nodes edges c a h b g Q) ma mb (take (length k - edges_from m.nodes) (drop (edges_from m.nodes) k))
    (omega (arith, ap (edge_place h.form) M.edge-rows, second-room l N.after 6 (edges_from m.nodes) (edge_place h.form m.edges) (omega arith) (written-long _ _ _ _ _ _ _ _ _ _ _ N.is (omega (arith, M.node-rows.count, first-room h.form l m.nodes m.edges (omega arith)))) (omega arith))) in
    let L = laid_by nodes edges c a h b g ma mb m Q M x y out l room refl N.after N.is k refl E.after E.is in
    record { sheet = L.sheet; is = L.is; long = L.long }

-- ---- the halves of a combination

module _ (C : Combination) (half : Half) (H : Halves) (q : IsHalf C half H) where
  pub half-surveyed : (ma mb : List ℕ) (k : ℕ) → SurveyedIn H ma mb k → Surveyed (rule_in half C.plan) half C.first.now.words.now C.first.now.header C.second.now.words.now C.second.now.header ma mb k
  half-surveyed ma mb k X = rw (← q.rule, ← q.half-is, ← q.first, ← q.second) X

  pub half-written : (ma mb out out' : List ℕ) → WrittenIn H ma mb out out'
      → Written (rule_in half C.plan) half C.first.now.words.now C.first.now.header C.second.now.words.now C.second.now.header ma mb (kept_rows (rule_in half C.plan) half C.first.now.words.now C.first.now.header C.second.now.words.now C.second.now.header) out out'
  half-written ma mb out out' X = rw (← q.rule, ← q.half-is, ← q.first, ← q.second) X

  -- the room that its rows take
  pub half-room : row_place H.half H.first.now.header.form (rows_kept_in H) ≡ row_place half C.first.now.header.form (kept_rows (rule_in half C.plan) half C.first.now.words.now C.first.now.header C.second.now.words.now C.second.now.header)
  half-room = rw (← q.rule, ← q.half-is, ← q.first, ← q.second) refl

-- ---- the combination, put into an output

module _ (C : Combination) (m : Measure) (out : List ℕ) where
  pub put-short : (firstplaces secondplaces : List ℕ) → MeasuredAs C firstplaces secondplaces m → m.nodes ≤ max_nodes → m.edges ≤ max_edges C.first.now.header.form → length out < sheet_words C.first.now.header.form m.nodes m.edges → PutsAs C out (Err OutputShort) out
  put-short ps qs M x y l = let T = there _ _ _ _ _ _ _ _ _ m C.sound M x y in short T.sheet T.is (omega (arith, T.long))

  pub put-written : (out' : List ℕ) (n : ℕ) → n ≡ sheet_words C.first.now.header.form m.nodes m.edges → n ≤ length out → LaidAs C m out out' → PutsAs C out (Ok n) out'
  put-written out' n e l L =
      let q : n ≡ length L.sheet = e ∙ sym L.long in
      rw (q, L.holds) (written L.sheet L.is (omega arith))

-- a sheet of which more is known
pub put-out-as : {R Q : List ℕ → Type 0} (out : List ℕ) (r : Result ℕ Fault) (out' : List ℕ) → ((t : List ℕ) → R t → Q t) → PutsCombined R out r out' → PutsCombined Q out r out'
put-out-as out r out' f (short t x l) = short t (f t x) l
put-out-as out r out' f (written t x l) = written t (f t x) l
