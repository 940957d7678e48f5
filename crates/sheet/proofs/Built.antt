-- Header, node rows and edge rows, one behind the other: how such words are read.
-- Assumes nothing.
use Prim.Native.Nat.{ℕ, ◌+◌, ◌*◌, ◌<◌, ◌≤◌}
use mathlib.Core.Path.{◌≡◌, refl, sym, ap, ap₂, subst, ◌∙◌}
use mathlib.Core.List.{List, ◌++◌}
use native.Mathlib.Omega.{arith}
use lib.ListN.{length, get_or, drop, length-append, get_or-append}
use lib.Seq.{get_or-append-add, drop-append-add}
use Rattle.tables.specs.Key.{relation, below_key}
use Rattle.sheet.specs.declared.Edge.{Edge}
use Rattle.sheet.specs.declared.Half.TheVariants.{Nodes, Edges}
use Rattle.sheet.specs.declared.Header.{Header}
use Rattle.sheet.specs.declared.Node.{Node}
use Rattle.sheet.specs.Limits.{max_offices, max_nodes, max_edges, header_words, edges_from, edge_place, sheet_words}
use Rattle.sheet.specs.Rows.{word, header_of, node_at, edge_at, edge_table, node_key, edge_key, row_place, cells_from, cells_in, as_node, as_edge}
use Rattle.sheet.specs.Accepted.{HeaderFits, NodeFits, EdgeShaped, EdgeFits, RowsRise, Accepted}
use Rattle.sheet.specs.Named.{node_row, edge_row}
use Rattle.sheet.specs.Stored.{header_six}
use Rattle.sheet.proofs.Storing.{edge-cells}

module _ (form c n e : ℕ) (wn we : List ℕ) (ln : length wn ≡ row_place Nodes form n) (le : length we ≡ row_place Edges form e) where
  abbrev pub built : List ℕ
  built = header_six form c n e ++ wn ++ we

  pub six : length (header_six form c n e) ≡ header_words
  unfolding header_six
  six = refl

  nodes-end : length (header_six form c n e ++ wn) ≡ edges_from n
  nodes-end = length-append (header_six form c n e) wn ∙ omega (arith, six)

  pub built-long : length built ≡ sheet_words form n e
  built-long = length-append (header_six form c n e ++ wn) we ∙ omega (arith, nodes-end)

  pub built-header : header_of built ≡ record { form = form; offices = c; nodes = n; edges = e; nodeoffset = header_words; edgeoffset = edges_from n }
  unfolding header_of header_six
  built-header = refl

  pub built-fits : form ≡ 1 → 1 ≤ c → c ≤ max_offices → n ≤ max_nodes → e ≤ max_edges form → HeaderFits (header_of built) (length built)
  built-fits one low high a b =
      subst (λ (h : Header). HeaderFits h (length built)) (sym built-header)
      (record { form = one; offices-low = low; offices-high = high; nodes = a; edges = b; nodes-from = refl; edges-from = refl; whole = built-long })

  pub built-table : edge_table built ≡ we
  built-table =
      let z : edges_from n ≡ length (header_six form c n e ++ wn) + 0 = omega (arith, nodes-end) in
      ap (λ (h : Header). drop h.edgeoffset built) built-header ∙ ap (λ (x : ℕ). drop x built) z ∙ drop-append-add (header_six form c n e ++ wn) we 0

  node-word : (i : ℕ) → i < 4 * n → word built (6 + i) ≡ word wn i
  node-word i l =
      get_or-append (header_six form c n e ++ wn) we 0 (6 + i) (omega (arith, nodes-end))
      ∙ ap (λ (x : ℕ). get_or (header_six form c n e ++ wn) (x + i) 0) (sym six) ∙ get_or-append-add (header_six form c n e) wn i 0

  pub built-node : (u : ℕ) → u < n → node_at built u ≡ record { class = (cells_in Nodes form wn u).first; number = (cells_in Nodes form wn u).second; variant = (cells_in Nodes form wn u).third; offices = (cells_in Nodes form wn u).offices }
  unfolding node_at cells_in cells_from
  built-node u l =
      let at : (x : ℕ) → x < 4 → word built (6 + 4 * u + x) ≡ word wn (4 * u + x) =
      (λ x d. let z : 6 + 4 * u + x ≡ 6 + (4 * u + x) = omega arith in ap (word built) z ∙ node-word (4 * u + x) (omega arith)) in
      let a = node-word (4 * u) (omega arith) in
      let b = at 1 (omega arith) in
      let d = at 2 (omega arith) in
      let f = at 3 (omega arith) in
      λ i. record { class = a i; number = b i; variant = d i; offices = f i }

  pub built-edge : (v : ℕ) → edge_at (header_of built) we v ≡ record { kind = (cells_in Edges form we v).first; from = (cells_in Edges form we v).second; to = (cells_in Edges form we v).third; offices = (cells_in Edges form we v).offices }
  built-edge v = ap (λ (h : Header). edge_at h we v) built-header ∙ edge-cells _ we v

  -- ---- rows that fit are an accepted sheet

  abbrev pub built_header : Header
  built_header = record { form = form; offices = c; nodes = n; edges = e; nodeoffset = header_words; edgeoffset = edges_from n }

  abbrev pub node_in : ℕ → Node
  node_in u = as_node (cells_in Nodes form wn u)

  abbrev pub edge_in : ℕ → Edge
  edge_in v = as_edge (cells_in Edges form we v)

  pub record RowsFit : Type 0 where
    pub form-is : form ≡ 1
    pub low : 1 ≤ c
    pub high : c ≤ max_offices
    pub few-nodes : n ≤ max_nodes
    pub few-edges : e ≤ max_edges form
    pub nodes-fit : (u : ℕ) → u < n → NodeFits built_header (node_in u)
    pub nodes-rise : RowsRise (λ u. node_key (node_in u)) n
    pub edges-shaped : (v : ℕ) → v < e → EdgeShaped built_header (edge_in v)
    pub edges_fit : (v : ℕ) → v < e → EdgeFits built_header (edge_in v) (node_in (edge_in v).from) (node_in (edge_in v).to)
    pub edges-rise : RowsRise (λ v. edge_key (edge_in v)) e

  module _ (R : RowsFit) where
    node-fits : (u : ℕ) → u < n → NodeFits (header_of built) (node_at built u)
    node-fits u l = subst (λ (h : Header). NodeFits h (node_at built u)) (sym built-header) (subst (λ (r : Node). NodeFits built_header r) (sym (built-node u l)) (R.nodes-fit u l))

    edge-fits : (v : ℕ) → v < e → EdgeFits (header_of built) (edge_at (header_of built) we v) (node_at built (edge_at (header_of built) we v).from) (node_at built (edge_at (header_of built) we v).to)
    edge-fits v l =
        let p = R.edges-shaped v l in
        subst (λ (x : Edge). EdgeFits (header_of built) x (node_at built x.from) (node_at built x.to)) (sym (built-edge v))
        (subst (λ (h : Header). EdgeFits h (edge_in v) (node_at built (edge_in v).from) (node_at built (edge_in v).to)) (sym built-header)
        (subst (λ (r : Node). EdgeFits built_header (edge_in v) r (node_at built (edge_in v).to)) (sym (built-node (edge_in v).from p.from))
        (subst (λ (r : Node). EdgeFits built_header (edge_in v) (node_in (edge_in v).from) r) (sym (built-node (edge_in v).to p.to)) (R.edges_fit v l))))

    counted : ((header_of built).nodes ≡ n) × ((header_of built).edges ≡ e)
    counted = (ap (λ (h : Header). h.nodes) built-header, ap (λ (h : Header). h.edges) built-header)

    pub built-accepted : Accepted built
    built-accepted =
        record {
          head = refl;
          table = refl;
          nodes = record {
            header = built-fits R.form-is R.low R.high R.few-nodes R.few-edges;
            fit = λ u l. node-fits u (omega (arith, counted.0));
            rise = λ u l. ap₂ (λ (x y : Node). below_key (node_key x) (node_key y)) (built-node u (omega (arith, counted.0))) (built-node (u + 1) (omega (arith, counted.0))) ∙ R.nodes-rise u (omega (arith, counted.0));
          };
          edges = rw built-table (record {
            room = omega (arith, le, ap (λ (h : Header). edge_place h.form h.edges) built-header);
            shaped = λ v l. subst (λ (h : Header). EdgeShaped h (edge_at (header_of built) we v)) (sym built-header) (subst (λ (x : Edge). EdgeShaped built_header x) (sym (built-edge v)) (R.edges-shaped v (omega (arith, counted.1))));
            fit = λ v l. edge-fits v (omega (arith, counted.1));
            rise = λ v l. ap₂ (λ (x y : Edge). below_key (edge_key x) (edge_key y)) (built-edge v) (built-edge (v + 1)) ∙ R.edges-rise v (omega (arith, counted.1));
          });
        }

    -- and its rows name what they name
    pub built-node-row : (u : ℕ) → u < n → node_row built u ≡ record { key = node_key (node_in u); marks = (node_in u).offices }
    unfolding node_row
    built-node-row u l = ap (λ (x : Node). record { key = node_key x; marks = x.offices }) (built-node u l)

    pub built-edge-row : (v : ℕ) → v < e → edge_row built (edge_table built) v ≡ record { key = relation (edge_in v).kind (node_key (node_in (edge_in v).from)) (node_key (node_in (edge_in v).to)); marks = (edge_in v).offices }
    unfolding edge_row
    built-edge-row v l =
        let p = R.edges-shaped v l in
        rw (built-table, built-edge v, built-node (edge_in v).from p.from, built-node (edge_in v).to p.to) refl
