-- `Sheet::relation` meets its contract: kind, then both ends' identities.
use mathlib.Core.Path.{ap, ap₂, ◌∙◌}
use Rattle.tables.specs.Key.{Key, relation}
use Rattle.sheet.specs.declared.Edge.{Edge}
use Rattle.sheet.specs.declared.Header.{Header}
use Rattle.sheet.specs.Named.{edge_row}
use Rattle.sheet.specs.Rows.{node_at, node_key, edge_at}
use Rattle.sheet.proofs.formed.Sheet.relation.Goals as goal

pub returns : goal.returns
unfolding edge_row
returns c =
    let s = c.args.self.now in
    ap₂ (λ (a b : Key). relation c.edge-e.result.kind a b) c.identity.ensures c.identity-2.ensures
    ∙ ap (λ (e : Edge). relation e.kind (node_key (node_at s.words.now e.from)) (node_key (node_at s.words.now e.to)))
    (c.edge-e.ensures ∙ ap (λ (h : Header). edge_at h s.edges.now c.args.j) s.formed.head)
