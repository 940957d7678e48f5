-- `listing::edge_line` meets its contract: the kind that has its deed in front, and the others.
use Rattle.listing.proofs.Printing.{applies-line, other-line}
use Rattle.listing.proofs.writing.edge_line.Goals as goal

pub returns-then-kind-eq-APPLIES : goal.returns-then-kind-eq-APPLIES
returns-then-kind-eq-APPLIES c = let S = c in
    applies-line S.args.kind S.args.from S.args.to c.if-kind-eq-APPLIES.true

pub returns : goal.returns
returns c = let S = c in
    other-line S.args.kind S.args.from S.args.to c.if-kind-eq-APPLIES.false
