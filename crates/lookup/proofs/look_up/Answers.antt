-- `lookup::look_up` meets its contract: each part is the empty one, or the four words of a row that has the identity, where they stand.
use Rattle.std.proofs.Common.{ℕ, List, arith, refl, sym, ap₂}
use Rattle.sheet.specs.Parts.{lent}
use Rattle.lookup.proofs.Looking.{both-accepted, row-room, gives_none, gives-first, gives-second}
use Rattle.lookup.proofs.look_up.Goals as goal

pub row_part-requires : goal.row_part-requires
row_part-requires c =
    let e = rw c.in-Ok-First.field-0-is at c.in-Ok-First.ensures in
    row-room _ (both-accepted _ _ _ _ (sym e.0) refl).0 _ e.1.0

pub row_part-requires-in-Ok-Second : goal.row_part-requires-in-Ok-Second
row_part-requires-in-Ok-Second c =
    let e = rw c.in-Ok-Second.field-0-is at c.in-Ok-Second.ensures in
    row-room _ (both-accepted _ _ _ _ (sym e.0) refl).1 _ e.1.1

pub returns-in-Ok-First : goal.returns-in-Ok-First
returns-in-Ok-First c =
    let e = rw c.in-Ok-First.field-0-is at c.in-Ok-First.ensures in
    gives-first (lent c.args.first) (lent c.args.second) _ _ c.named.ensures _ _ e.0 e.1 c.row_part.ensures

pub returns-in-Ok-Second : goal.returns-in-Ok-Second
returns-in-Ok-Second c =
    let e = rw c.in-Ok-Second.field-0-is at c.in-Ok-Second.ensures in
    gives-second (lent c.args.first) (lent c.args.second) _ _ c.named.ensures _ _ e.0 e.1 c.row_part-in-Ok-Second.ensures

pub returns-in-Err : goal.returns-in-Err
returns-in-Err c =
    let e = c.in-Err.ensures in
    let a = lent c.args.first in
    gives_none (lent c.args.first) (lent c.args.second) _ _ c.named.ensures _ _ e.0 e.1
    (ap₂ (λ (x : ℕ) (y : List ℕ). record { block = a.block; offset = x; words = y }) (omega arith) refl)
