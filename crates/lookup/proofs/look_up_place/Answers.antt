-- `lookup::look_up_place` meets its contract: what is told is the row that stands, in the first sheet or else in the second.
use Rattle.std.proofs.Common.{arith, refl, sym}
use Rattle.lookup.proofs.Looking.{both-accepted, row_few, places-none, places-first, places-second}
use Rattle.lookup.proofs.look_up_place.Goals as goal

pub told_in-requires : goal.told_in-requires
told_in-requires c =
    let e = rw c.in-Ok-First.field-0-is at c.in-Ok-First.ensures in
    (row_few _ (both-accepted _ _ _ _ (sym e.0) refl).0 _ e.1.0)

pub told_in-requires-in-Ok-Second : goal.told_in-requires-in-Ok-Second
told_in-requires-in-Ok-Second c =
    let e = rw c.in-Ok-Second.field-0-is at c.in-Ok-Second.ensures in
    (row_few _ (both-accepted _ _ _ _ (sym e.0) refl).1 _ e.1.1)

pub returns-in-Ok-First : goal.returns-in-Ok-First
returns-in-Ok-First c =
    let e = rw c.in-Ok-First.field-0-is at c.in-Ok-First.ensures in
    places-first _ _ _ _ c.named.ensures _ _ e.0 e.1 c.told_in.ensures

pub returns-in-Ok-Second : goal.returns-in-Ok-Second
returns-in-Ok-Second c =
    let e = rw c.in-Ok-Second.field-0-is at c.in-Ok-Second.ensures in
    places-second _ _ _ _ c.named.ensures _ _ e.0 e.1 c.told_in-in-Ok-Second.ensures

pub returns-in-Err : goal.returns-in-Err
returns-in-Err c = let e = c.in-Err.ensures in places-none _ _ _ _ c.named.ensures _ _ e.0 e.1 c.into.ensures
