-- `takeout::take_run` meets its contract: the sheet goes with itself.
use Prim.Native.Nat.{◌-◌}
use native.Mathlib.Omega.{arith}
use Rattle.combine.proofs.Reading.{sheet-formed}
use Rattle.combine.proofs.Whole.{put-out-as}
use Rattle.takeout.proofs.Running.{span-is, run-pair, run-kept, run-taken}
use Rattle.takeout.proofs.take_run.Goals as goal

pub invariant_of-pair : goal.invariant_of-pair
invariant_of-pair c = let at = c.args.at.now in
    record { sound = run-pair _ _ (sheet-formed at.sheet) (at.seat.office - 1) c.args.count at.seat.mark _ at.seated.mark (span-is c.args.count c.requires.1) c.requires.0 c.requires.1 }

pub put-requires : goal.put-requires
put-requires c = let at = c.args.at.now in
    let F = sheet-formed at.sheet in
    let k = run-kept _ _ F (at.seat.office - 1) c.args.count at.seat.mark _ at.seated.mark (span-is c.args.count c.requires.1) in
    (omega (arith, k.0, F.nodes.header.nodes), omega (arith, k.1, F.nodes.header.edges))

pub returns : goal.returns
returns c = let at = c.args.at.now in
    put-out-as _ c.put.result c.put.new.out (run-taken _ _ (sheet-formed at.sheet) (at.seat.office - 1) c.args.count at.seat.mark _ at.seated.mark (span-is c.args.count c.requires.1)) c.put.ensures
