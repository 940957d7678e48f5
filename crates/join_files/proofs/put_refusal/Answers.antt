-- `join_files::put_refusal` meets its contract: each label with its number, one behind the other, and the end of the line.
use native.Mathlib.Omega.{arith}
use Rattle.join_files.proofs.Reporting.{refusal-put}
use Rattle.join_files.proofs.put_refusal.Goals as goal

pub returns : goal.returns
returns c = let S = c in
    let N = c.put_two_numbers-a.ensures in
    let R = c.put_number-b.ensures in
    let Z = c.put_bytes.ensures in
    (omega (arith, N.0, R.0, Z.ends), refusal-put {text = S.args.text.now} S.args.j (omega (arith, N.0, R.0, Z.ends, S.requires)) N.1 R.1 Z)
