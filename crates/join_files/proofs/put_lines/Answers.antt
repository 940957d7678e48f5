-- `join_files::put_lines` meets its contract: each label with its number, one behind the other, and the end of the line.
use native.Mathlib.Omega.{arith}
use Rattle.join_files.proofs.Reporting.{lines-put}
use Rattle.join_files.proofs.put_lines.Goals as goal

pub returns : goal.returns
returns c = let S = c in
    let N = c.put_two_numbers-a.ensures in
    let E = c.put_two_numbers-b.ensures in
    let Z = c.put_bytes.ensures in
    (omega (arith, N.0, E.0, Z.ends), lines-put {text = S.args.text.now} S.args.j (omega (arith, N.0, E.0, Z.ends, S.requires)) N.1 E.1 Z)
