use Prim.Native.Nat.{ℕ, ◌*◌, ◌+◌, ◌≤◌}
use mathlib.Core.Path.{◌≡◌, sym, ap, ◌∙◌}
use mathlib.Core.List.{[], ◌∷◌, ◌++◌}
use lib.ListN.{length, length-append, length-drop}
use native.Mathlib.Omega.{arith}
use Rattle.sheet.specs.Named.{seen_at}
use Rattle.watch.specs.WatchTable.{Moved, moved}
use Rattle.watch.specs.Trace.{row_of_words}
use Rattle.watch.proofs.Stepping.{advanced-few}
use Rattle.duty.proofs.Answers.{putting-start, putting-done, putting-fits, putting-next, front-room, front-rest, front-row, goes-to, asks-same, questions-same}
use Rattle.duty.proofs.put_answers.Goals as goal
use Rattle.duty.proofs.put_answers.Goals.{After-advance}

pub loop-words-init : goal.loop-words-init
loop-words-init c = let e = c.into_iter-words-iterator.ensures.into_iter_gives in record {
  fives = rw e c.chunks_exact-words-items.ensures.size;
  left = rw e (sym c.chunks_exact-words-items.ensures.rest);
  putting = putting-start _ c.args.timeout c.args.rows.now _ _ c.empty_watch-watch.ensures;
}

room : (c : After-advance) → 5 * length c.loop-words.yielded + 5 ≤ length c.args.rows.now
room c = let s = c.in-Some.ensures.steps in front-room _ _ _ _ (c.loop-words.invariant.left ∙ s.1.0) (s.1.1 ∙ c.loop-words.invariant.fives)

row : (c : After-advance) → c.read_row-row.result ≡ row_of_words c.args.rows.now (5 * length c.loop-words.yielded)
row c = let s = c.in-Some.ensures.steps in c.read_row-row.ensures ∙ front-row _ _ _ _ (c.loop-words.invariant.left ∙ s.1.0) (s.1.1 ∙ c.loop-words.invariant.fives)

pub put_answer-count-requires : goal.put_answer-count-requires
put_answer-count-requires c =
    let k = (goal.at.put_answer-count-requires c).After-advance in
    let e = c.advance.ensures in
    let u = c.unwrap_or-offices.ensures in (
      omega (arith, goes-to c.advance.new.watch c.advance.result _ u, ap (λ (m : Moved). m.routed.offices) e, advanced-few c.loop-words.watch c.args.timeout c.read_row-row.result),
      rw (asks-same c.advance.new.watch c.advance.result _ u) (putting-fits (seen_at c.args.sheet.now.words.now) c.args.timeout c.args.rows.now c.args.out.now _ _ _ _ c.loop-words.invariant.putting (moved c.advance.new.watch c.advance.result) (room k) (rw (row k) at e) c.requires.0 c.requires.1),
    )

pub loop-words-preserved : goal.loop-words-preserved
loop-words-preserved c =
    let k = (goal.at.loop-words-preserved c).After-advance in
    let s = c.in-Some.ensures.steps in
    let I = c.loop-words.invariant in
    let u = c.unwrap_or-offices.ensures in
    let e : 5 * length c.loop-words.yielded + 5 ≡ 5 * length (c.loop-words.yielded ++ (c.in-Some.words ∷ [])) = omega (arith, length-append c.loop-words.yielded (c.in-Some.words ∷ [])) in
    rw (← e) record {
      fives = s.0 ∙ I.fives;
      left = sym (front-rest c.args.rows.now c.in-Some.words.now c.next.new.self.rest.now (5 * length c.loop-words.yielded) (I.left ∙ s.1.0) (s.1.1 ∙ I.fives));
      putting = putting-next (seen_at c.args.sheet.now.words.now) c.args.timeout c.args.rows.now c.args.out.now _ _ _ _ I.putting (moved c.advance.new.watch c.advance.result) (room k) (rw (row k) at c.advance.ensures) c.requires.0 _ _
          (c.put_answer-count.ensures.0 ∙ ap (λ (x : ℕ). c.loop-words.count + x) (asks-same c.advance.new.watch c.advance.result _ u))
          (rw (row k, questions-same c.advance.new.watch c.advance.result _ u (row_of_words c.args.rows.now (5 * length c.loop-words.yielded))) at c.put_answer-count.ensures.1);
    }

pub returns : goal.returns
returns c =
    let s = c.in-None.ensures.steps in
    let I = c.loop-words.invariant in
    putting-done (seen_at c.args.sheet.now.words.now) c.args.timeout c.args.rows.now c.args.out.now _ _ _ _ I.putting c.requires.0
    (omega (arith, s.1.0, I.fives, ap length I.left, length-drop (5 * length c.loop-words.yielded) c.args.rows.now))
