-- `ask::joint::joint_of` meets its contract: each rule is one line of the definition.
use mathlib.Core.Path.{◌≡◌, ap, ◌∙◌}
use Prim.Native.Nat.{ℕ}
use Rattle.question.specs.declared.reply.Told.{Told}
use Rattle.ask.proofs.Jointly.{rule-grants, rule-denies, rule-applies}
use Rattle.ask.proofs.joint.joint_of.Goals as goal
use Rattle.ask.proofs.joint.joint_of.Goals.{in-GrantFirst, in-DenyFirst, in-FirstApplicable}

pub returns : goal.returns
returns c = let none : ◌≡◌ {A = Told} (record { value = c.into.result; count = 0 }) (record { value = 0; count = 0 }) = ap (λ (n : ℕ). record { value = n; count = 0 }) c.into.ensures in
    elim c.match-rule.branch [
      | in-GrantFirst w ↦ rule-grants c.args.answers.now c.args.rule c.match-rule.decided (record { value = c.into.result; count = 0 }) c.unwrap_or.result none c.unwrap_or.ensures c.side_decides-granted.result c.side_decides-banned.result w.in-GrantFirst.is (w.decided-is ∙ w.or-decided.ensures) c.side_decides-granted.ensures c.side_decides-banned.ensures
      | in-DenyFirst w ↦ rule-denies c.args.answers.now c.args.rule c.match-rule.decided (record { value = c.into.result; count = 0 }) c.unwrap_or.result none c.unwrap_or.ensures c.side_decides-banned.result c.side_decides-granted.result w.in-DenyFirst.is (w.decided-is ∙ w.or-decided-in-DenyFirst.ensures) c.side_decides-banned.ensures c.side_decides-granted.ensures
      | in-FirstApplicable w ↦ rule-applies c.args.answers.now c.args.rule c.match-rule.decided (record { value = c.into.result; count = 0 }) c.unwrap_or.result none c.unwrap_or.ensures w.in-FirstApplicable.is (rw w.decided-is w.first_decides-decided.ensures)
    ]
