-- An office's answer and a joint rule by their numbers, and what decides a joint answer.
-- Assumes nothing.
use Rattle.std.specs.Prelude.{ℕ, ◌≡◌, Bool, true, false, ◌||◌, eqb, List, map, Option, Some, None, Result, Ok, Err}
use Rattle.sheet.specs.declared.fault.Fault.{Fault}
use Rattle.sheet.specs.FaultNumbers.{fault_number}
use Rattle.sheet.specs.Refusals.{◌below◌}
use Rattle.meaning.specs.Answers.{undetermined_answer, granted_answer, banned_answer, both_answer, grant_first_rule, deny_first_rule, first_applicable_rule, Joint, lowest}
use Rattle.question.specs.declared.reply.Told.{Told}
use Rattle.ask.specs.declared.joint.OfficeAnswer.{OfficeAnswer}
use Rattle.ask.specs.declared.joint.OfficeAnswer.TheVariants.{Undetermined, Granted, Banned, Both}
use Rattle.ask.specs.declared.joint.JointRule.{JointRule}
use Rattle.ask.specs.declared.joint.JointRule.TheVariants.{GrantFirst, DenyFirst, FirstApplicable}

-- an answer by its number
abbrev pub answer_number : OfficeAnswer → ℕ
answer_number Undetermined = undetermined_answer
answer_number Granted = granted_answer
answer_number Banned = banned_answer
answer_number Both = both_answer

-- a rule by its number
abbrev pub rule_number : JointRule → ℕ
rule_number GrantFirst = grant_first_rule
rule_number DenyFirst = deny_first_rule
rule_number FirstApplicable = first_applicable_rule

-- a number that is no rule's
abbrev pub no_rule : ℕ → Bool
no_rule n = n below grant_first_rule || first_applicable_rule below n

-- the rule that has a number, or 27
abbrev pub RuleIs : ℕ → Result JointRule Fault → Type 0
RuleIs n (Ok rule) = (n ≡ rule_number rule) × (no_rule n ≡ false)
RuleIs n (Err f) = (fault_number f ≡ 27) × (no_rule n ≡ true)

-- an answer gives what is wanted, Granted or Banned: it is that or Both
abbrev pub gives_answer : ℕ → ℕ → Bool
gives_answer wanted r = eqb r wanted || eqb r both_answer

-- what is told as a joint answer and the deciding office
abbrev pub joint_told : Told → Joint
joint_told t = record { answer = t.value; office = t.count }

-- .. or the rest, where nothing decides
abbrev pub joint_or : Option Told → Joint → Joint
joint_or (Some t) rest = joint_told t
joint_or None rest = rest

-- of the answers of offices 1, 2, .. in order, the lowest that passes decides by what is told of it
abbrev pub DecidesBy : (ℕ → Bool) → (ℕ → ℕ) → List OfficeAnswer → Option Told → Type 0
DecidesBy test tell answers t = (rest : Joint) → lowest test tell 1 (map answer_number answers) rest ≡ joint_or t rest
