-- What is made of the marks that two sheets have at one key: a rule for each operation.
-- Assumes nothing.
use Rattle.std.specs.Prelude.{ℕ, ◌+◌, ◌*◌, ◌/◌, ◌%◌, ◌^◌, ◌<◌, ◌≡◌, true}
use Rattle.std.specs.Int.Bits.{bit_or}
use Rattle.std.specs.Coded.{×_prop, Unit-prop, le_prop}
use Rattle.sheet.specs.declared.Half.{Half}
use Rattle.sheet.specs.declared.Half.TheVariants.{Nodes, Edges}
use Rattle.combine.specs.declared.Plan.{Plan}
use Rattle.tables.specs.Marks.{within}
use Rattle.combine.specs.declared.Rule.{Rule}
use Rattle.combine.specs.declared.Rule.TheVariants.{Beside, Run, Either}
use Rattle.combine.specs.Combined.{Making}

-- the marks that a rule makes: of both, the second's offices behind the first's, which the shift counts; of a run of the first's offices; or of either
abbrev pub makes : Rule → Making
makes (Beside shift) x y = x + shift * y
makes (Run low span) x y = x / low % span
makes Either x y = bit_or x y

-- the marks that it makes are made in words of 32 bits
abbrev pub Safe : Rule → ℕ → ℕ → Type 0
Safe (Beside shift) x y = x + shift * y < 4294967296
Safe (Run low span) x y = (0 < low) × (0 < span)
Safe Either x y = Unit {0}

-- which is a fact
pub Safe-prop : (rule : Rule) (x y : ℕ) → IsProp (Safe rule x y)
Safe-prop (Beside shift) x y = le_prop
Safe-prop (Run low span) x y = ×_prop le_prop le_prop
Safe-prop Either x y = Unit-prop

-- a plan's rule for a half
abbrev pub rule_in : Half → Plan → Rule
rule_in Nodes plan = plan.nodes
rule_in Edges plan = plan.edges

-- of marks of so many offices it makes marks of so many, and none of none
pub record Sound (F : Making) (a b c : ℕ) : Type 0 where
  pub none : F 0 0 ≡ 0
  pub fits : (x y : ℕ) → x < 2 ^ a → y < 2 ^ b → F x y < 2 ^ c

-- what is made of an edge's marks lies within what is made of an end's, where the marks do
abbrev pub StaysWithin : Making → Making → ℕ → ℕ → Type 0
StaysWithin E N a b = (x y p q : ℕ) → x < 2 ^ a → p < 2 ^ a → y < 2 ^ b → q < 2 ^ b → within x p ≡ true → within y q ≡ true → within (E x y) (N p q) ≡ true

-- both, of the rules for nodes and edges
pub record Rules (N E : Making) (a b c : ℕ) : Type 0 where
  pub nodes : Sound N a b c
  pub edges : Sound E a b c
  pub inside : StaysWithin E N a b
