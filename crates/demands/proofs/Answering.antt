-- Demand 2 of the forms that the entries' statements take: what stands in front of the output is what was asked for, and what is not shown is missing.
-- Assumes nothing.
use Prim.Native.Nat.{ℕ, ◌<◌}
use mathlib.Core.Path.{◌≡◌, refl, sym, subst}
use mathlib.Core.Bool.{Bool, true, false, true≢false}
use mathlib.Core.List.{List}
use mathlib.Core.Logic.{◌↔◌, ◌⊎◌, inl, inr}
use native.Mathlib.Omega.{arith}
use lib.Seq.{take_at}
use Rattle.tables.specs.Office.{View}
use Rattle.sheet.specs.declared.Refusal.{Refusal}
use Rattle.sheet.specs.Refusals.{refuse}
use Rattle.meaning.specs.Paths.{Side, grant, ban, HasPath}
use Rattle.meaning.specs.Answers.{Says, answered as number_of_lem, AnswerIs, gives, side_answer, other, JointAnswerIs}
use Rattle.meaning.specs.Source.{Authorised, Prior, Yields, Applicable}
use Rattle.meaning.proofs.Axioms.{a1-a2, says}
use Rattle.meaning.specs.Deciding.{SideFirst, FirstApplies}
use Rattle.meaning.proofs.Offices.{grant-first, deny-first, first-applicable, first-decides, order-decides}
use Rattle.question.specs.declared.Answer.{Answer}
use Rattle.question.specs.Replies.{Replies, refused, answered, Shows, missing, short, written}
use Rattle.tables.specs.Count.{number_of}
use Rattle.files.specs.Bytes.{bytes_of}
use Rattle.counter.specs.Filed.{InBytes, in_bytes}
use Rattle.demands.specs.Demands.{NoSuch, front}

-- ---- a reply

module _ (refusal : Refusal) (P : ℕ → ℕ → Type 0) where
  -- what is told of a question that is not refused
  pub told_is : {a : Answer} → Replies refusal P a → a.number ≡ 0 → P a.value a.count
  told_is (refused h) z = absurd (h z)
  told_is (answered v c y p) z = p

module _ (g : View) (p d f v : ℕ) (x : AnswerIs g p d f v) where
  pub four : v < 4
  four = subst (λ (n : ℕ). n < 4) (sym x.number) (go x.grants x.bans)
    where
      go : (a b : Bool) → number_of_lem a b < 4
      go false false = omega arith
      go true false = omega arith
      go false true = omega arith
      go true true = omega arith

  -- a number gives a side exactly where the source's axiom does
  pub gives-exactly : (side : Side) → (gives side v ≡ true) ↔ Authorised g side p d f
  gives-exactly side = (λ e. (a1-a2 g p d f side).0 (subst (λ (b : Bool). Says b (HasPath g side p d f)) e (says g p d f side v x)), λ w. go (gives side v) refl ((a1-a2 g p d f side).1 w))
    where
      go : (b : Bool) → gives side v ≡ b → HasPath g side p d f → gives side v ≡ true
      go true e h = e
      go false e h = absurd (subst (λ (b : Bool). Says b (HasPath g side p d f)) e (says g p d f side v x) h)

module _ (at : ℕ → View) (n p d f rule v c : ℕ) (x : JointAnswerIs at n rule p d f (record { answer = v; office = c })) where
  -- rules 1 and 2, one law over the side
  pub by-priority : (side : Side) → rule ≡ side_answer side → ((v ≡ side_answer side) ↔ Prior at n side p d f) × ((v ≡ side_answer (other side)) ↔ Yields at n side p d f)
  by-priority grant e = grant-first at n p d f (record { answer = v; office = c }) (subst (λ (r : ℕ). JointAnswerIs at n r p d f (record { answer = v; office = c })) e x)
  by-priority ban e = deny-first at n p d f (record { answer = v; office = c }) (subst (λ (r : ℕ). JointAnswerIs at n r p d f (record { answer = v; office = c })) e x)

  pub by_order : rule ≡ 3 → (side : Side) → (gives side v ≡ true) ↔ Applicable at n side p d f
  by_order e = first-applicable at n p d f (record { answer = v; office = c }) (subst (λ (r : ℕ). JointAnswerIs at n r p d f (record { answer = v; office = c })) e x)

  -- with the office that decides
  pub side-decides : (side : Side) → rule ≡ side_answer side → SideFirst at n p d f side (record { answer = v; office = c })
  side-decides side e = first-decides at n p d f (record { answer = v; office = c }) side (subst (λ (r : ℕ). JointAnswerIs at n r p d f (record { answer = v; office = c })) e x)

  pub first-decided : rule ≡ 3 → FirstApplies at n p d f (record { answer = v; office = c })
  first-decided e = order-decides at n p d f (record { answer = v; office = c }) (subst (λ (r : ℕ). JointAnswerIs at n r p d f (record { answer = v; office = c })) e x)

-- 0 for no
pub no-is : (b : Bool) (v : ℕ) → v ≡ number_of b → (v ≡ 0) ↔ ((b ≡ true) → ⊥)
no-is true v e = (λ x. absurd (omega (arith, x, e)), λ h. absurd (h refl))
no-is false v e = (λ x y. true≢false (sym y), λ h. e)

-- 1 for yes
pub yes-is : (b : Bool) (v : ℕ) → v ≡ number_of b → (v ≡ 1) ↔ (b ≡ true)
yes-is true v e = (λ x. refl, λ x. e)
yes-is false v e = (λ x. absurd (omega (arith, x, e)), λ x. absurd (true≢false (sym x)))

-- ---- a list shown

module _ (refusal : Refusal) (R : List ℕ → Type 0) (out : List ℕ) where
  pub front-is : {a : Answer} {out' : List ℕ} → Shows refusal R out a out' → a.number ≡ 0 → R (front a out')
  unfolding refuse
  front-is (refused h) z = absurd (h z)
  front-is (missing y n) z = absurd (omega (arith, z))
  front-is (short ws y x l) z = absurd (omega (arith, z))
  front-is (written ws y x l) z = subst R (sym (take_at ws _ _ refl)) x

  -- what is not shown, but for want of room, is refused or missing
  pub not-shown : {a : Answer} {out' : List ℕ} → Shows refusal R out a out' → (a.number ≡ 0 → ⊥) → (a.number ≡ 25 → ⊥) → (refusal.number ≡ 0 → ⊥) ⊎ NoSuch R
  unfolding refuse
  not-shown (refused h) shown room = inl h
  not-shown (missing y n) shown room = inr n
  not-shown (short ws y x l) shown room = absurd (room refl)
  not-shown (written ws y x l) shown room = absurd (shown refl)

-- ---- a list shown in bytes

-- what holds of every such list holds of the one whose bytes they are
pub in-bytes-of : (P Q : List ℕ → Type 0) → ((ws : List ℕ) → P ws → Q ws) → (bs : List ℕ) → InBytes P bs → InBytes Q bs
in-bytes-of P Q f bs (in_bytes ws x) = in_bytes ws (f ws x)

-- there are such bytes exactly where there is such a list
pub none-in-bytes : (P : List ℕ → Type 0) → NoSuch (InBytes P) ↔ NoSuch P
none-in-bytes P = (λ h ws x. h (bytes_of ws) (in_bytes ws x), λ h bs. back h bs)
  where
    back : NoSuch P → NoSuch (InBytes P)
    back h bs (in_bytes ws x) = h ws x
