use Rattle.std.proofs.Common.{ap, sym, ◌+◌, ◌<◌, ◌/◌, ◌%◌, ℕ, arith, rules, length, length-set}
use Rattle.text.proofs.Spelling.{digit-alone, two-alone, two-then, two-shorter}
use Rattle.text.proofs.Putting.{grows_then, grows-as, grows-byte, grows-two}
use Rattle.text.proofs.+put_decimal.Goals as goal

pub bounds-text-at : goal.bounds-text-at
bounds-text-at t c = omega (arith, ap length (digit-alone c.args.number c.if-number-lt10.true))

pub returns-then-number-lt10 : goal.returns-then-number-lt10
returns-then-number-lt10 t c = grows-as (sym (digit-alone c.args.number c.if-number-lt10.true)) (grows-byte c.args.text.now c.args.at _)

pub bounds-text-at-then-number-lt100 : goal.bounds-text-at-then-number-lt100
bounds-text-at-then-number-lt100 t c = omega (arith, ap length (two-alone c.args.number c.if-number-lt10.false c.if-number-lt100.true))

pub bounds-text-at-then-number-lt100-2 : goal.bounds-text-at-then-number-lt100-2
bounds-text-at-then-number-lt100-2 t c =
    omega (arith, ap length (two-alone c.args.number c.if-number-lt10.false c.if-number-lt100.true), length-set {A = ℕ} c.args.text.now c.args.at (48 + c.args.number / 10))

pub returns-then-number-lt100 : goal.returns-then-number-lt100
returns-then-number-lt100 t c = grows-as (sym (two-alone c.args.number c.if-number-lt10.false c.if-number-lt100.true)) (grows-two c.args.text.now c.args.at _ _)

pub put_decimal-from-requires : goal.put_decimal-from-requires
put_decimal-from-requires t c = (search rules, omega (arith, two-shorter c.args.number c.if-number-lt100.false))

pub bounds-text-from : goal.bounds-text-from
bounds-text-from t c = omega (arith, two-shorter c.args.number c.if-number-lt100.false, c.put_decimal-from.ensures.ends, c.put_decimal-from.auto.text)

pub overflow_add-text-4 : goal.overflow_add-text-4
overflow_add-text-4 t c =
    let h : c.put_decimal-from.result < length c.put_decimal-from.new.text = bounds-text-from t c in
    search rules

pub bounds-text-from-2 : goal.bounds-text-from-2
bounds-text-from-2 t c =
    omega (arith, two-shorter c.args.number c.if-number-lt100.false, c.put_decimal-from.ensures.ends, c.put_decimal-from.auto.text, length-set {A = ℕ} c.put_decimal-from.new.text c.put_decimal-from.result (48 + c.args.number / 10 % 10))

pub overflow_add-result-2 : goal.overflow_add-result-2
overflow_add-result-2 t c =
    let h : c.put_decimal-from.result + 1 < length c.put_decimal-from.new.text = omega (arith, two-shorter c.args.number c.if-number-lt100.false, c.put_decimal-from.ensures.ends, c.put_decimal-from.auto.text) in
    search rules

pub returns : goal.returns
returns t c = grows-as (sym (two-then c.args.number c.if-number-lt100.false)) (grows_then c.put_decimal-from.ensures (grows-two c.put_decimal-from.new.text c.put_decimal-from.result _ _))
