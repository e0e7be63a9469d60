use Rattle.std.proofs.Common.{◌∙◌, sym, arith, get_or}
use Rattle.std.proofs.lemmas.Int.Digits.{digits_value_more}
use Rattle.pw_obis.proofs.Decimals.{digit_yes, digit_no, digit_in, digit_is}
use Rattle.pw_obis.proofs.FirstDigits.{digits_more, below_thousand}
use Rattle.pw_obis.proofs.OnePart.{begun_group, some_digit}
use Rattle.pw_obis.proofs.address.first_group.Goals as goal
use Rattle.pw_obis.proofs.address.first_group.Goals.{then-loop-end-test+else-is_ascii_digit, else-loop-end-test}

pub overflow_mul-value : goal.overflow_mul-value
overflow_mul-value c =
    let i = c.loop-end.invariant in
    omega (arith, i.3, below_thousand c.args.text.now c.loop-end.end i.1 i.2)

pub overflow_add-value : goal.overflow_add-value
overflow_add-value c =
    let i = c.loop-end.invariant in
    let digit = digit_yes (get_or c.args.text.now c.loop-end.end 0) (sym c.is_ascii_digit.ensures.value ∙ c.if-is_ascii_digit.true) in
    omega (arith, i.3, below_thousand c.args.text.now c.loop-end.end i.1 i.2, (digit_in (get_or c.args.text.now c.loop-end.end 0) digit).1)

pub loop-end-preserved : goal.loop-end-preserved
loop-end-preserved c =
    let i = c.loop-end.invariant in
    let digit = digit_yes (get_or c.args.text.now c.loop-end.end 0) (sym c.is_ascii_digit.ensures.value ∙ c.if-is_ascii_digit.true) in
    let h = digit_in (get_or c.args.text.now c.loop-end.end 0) digit in
    let is = digit_is (get_or c.args.text.now c.loop-end.end 0) h.0 h.1 in (
      omega arith,
      omega arith,
      digits_more c.args.text.now c.loop-end.end c.loop-end-test.true i.2 digit,
      omega (arith, i.3, is, digits_value_more 10 c.args.text.now c.loop-end.end c.loop-end-test.true),
    )

pub returns-then-end-eq0-clause-none : goal.returns-then-end-eq0-clause-none
returns-then-end-eq0-clause-none c = λ value rest g.
    let text = c.args.text.now in
    let end = c.loop-end.end in
    let starts = some_digit text end value rest c.if-end-eq0.true g in
    elim c.loop-end-test.branch [
      | then-loop-end-test+else-is_ascii_digit w ↦ digit_no (get_or text end 0) (sym w.is_ascii_digit.ensures.value ∙ w.if-is_ascii_digit.false) starts.1
      | else-loop-end-test w ↦ omega (arith, starts.0, w.loop-end-test.false)
    ]

pub returns-then-value-gt255-clause-none : goal.returns-then-value-gt255-clause-none
returns-then-value-gt255-clause-none c = λ value rest g.
    let i = c.loop-end.invariant in
    omega (arith, c.if-value-gt255.true, i.3, (begun_group c.args.text.now c.loop-end.end value rest i.0 i.2 g).1)
