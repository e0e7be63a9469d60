use Rattle.std.proofs.Common.{◌∙◌, sym, get_or}
use Rattle.pw_obis.proofs.Decimals.{digits_at, digits_put, digit_yes, digit_no}
use Rattle.pw_obis.proofs.texts.are_digits.Goals as goal

pub returns-then-not-is_ascii_digit : goal.returns-then-not-is_ascii_digit
returns-then-not-is_ascii_digit c = (
  λ h. absurd cc,
  λ d. absurd (digit_no (get_or c.args.text.now c.loop-b.b-index 0) (sym c.is_ascii_digit.ensures.value ∙ c.if-not-is_ascii_digit.true) (digits_at c.args.text.now c.loop-b.b-index c.loop-b-test.true (c.loop-b.invariant.0 d)).0),
)

pub loop-b-preserved : goal.loop-b-preserved
loop-b-preserved c = (
  λ d. (digits_at c.args.text.now c.loop-b.b-index c.loop-b-test.true (c.loop-b.invariant.0 d)).1,
  λ d. c.loop-b.invariant.1 (digits_put c.args.text.now c.loop-b.b-index c.loop-b-test.true (digit_yes (get_or c.args.text.now c.loop-b.b-index 0) (sym c.is_ascii_digit.ensures.value ∙ c.if-not-is_ascii_digit.false)) d),
)
