use Rattle.std.proofs.Common.{arith}
use Rattle.pw_obis.proofs.Decimals.{past_most}
use Rattle.pw_record.proofs.digits.+with_digits.Goals as goal

pub returns-then-more-most-clause-none : goal.returns-then-more-most-clause-none
returns-then-more-most-clause-none t c = λ digits.
    past_most c.args.most c.args.digits.now 0 c.args.number (omega (arith, c.in-len1-up.len_at_least)) digits (omega (arith, c.if-more-most.true, c.from.ensures))
