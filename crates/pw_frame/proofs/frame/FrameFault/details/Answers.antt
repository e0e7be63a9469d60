use Rattle.std.proofs.Common.{refl}
use Rattle.pw_frame.proofs.frame.FrameFault.details.Goals as goal

pub returns-in-Crc-clause-text : goal.returns-in-Crc-clause-text
returns-in-Crc-clause-text c =
    rw (c.in-Crc.is, c.place_and_checks.ensures.text, c.four_digits.ensures.text, c.four_digits-in-Crc.ensures.text) refl

pub returns-in-BlockCheck-clause-text : goal.returns-in-BlockCheck-clause-text
returns-in-BlockCheck-clause-text c =
    rw (c.in-BlockCheck.is, c.place_and_checks-in-BlockCheck.ensures.text, c.two_digits.ensures.text, c.two_digits-in-BlockCheck.ensures.text) refl
