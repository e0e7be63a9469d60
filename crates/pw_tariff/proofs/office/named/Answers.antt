use Rattle.std.proofs.Common.{◌≡◌, length, arith}
use Rattle.pw_tariff.proofs.Named.{first-band, band-here}
use Rattle.pw_tariff.proofs.office.named.Goals as goal

pub returns-then-band-letter : goal.returns-then-band-letter
returns-then-band-letter c =
    first-band c.args.bands.now c.loop-i.i c.args.letter (omega arith) c.loop-i.invariant (λ d l. band-here c.args.bands.now c.loop-i.i _ d c.args.letter l c.if-band-letter.true)

pub returns : goal.returns
returns c =
    let ended : length c.args.bands.now ≡ c.loop-i.i = omega arith in
    rw ended (first-band c.args.bands.now c.loop-i.i c.args.letter (omega arith) c.loop-i.invariant (λ d l. absurd (omega arith)))
