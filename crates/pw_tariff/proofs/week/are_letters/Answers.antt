use Rattle.std.proofs.Common.{◌∙◌, sym, ℕ, get_or, length, nat_lt}
use Rattle.pw_tariff.specs.Held.{bands_of}
use Rattle.pw_tariff.specs.Office.{band_named}
use Rattle.pw_tariff.proofs.Parts.{bad-letter, good-letter, letter-unknown, letter-known}
use Rattle.pw_tariff.proofs.week.are_letters.Goals as goal

pub returns-then-named-bands : goal.returns-then-named-bands
returns-then-named-bands c =
    sym (c.loop-letter.invariant ∙ bad-letter (λ (x : ℕ). nat_lt (band_named (bands_of c.args.bands.now) x) (length (bands_of c.args.bands.now))) c.args.day.now c.loop-letter.letter-index c.loop-letter-test.true
    (letter-unknown c.args.bands.now (get_or c.args.day.now c.loop-letter.letter-index 0) c.named.result c.named.ensures c.if-named-bands.true))

pub loop-letter-preserved : goal.loop-letter-preserved
loop-letter-preserved c =
    c.loop-letter.invariant ∙ good-letter (λ (x : ℕ). nat_lt (band_named (bands_of c.args.bands.now) x) (length (bands_of c.args.bands.now))) c.args.day.now c.loop-letter.letter-index c.loop-letter-test.true
    (letter-known c.args.bands.now (get_or c.args.day.now c.loop-letter.letter-index 0) c.named.result c.named.ensures c.if-named-bands.false)
