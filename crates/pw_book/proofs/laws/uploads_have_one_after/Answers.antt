use Rattle.std.proofs.Common.{arith}
use Rattle.pw_tariff.specs.Office.{IsSound}
use Rattle.pw_record.proofs.OneOutcome.{one-outcome}
use Rattle.pw_book.proofs.Outcomes.{have-one-after}
use Rattle.pw_book.proofs.laws.uploads_have_one_after.Goals as goal

pub returns : goal.returns
returns c =
    let sound : IsSound c.args.office.now = c.bands.ensures.sound in
    let end = c.loop-upload-test.false in
    have-one-after c.args.office.now (one-outcome c.args.office.now sound.named) c.args.uploads.now (λ k l. c.loop-upload.invariant k (omega (arith, l, end)))
