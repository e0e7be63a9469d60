use Rattle.std.proofs.Common.{◌≡◌, ◌<◌, length, ◌∙◌, arith, take}
use Rattle.std.proofs.lemmas.List.{length-set}
use Rattle.pw_record.specs.Told.{capitals}
use Rattle.pw_record.proofs.Capitals.{capital-more, capitals-in}
use Rattle.pw_record.proofs.origin.meter_in_capitals.Goals as goal

pub loop-i-preserved : goal.loop-i-preserved
loop-i-preserved c =
    let room : c.loop-i.i < length c.loop-i.id = omega (arith, c.loop-i.invariant.0, c.loop-i-test.true, c.if-identifier-gt-LONGEST_METER_ID.false) in (
      length-set c.loop-i.id c.loop-i.i c.capital.result ∙ c.loop-i.invariant.0,
      capital-more c.args.identifier.now c.loop-i.id c.loop-i.i c.capital.result room c.capital.ensures c.loop-i.invariant.1,
    )

pub returns-clause-some : goal.returns-clause-some
returns-clause-some c =
    let is : capitals c.args.identifier.now ≡ take (length c.args.identifier.now) c.loop-i.id =
    capitals-in c.args.identifier.now c.loop-i.id (omega (arith, c.loop-i.invariant.0, c.if-identifier-gt-LONGEST_METER_ID.false)) (λ k l. c.loop-i.invariant.1 k (omega (arith, l, c.loop-i-test.false))) in
    rw is c.meter.ensures.some

pub returns-clause-none : goal.returns-clause-none
returns-clause-none c =
    let is : capitals c.args.identifier.now ≡ take (length c.args.identifier.now) c.loop-i.id =
    capitals-in c.args.identifier.now c.loop-i.id (omega (arith, c.loop-i.invariant.0, c.if-identifier-gt-LONGEST_METER_ID.false)) (λ k l. c.loop-i.invariant.1 k (omega (arith, l, c.loop-i-test.false))) in
    rw is c.meter.ensures.none
