use Rattle.std.proofs.Common.{refl, sym, ◌∙◌}
use Rattle.pw_tariff.proofs.ById.{none-yet, one-more}
use Rattle.pw_tariff.proofs.meters.by_id.Goals as goal

pub loop-i-init : goal.loop-i-init
loop-i-init c = none-yet c.args.meters.now c.new-places.result c.new-places.ensures.empty

pub loop-i-preserved : goal.loop-i-preserved
loop-i-preserved c =
    let own = sym (c.in_ok-id.ensures.items ∙ c.as_bytes.ensures.value) in
    one-more c.args.meters.now c.loop-i.i c.index-meters-i.result c.in_ok-id.id.items _ c.loop-i.places c.insert.new.self c.loop-i-test.true c.index-meters-i.is own refl
    c.in_ok-insert.ensures.updates c.loop-i.invariant
