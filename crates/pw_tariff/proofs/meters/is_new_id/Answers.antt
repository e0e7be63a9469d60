use Rattle.std.proofs.Common.{◌∙◌, sym, string_bytes, arith}
use Rattle.pw_tariff.specs.declared.office.Meter.{Meter}
use Rattle.pw_tariff.proofs.Named.{met-here, unmet-more, unmet}
use Rattle.pw_tariff.proofs.meters.is_new_id.Goals as goal

pub returns-then-eq : goal.returns-then-eq
returns-then-eq c =
    let test = rw c.as_bytes.ensures.value at (sym c.eq.ensures ∙ c.if-eq.true) in
    sym (c.loop-other.invariant ∙ met-here (λ (m : Meter). string_bytes m.id) c.args.earlier.now c.loop-other.other-index c.other-item.result c.args.id.now (omega arith) c.other-item.is test)

pub loop-other-preserved : goal.loop-other-preserved
loop-other-preserved c =
    let test = rw c.as_bytes.ensures.value at (sym c.eq.ensures ∙ c.if-eq.false) in
    c.loop-other.invariant ∙ unmet-more (λ (m : Meter). string_bytes m.id) c.args.earlier.now c.loop-other.other-index c.other-item.result c.args.id.now (omega arith) c.other-item.is test

pub returns : goal.returns
returns c = sym (c.loop-other.invariant ∙ unmet (λ (m : Meter). string_bytes m.id) c.args.earlier.now c.loop-other.other-index c.args.id.now (omega arith))
