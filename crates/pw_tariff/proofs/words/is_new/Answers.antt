use Rattle.std.proofs.Common.{◌∙◌, sym, string_bytes, arith}
use Rattle.pw_tariff.proofs.Named.{met-here, unmet-more, unmet}
use Rattle.pw_tariff.proofs.words.is_new.Goals as goal

pub returns-then-eq : goal.returns-then-eq
returns-then-eq c =
    let test = rw c.as_bytes.ensures.value at (sym c.eq.ensures ∙ c.if-eq.true) in
    sym (c.loop-other.invariant ∙ met-here string_bytes c.args.earlier.now c.loop-other.other-index c.other-item.result c.args.name.now (omega arith) c.other-item.is test)

pub loop-other-preserved : goal.loop-other-preserved
loop-other-preserved c =
    let test = rw c.as_bytes.ensures.value at (sym c.eq.ensures ∙ c.if-eq.false) in
    c.loop-other.invariant ∙ unmet-more string_bytes c.args.earlier.now c.loop-other.other-index c.other-item.result c.args.name.now (omega arith) c.other-item.is test

pub returns : goal.returns
returns c = sym (c.loop-other.invariant ∙ unmet string_bytes c.args.earlier.now c.loop-other.other-index c.args.name.now (omega arith))
