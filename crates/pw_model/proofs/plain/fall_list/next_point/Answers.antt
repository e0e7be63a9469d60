use Rattle.std.proofs.Common.{sym, ◌∙◌, arith}
use Rattle.std.proofs.lemmas.Bool.{true≢false}
use Rattle.pw_model.proofs.Places.{at-told}
use Rattle.pw_model.proofs.NextPoint.{passed-none, passed-more, next-here, next-stop, next-end, are-register}
use Rattle.pw_model.proofs.Standing.{is-reading}
use Rattle.pw_model.proofs.plain.fall_list.next_point.Goals as goal

pub loop-place-init : goal.loop-place-init
loop-place-init c = passed-none c.args.in_order.now c.args.meter.0 c.args.register c.args.index

pub returns-in_err-instant : goal.returns-in_err-instant
returns-in_err-instant c =
    let b = are-register c.args.in_order.now c.args.meter.0 c.args.register c.args.instant c.args.index c.loop-place.place c.requires.rising c.requires.standing c.requires.within c.requires.reading c.loop-place.auto.place c.loop-place.invariant in
    λ y l. rw c.from_residual.ensures (next-stop c.args.in_order.now c.args.meter.0 c.args.register c.args.instant c.args.index c.loop-place.place y b.0 c.index-in_order-place.result b.1
    (at-told c.args.in_order.now c.loop-place.place c.index-in_order-place.result c.loop-place-test.true c.index-in_order-place.is) c.in_err-instant.ensures.none)

pub loop-place-preserved-in_default : goal.loop-place-preserved-in_default
loop-place-preserved-in_default c =
    passed-more c.args.in_order.now c.args.meter.0 c.args.register c.args.index c.loop-place.place c.in_ok-instant.instant c.index-in_order-place.result c.requires.standing c.loop-place.invariant
    (at-told c.args.in_order.now c.loop-place.place c.index-in_order-place.result c.loop-place-test.true c.index-in_order-place.is) c.in_ok-instant.ensures.some (λ k w q. c.in_default.not-Reading w q)

pub returns-then-stands_alone : goal.returns-then-stands_alone
returns-then-stands_alone c =
    let at = at-told c.args.in_order.now c.loop-place.place c.index-in_order-place.result c.loop-place-test.true c.index-in_order-place.is in
    let b = are-register c.args.in_order.now c.args.meter.0 c.args.register c.args.instant c.args.index c.loop-place.place c.requires.rising c.requires.standing c.requires.within c.requires.reading c.loop-place.auto.place c.loop-place.invariant in
    λ y l. next-here c.args.in_order.now c.args.meter.0 c.args.register c.args.instant c.args.index c.loop-place.place c.in_ok-instant.instant c.in-Reading.wh y b.0 c.index-in_order-place.result b.1 at
    c.in_ok-instant.ensures.some c.in-Reading.is ((c.stands_alone.ensures c.index-in_order-place.result at (is-reading c.index-in_order-place.result.content c.in-Reading.wh c.in-Reading.is)).0 c.if-stands_alone.true) (omega (arith, c.seconds-second.ensures.within, l))

pub loop-place-preserved : goal.loop-place-preserved
loop-place-preserved c =
    let at = at-told c.args.in_order.now c.loop-place.place c.index-in_order-place.result c.loop-place-test.true c.index-in_order-place.is in
    passed-more c.args.in_order.now c.args.meter.0 c.args.register c.args.index c.loop-place.place c.in_ok-instant.instant c.index-in_order-place.result c.requires.standing c.loop-place.invariant at c.in_ok-instant.ensures.some
    (λ k w q. true≢false (sym ((c.stands_alone.ensures c.index-in_order-place.result at k.2).1 k) ∙ c.if-stands_alone.false))

pub returns : goal.returns
returns c =
    let b = are-register c.args.in_order.now c.args.meter.0 c.args.register c.args.instant c.args.index c.loop-place.place c.requires.rising c.requires.standing c.requires.within c.requires.reading c.loop-place.auto.place c.loop-place.invariant in
    λ y l. next-end c.args.in_order.now c.args.meter.0 c.args.register c.args.instant c.args.index c.loop-place.place y b.0 b.1 c.loop-place-test.false
