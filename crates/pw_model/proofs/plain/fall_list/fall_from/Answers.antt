use Rattle.std.proofs.Common.{arith}
use Rattle.pw_time.specs.declared.instant.TheConstants.{END_SECOND}
use Rattle.pw_model.specs.inner.Search.{high_reading}
use Rattle.pw_model.proofs.Places.{at-told, at-one}
use Rattle.pw_model.proofs.PlainFalls.{fall-not_counting, none-behind, no-fall, fall-found, fall-at}
use Rattle.pw_model.proofs.Standing.{is-reading}
use Rattle.pw_model.proofs.plain.fall_list.fall_from.Goals as goal

pub returns-then-not-stands_alone-clause-none : goal.returns-then-not-stands_alone-clause-none
returns-then-not-stands_alone-clause-none c =
    let at = at-told c.args.in_order.now c.args.index c.index-in_order-index.result c.requires.within c.index-in_order-index.is in
    λ f a h. fall-not_counting c.args.in_order.now c.index-in_order-index.result c.stands_alone.result (c.stands_alone.ensures c.index-in_order-index.result at (is-reading c.index-in_order-index.result.content c.in-Reading-content.wh c.in-Reading-content.is)) c.if-not-stands_alone.true f a
    (at-one c.args.in_order.now c.args.index c.index-in_order-index.result (high_reading f) at h)

pub returns-in_err-next-clause-none : goal.returns-in_err-next-clause-none
returns-in_err-next-clause-none c =
    let at = at-told c.args.in_order.now c.args.index c.index-in_order-index.result c.requires.within c.index-in_order-index.is in
    rw c.from_residual.ensures (λ f a h. none-behind END_SECOND c.args.in_order.now c.index-in_order-index.result c.in-Reading.meter c.in-Reading.register c.in-Reading.instant c.in-Reading-content.wh
    (record { key = c.in-Reading.is; content = c.in-Reading-content.is }) c.in_err-next.ensures f a
    (at-one c.args.in_order.now c.args.index c.index-in_order-index.result (high_reading f) at h))

pub returns-then-get-clause-none : goal.returns-then-get-clause-none
returns-then-get-clause-none c =
    let at = at-told c.args.in_order.now c.args.index c.index-in_order-index.result c.requires.within c.index-in_order-index.is in
    λ f a h. no-fall END_SECOND c.args.in_order.now c.index-in_order-index.result c.in-Reading.meter c.in-Reading.register c.in-Reading.instant c.in-Reading-content.wh c.in_ok-next.next.0 c.in_ok-next.next.1
    (record { key = c.in-Reading.is; content = c.in-Reading-content.is }) ((c.stands_alone.ensures c.index-in_order-index.result at (is-reading c.index-in_order-index.result.content c.in-Reading-content.wh c.in-Reading-content.is)).0 c.if-not-stands_alone.false) c.in_ok-next.ensures
    (omega (arith, c.get.ensures.value, c.get-2.ensures.value, c.if-get.true)) f a
    (at-one c.args.in_order.now c.args.index c.index-in_order-index.result (high_reading f) at h)

pub returns-clause-some : goal.returns-clause-some
returns-clause-some c =
    let at = at-told c.args.in_order.now c.args.index c.index-in_order-index.result c.requires.within c.index-in_order-index.is in
    let found = fall-found END_SECOND c.args.in_order.now c.index-in_order-index.result c.in-Reading.meter c.in-Reading.register c.in-Reading.instant c.in-Reading-content.wh c.in_ok-next.next.0 c.in_ok-next.next.1
    (record { key = c.in-Reading.is; content = c.in-Reading-content.is }) ((c.stands_alone.ensures c.index-in_order-index.result at (is-reading c.index-in_order-index.result.content c.in-Reading-content.wh c.in-Reading-content.is)).0 c.if-not-stands_alone.false) c.in_ok-next.ensures
    (omega (arith, c.get.ensures.value, c.get-2.ensures.value, c.if-get.false)) in
    fall-at c.args.in_order.now c.args.index c.index-in_order-index.result _ at found
