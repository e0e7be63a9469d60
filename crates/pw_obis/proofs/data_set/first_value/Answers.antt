use Rattle.std.proofs.Common.{◌<◌, inl, inr, refl, length, arith}
use Rattle.pw_obis.proofs.FirstMark.{first_is, no_close}
use Rattle.pw_obis.proofs.data_set.first_value.Goals as goal

pub returns-then-close-inner : goal.returns-then-close-inner
returns-then-close-inner c =
    inr (
      refl,
      λ other. no_close c.args.set.now.values.now c.in-Some.inner.now other c.in-Some.ensures.some
          (λ k l. c.find-close.ensures.before k (omega (arith, l, c.if-close-inner.true))),
    )

pub returns : goal.returns
returns c =
    let l : c.find-close.result < length c.in-Some.inner.now = omega (arith, c.find-close.ensures.within, c.if-close-inner.false) in
    inl (first_is c.args.set.now.values.now c.in-Some.inner.now c.find-close.result c.in-Some.ensures.some l c.find-close.ensures.before (c.find-close.ensures.found l))
