use Rattle.std.proofs.Common.{◌≡◌, ◌++◌, List, [], sym, ◌∙◌, ap, subst, arith}
use Rattle.std.proofs.lemmas.List.{append-nil}
use Rattle.std.specs.Slice.Iter.{windows_rest}
use Rattle.pw_model.specs.declared.records.Fall.{Fall}
use Rattle.pw_model.specs.Lists.{Lists, fall_order}
use Rattle.pw_book.specs.inner.Counted.{IsFallOf}
use Rattle.pw_book.proofs.Falling.{falls_in, falls-ended, lists-falls}
use Rattle.pw_book.proofs.falls.falls_of.Goals as goal

pub returns : goal.returns
returns c = λ told end l e.
    let ended : falls_in c.args.meter c.args.register (windows_rest c.loop-pair.pair-iterator) ≡ [] = falls-ended c.args.meter c.args.register (windows_rest c.loop-pair.pair-iterator) (omega (arith, c.in-None.ensures.steps.1.0)) in
    let whole : c.loop-pair.falls.items ≡ falls_in c.args.meter c.args.register c.args.points.now =
    sym (append-nil c.loop-pair.falls.items) ∙ ap (λ fs. c.loop-pair.falls.items ++ fs) (sym ended) ∙ c.loop-pair.invariant.falls in
    let P : List Fall → Type 0 = λ fs. Lists fall_order (IsFallOf c.args.meter c.args.register told) fs in
    subst P (sym whole) (lists-falls c.args.meter c.args.register told end c.args.points.now l e)
