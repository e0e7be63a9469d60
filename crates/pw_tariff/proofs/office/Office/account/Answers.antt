use Rattle.std.proofs.Common.{string_bytes, sym, ◌∙◌}
use Rattle.std.proofs.lemmas.Option.{slice_get-map}
use Rattle.pw_tariff.proofs.Named.{found-here, unnamed-more, unnamed}
use Rattle.pw_tariff.proofs.office.Office.account.Goals as goal

pub returns-then-eq-clause-some : goal.returns-then-eq-clause-some
returns-then-eq-clause-some c =
    let test = rw c.as_bytes.ensures.value at (sym c.eq.ensures ∙ c.if-eq.true) in
    let here = found-here string_bytes c.self.inside.accounts.items c.deref-own-items.result.now c.loop-i.i c.own-item.result c.args.name.now c.deref-own-items.ensures.value c.loop-i-test.true c.own-item.is test in
    rw (← c.self.view_is) (slice_get-map string_bytes c.self.inside.accounts.items c.loop-i.i ∙ here)

pub returns-then-eq-clause-only : goal.returns-then-eq-clause-only
returns-then-eq-clause-only c =
    let test = rw c.as_bytes.ensures.value at (sym c.eq.ensures ∙ c.if-eq.true) in
    let here = found-here string_bytes c.self.inside.accounts.items c.deref-own-items.result.now c.loop-i.i c.own-item.result c.args.name.now c.deref-own-items.ensures.value c.loop-i-test.true c.own-item.is test in
    let found = slice_get-map string_bytes c.self.inside.accounts.items c.loop-i.i ∙ here in
    rw (← c.self.view_is) (λ i h. c.self.invariant.0.named.accounts i c.loop-i.i c.args.name.now h found)

pub loop-i-preserved : goal.loop-i-preserved
loop-i-preserved c =
    let test = rw c.as_bytes.ensures.value at (sym c.eq.ensures ∙ c.if-eq.false) in
    unnamed-more string_bytes c.deref-own-items.result.now c.loop-i.i c.own-item.result c.args.name.now c.loop-i-test.true c.own-item.is test c.loop-i.invariant

pub returns-clause-none : goal.returns-clause-none
returns-clause-none c =
    let below = rw c.deref-own-items.ensures.value at c.loop-i.invariant in
    let over = rw c.deref-own-items.ensures.value at c.loop-i-test.false in
    let none = unnamed string_bytes c.self.inside.accounts.items c.loop-i.i c.args.name.now over below in
    rw (← c.self.view_is) (λ i h. none i (sym (slice_get-map string_bytes c.self.inside.accounts.items i) ∙ h))
