use Rattle.std.proofs.Common.{◌≡◌, ℕ, ◌+◌, ◌≤◌, refl, sym, ap, subst, ◌∙◌, List, true, false, length, inr, OnOk, arith}
use Rattle.std.specs.List.{list_any}
use Rattle.pw_obis.specs.declared.reference.Register.{Register}
use Rattle.pw_tariff.specs.Office.{office_of}
use Rattle.pw_tariff.specs.Owners.{StartsIncrease}
use Rattle.pw_bills.specs.inner.Gathering.{AreNamed, Pass, RegistersAdd, pass_of, meter_reads}
use Rattle.pw_bills.specs.inner.Naming.{OwnerStart, names_somebody}
use Rattle.pw_bills.proofs.Reading.{meter-asked, meter-failed, meter-owned}
use Rattle.pw_bills.proofs.StepByStep.{meter-adds}
use Rattle.pw_bills.proofs.There.{accounts-held, asked-able, asked-there, increase-held, names-held, never-held, owned-held}
use Rattle.pw_bills.proofs.gathering.gather_meter.Goals as goal

pub starts_held-requires : goal.starts_held-requires
starts_held-requires g c = c.requires.able.idle

pub named-requires : goal.named-requires
named-requires g c = c.requires.able.stretches

pub gather_registers-requires-clause-able : goal.gather_registers-requires-clause-able
gather_registers-requires-clause-able g c = asked-able g.S.Shelf _ _ _ _ _ _ c.in_ok-starts.ensures.asked c.requires.able

pub returns-then-not-name_somebody-clause-few : goal.returns-then-not-name_somebody-clause-few
returns-then-not-name_somebody-clause-few g c = λ n f. (n, omega arith, f)

pub returns-clause-few : goal.returns-clause-few
returns-clause-few g c = λ n f. (n, omega arith, f)

pub returns-then-not-name_somebody-clause-step : goal.returns-then-not-name_somebody-clause-step
returns-then-not-name_somebody-clause-step g c = λ k s.
    let nobody : list_any names_somebody c.in_ok-named.named.items ≡ false
    = ap (λ (xs : List OwnerStart). list_any names_somebody xs) (sym c.deref-2.ensures.value) ∙ sym c.name_somebody.ensures ∙ c.if-not-name_somebody.true in
    inr (
      never-held (office_of c.args.basis.now.office.now) (g.S.Shelf.state c.args.shelf.now).content c.args.meter.0 c.args.stretches.now.account c.args.stretches.now.begins.now (c.args.stretches.now.last + 1)
          c.in_ok-starts.starts.items c.deref.result.now c.in_ok-named.named.items c.requires.able.stretches s (c.in_ok-starts.ensures.rows k) c.deref.ensures.value c.in_ok-named.ensures nobody,
      refl,
    )

pub returns-clause-step : goal.returns-clause-step
returns-clause-step g c = λ k s.
    let rises = increase-held (office_of c.args.basis.now.office.now) (g.S.Shelf.state c.args.shelf.now).content c.args.meter.0 c.args.stretches.now.account c.args.stretches.now.begins.now (c.args.stretches.now.last + 1)
    c.in_ok-starts.starts.items c.deref.result.now c.in_ok-named.named.items c.requires.able.stretches s (c.in_ok-starts.ensures.rows k) c.deref.ensures.value c.in_ok-named.ensures in
    let I : List OwnerStart → Type 0 = λ xs. StartsIncrease xs in
    absurd (c.in-None.ensures.none (subst I (sym c.deref-3.ensures.value) rises))

pub returns-in-Some-clause-step : goal.returns-in-Some-clause-step
returns-in-Some-clause-step g c = λ k.
    let before = c.gather_registers.ensures.asked.kept.clean k in
    let q : Pass = pass_of c.args.basis.now.office.now (g.S.Shelf.state c.args.shelf.now).content c.args.stretches.now.account c.args.stretches.now.begins.now (c.args.stretches.now.last + 1) in
    let m = c.args.meter.0 in
    let somebody : list_any names_somebody c.in_ok-named.named.items ≡ true
    = ap (λ (xs : List OwnerStart). list_any names_somebody xs) (sym c.deref-2.ensures.value) ∙ sym c.name_somebody.ensures ∙ c.if-not-name_somebody.false in
    let N : List OwnerStart → Type 0 = λ xs. AreNamed q m xs in
    let P : Pass → Type 0 = λ z. OnOk c.gather_registers.result (RegistersAdd g.G.Gathers.adds z m c.in-Some.owners c.args.gathered.now c.gather_registers.new.gathered) in
    meter-adds c.gather_registers.result g.G.Gathers.adds q m c.in-Some.owners c.args.gathered.now c.gather_registers.new.gathered (λ s. (
      accounts-held (office_of q.file) q.content m q.account q.begins q.end c.in_ok-starts.starts.items c.deref.result.now c.in_ok-named.named.items c.requires.able.stretches s
          (c.in_ok-starts.ensures.rows before) c.deref.ensures.value c.in_ok-named.ensures somebody,
      subst N (sym (c.in-Some.ensures.some.0 ∙ c.deref-3.ensures.value)) (names-held (office_of q.file) q.content m q.account q.begins q.end c.in_ok-starts.starts.items c.deref.result.now c.in_ok-named.named.items c.requires.able.stretches s
          (c.in_ok-starts.ensures.rows before) c.deref.ensures.value c.in_ok-named.ensures),
    )) (asked-there q _ (c.in_ok-starts.ensures.asked.content before) P (c.gather_registers.ensures.steps k))

pub returns-in_err-starts-clause-tally : goal.returns-in_err-starts-clause-tally
returns-in_err-starts-clause-tally g c = λ k s most h. (let t = c.in_err-starts.ensures.tally in meter-failed _ _ _ most h _ _ (omega (arith, t)))

pub returns-in_err-named-clause-tally : goal.returns-in_err-named-clause-tally
returns-in_err-named-clause-tally g c = λ k s most h.
    let t = c.in_ok-starts.ensures.tally in
    meter-asked _ _ _ most h _ _ _ c.in_ok-starts.starts.items (c.in_ok-starts.ensures.rows k) (sym c.deref.ensures.len ∙ ap (λ (xs : List OwnerStart). length xs) c.deref.ensures.value) (omega (arith, t))

pub returns-then-not-name_somebody-clause-tally : goal.returns-then-not-name_somebody-clause-tally
returns-then-not-name_somebody-clause-tally g c = λ k s most h.
    let t = c.in_ok-starts.ensures.tally in
    meter-asked _ _ _ most h _ _ _ c.in_ok-starts.starts.items (c.in_ok-starts.ensures.rows k) (sym c.deref.ensures.len ∙ ap (λ (xs : List OwnerStart). length xs) c.deref.ensures.value) (omega (arith, t))

pub returns-in-Some-clause-tally : goal.returns-in-Some-clause-tally
returns-in-Some-clause-tally g c = λ k s most h.
    let before = c.gather_registers.ensures.asked.kept.clean k in
    let q : Pass = pass_of c.args.basis.now.office.now (g.S.Shelf.state c.args.shelf.now).content c.args.stretches.now.account c.args.stretches.now.begins.now (c.args.stretches.now.last + 1) in
    let m = c.args.meter.0 in
    let somebody : list_any names_somebody c.in_ok-named.named.items ≡ true
    = ap (λ (xs : List OwnerStart). list_any names_somebody xs) (sym c.deref-2.ensures.value) ∙ sym c.name_somebody.ensures ∙ c.if-not-name_somebody.false in
    let owned = owned-held (office_of q.file) q.content m q.account q.begins q.end c.in_ok-starts.starts.items c.deref.result.now c.in_ok-named.named.items c.requires.able.stretches s
    (c.in_ok-starts.ensures.rows before) c.deref.ensures.value c.in_ok-named.ensures somebody in
    let R : Pass → Type 0 = λ z. (each : Register → ℕ) → ((r : Register) → g.G.Gathers.reads z m r (each r)) → (g.S.Shelf.state c.gather_registers.new.shelf).tally ≤ (g.S.Shelf.state c.starts_held.new.shelf).tally + meter_reads q.file m each in
    meter-owned g.G.Gathers.reads q m most h _ _ _ _ c.in_ok-starts.starts.items owned (c.in_ok-starts.ensures.rows before)
    (sym c.deref.ensures.len ∙ ap (λ (xs : List OwnerStart). length xs) c.deref.ensures.value) c.in_ok-starts.ensures.tally
    (asked-there q _ (c.in_ok-starts.ensures.asked.content before) R (c.gather_registers.ensures.tally k))
