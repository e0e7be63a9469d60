use Rattle.std.proofs.Common.{◌≡◌, ℕ, Option, List, sym, ◌∙◌, subst, arith}
use Rattle.pw_obis.specs.Registers.{registers}
use Rattle.pw_obis.specs.declared.reference.Register.TheVariants.{I0}
use Rattle.pw_tariff.specs.declared.ids.AccountId.{AccountId}
use Rattle.pw_tariff.specs.Office.{office_of}
use Rattle.pw_tariff.specs.Owners.{StartsIncrease, owner_by_starts}
use Rattle.pw_model.specs.Counting.{contents_at}
use Rattle.pw_model.specs.Energy.{owner_at as owner_told}
use Rattle.pw_parts.proofs.Meters.{registers-more, starts-told}
use Rattle.pw_parts.proofs.Owning.{owners-told, starts-rise}
use Rattle.pw_parts.proofs.energies.add_meter.Goals as goal

pub unreachable-requires : goal.unreachable-requires
unreachable-requires c =
    let told = starts-told (office_of c.args.basis.now.office.now) c.args.records.now c.assignments_of-assignments.result.now c.args.meter c.in_ok-starts.starts.items c.requires.counted c.assignments_of-assignments.ensures c.in_ok-starts.ensures in
    let P : List (ℕ × Option AccountId) → Type 0 = λ items. StartsIncrease items in
    c.in_default.ensures.none (subst P (sym c.deref.ensures.value) (starts-rise c.in_ok-starts.starts.items told.rising))

pub add_register-requires-clause-owners : goal.add_register-requires-clause-owners
add_register-requires-clause-owners c = λ t.
    let told = starts-told (office_of c.args.basis.now.office.now) c.args.records.now c.assignments_of-assignments.result.now c.args.meter c.in_ok-starts.starts.items c.requires.counted c.assignments_of-assignments.ensures c.in_ok-starts.ensures in
    let lent : c.in-Some.owners ≡ c.in_ok-starts.starts.items = c.in-Some.ensures.some.0 ∙ c.deref.ensures.value in
    let Q : List (ℕ × Option AccountId) → Type 0 = λ items. owner_by_starts items t ≡ owner_told (contents_at c.args.records.now) c.args.meter.0 t in
    subst Q (sym lent) (owners-told (contents_at c.args.records.now) c.args.meter.0 c.in_ok-starts.starts.items told t)

pub add_register-requires-clause-room : goal.add_register-requires-clause-room
add_register-requires-clause-room c = λ k.
    let m = registers-more (office_of c.args.basis.now.office.now) c.args.records.now c.args.meter.0 registers c.loop-register.register-index I0 k c.loop-register-test.true in
    let s = c.loop-register.invariant k in
    let h = c.requires.room k in
    omega (arith, m, s, h)

pub loop-register-preserved : goal.loop-register-preserved
loop-register-preserved c = λ k.
    let m = registers-more (office_of c.args.basis.now.office.now) c.args.records.now c.args.meter.0 registers c.loop-register.register-index I0 k c.loop-register-test.true in
    let s = c.loop-register.invariant k in
    let h = c.in_ok-add_register.ensures k in
    omega (arith, m, s, h)
