use Rattle.std.proofs.Common.{ℕ, ℤ, refl, sym, subst, rules}
use Rattle.pw_time.specs.declared.zone.Clock.{Clock}
use Rattle.pw_time.specs.Outcomes.{always, central, IsReadoutClock}
use Rattle.pw_time.proofs.OutcomeFacts.{readout_outcome}
use Rattle.pw_time.proofs.reading.readout_instant.Goals as goal

pub returns-in-Winter : goal.returns-in-Winter
returns-in-Winter c =
    let ahead : ℤ → ℕ = always 3600 in
    let P : Clock → Type 0 = λ clock. IsReadoutClock clock ahead in
    readout_outcome c.args.date.now c.args.time.now c.args.clock c.in-Some.civil ahead c.at_offset.result c.in-Some.ensures (subst P (sym c.in-Winter.is) refl) c.at_offset.ensures

pub returns-in-Local : goal.returns-in-Local
returns-in-Local c =
    let P : Clock → Type 0 = λ clock. IsReadoutClock clock central in
    readout_outcome c.args.date.now c.args.time.now c.args.clock c.in-Some.civil central c.in_zone.result c.in-Some.ensures (subst P (sym c.in-Local.is) refl) c.in_zone.ensures

pub returns-in-Marked : goal.returns-in-Marked
returns-in-Marked c = search rules depth 0 fits 100
