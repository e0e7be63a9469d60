use Rattle.std.proofs.Common.{Some, filter, subst}
use Rattle.std.specs.Option.{option_copied}
use Rattle.sqlite.specs.Held.{state}
use Rattle.pw_tariff.specs.Office.{office_of}
use Rattle.pw_schema.specs.Judges.{IsRest, is_above_zero}
use Rattle.pw_schema.proofs.Outcomes.{early}
use Rattle.pw_store.proofs.Filled.{are_the_energies, filled}
use Rattle.pw_store.proofs.Passed.{mapped_ok}
use Rattle.pw_store.proofs.filling.see_filled.Goals as goal

pub returns-then-is_met-clause-filled : goal.returns-then-is_met-clause-filled
returns-then-is_met-clause-filled g c clean =
    let old = state g.S.Store c.args.conn.now in
    let new = state g.S.Store c.read_energies.new.conn in
    let is = mapped_ok c.read_energies.result c.map_err.result _ c.in_ok-energies.energies c.map_err.ensures.cases c.in_ok-energies.was in
    let it = rw is at c.read_energies.ensures in
    let before = early old new it.looks.crash clean in
    let told = it.tells clean in
    let rest = subst (λ l. IsRest (Some l) (filter is_above_zero told.0) (option_copied c.in_ok-energies.energies.1)) c.as_slice.ensures.value told.2 in
    filled (office_of c.args.office.now) old.now.trees c.args.parts.now told.0 (c.requires.judged before) (it.holds clean) told.1
    (are_the_energies c.args.parts.now.totals.items told.0 (option_copied c.in_ok-energies.energies.1) rest (c.is_met.ensures c.if-is_met.true)) (it.none clean)
