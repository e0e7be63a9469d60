use Rattle.std.proofs.Common.{◌≡◌, ◌++◌, rules, subst, sym}
use Rattle.sqlite.specs.Held.{state}
use Rattle.sqlite.specs.State.{HasCleanDisk}
use Rattle.sqlite.proofs.Callers.{unchanged_then}
use Rattle.pw_tariff.specs.Office.{office_of}
use Rattle.pw_model.specs.Office.{AllOfOffice}
use Rattle.pw_schema.proofs.Outcomes.{early}
use Rattle.pw_store.proofs.Scanning.{survives_on}
use Rattle.pw_store.proofs.Sound.{all_both, one_more_holds, one_more_listed}
use Rattle.pw_store.proofs.judging.check_records.Goals as goal

pub loop-kind-preserved : goal.loop-kind-preserved
loop-kind-preserved g c =
    let office = office_of c.args.office.now in
    let old = state g.S.Store c.args.conn.now in
    let now = state g.S.Store c.loop-kind.conn in
    let new = state g.S.Store c.check_kind.new.conn in
    let was = c.loop-kind.invariant in
    let it = c.in_ok-found.ensures in
    let before : HasCleanDisk new → HasCleanDisk now = early now new {P = λ _. ⊥} it.looks.crash in
    let grown : c.append.new.self.items ≡ c.loop-kind.all.items ++ c.in_ok-found.found.items = search rules in
    record {
      hold = λ clean. one_more_holds office old now (was.same (before clean)) _ c.loop-kind.kind-index (search rules) (was.hold (before clean)) (it.good clean);
      listed = λ clean. one_more_listed office old now (was.same (before clean)) _ c.loop-kind.kind-index (search rules) c.loop-kind.all.items c.in_ok-found.found.items c.append.new.self.items (was.listed (before clean)) (it.listed clean) grown;
      of_office = subst (AllOfOffice office) (sym grown) (all_both office c.loop-kind.all.items c.in_ok-found.found.items was.of_office it.of_office);
      same = λ clean. unchanged_then old now new (was.same (before clean)) (it.looks.same clean);
      crash = survives_on old now new was.crash it.looks.crash;
    }
