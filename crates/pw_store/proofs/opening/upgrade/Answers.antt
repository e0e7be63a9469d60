use Rattle.sqlite.specs.Held.{state}
use Rattle.pw_tariff.specs.Office.{office_of}
use Rattle.pw_schema.proofs.Outcomes.{early}
use Rattle.pw_store.proofs.Raised.{upgrade_opened}
use Rattle.pw_store.proofs.opening.upgrade.Goals as goal

pub returns-in_ok-commit-in-Ok-clause-opened : goal.returns-in_ok-commit-in-Ok-clause-opened
returns-in_ok-commit-in-Ok-clause-opened g c clean =
    let old = state g.S.Store c.args.conn.now in
    let mid = state g.S.Store c.raise_and_check.new.conn in
    let new = state g.S.Store c.commit.new.conn in
    upgrade_opened c.args.version (office_of c.args.office.now) c.args.text.now old.now mid new (c.in-Ok.ensures.ready (early mid new c.in_ok-commit-in-Ok.ensures.crash clean)) (c.in_ok-commit-in-Ok.ensures.done clean)
