use Rattle.std.proofs.Common.{subst, rules}
use Rattle.sqlite.specs.Held.{state}
use Rattle.pw_tariff.specs.Office.{office_of}
use Rattle.pw_schema.specs.Judging.{KeepsVersion}
use Rattle.pw_schema.specs.declared.kind.StoreVersion.TheVariants.{First, Second, Third}
use Rattle.pw_schema.proofs.Outcomes.{early}
use Rattle.sqlite.specs.State.{IsUnchanged}
use Rattle.pw_store.specs.Opening.{HoldsTables, KeepsText}
use Rattle.pw_store.specs.inner.Opened.{IsOpened, IsSound}
use Rattle.pw_store.proofs.Raised.{on_ok, third_opened, version_refuses}
use Rattle.pw_store.proofs.opening.check.Goals as goal

pub returns-in-First-clause-cause : goal.returns-in-First-clause-cause
returns-in-First-clause-cause g c clean =
    let before = c.upgrade.ensures.clean clean in
    version_refuses First _ (office_of c.args.office.now) c.args.text.now (state g.S.Store c.args.conn.now) (state g.S.Store c.check_office.new.conn) c.upgrade.result c.in-First.is (c.in_ok-check_office.ensures.looks.same before) (c.in_ok-check_office.ensures.ours before) (c.in_ok-check_office.ensures.kept_text before) (c.upgrade.ensures.cause clean)

pub returns-in-Second-clause-cause : goal.returns-in-Second-clause-cause
returns-in-Second-clause-cause g c clean =
    let before = c.upgrade-in-Second.ensures.clean clean in
    version_refuses Second _ (office_of c.args.office.now) c.args.text.now (state g.S.Store c.args.conn.now) (state g.S.Store c.check_office.new.conn) c.upgrade-in-Second.result c.in-Second.is (c.in_ok-check_office.ensures.looks.same before) (c.in_ok-check_office.ensures.ours before) (c.in_ok-check_office.ensures.kept_text before) (c.upgrade-in-Second.ensures.cause clean)

pub returns-in-Third-clause-cause : goal.returns-in-Third-clause-cause
returns-in-Third-clause-cause g c clean =
    let s1 = state g.S.Store c.check_office.new.conn in
    let before = early s1 (state g.S.Store c.check_rows.new.conn) c.check_rows.ensures.looks.crash clean in
    version_refuses Third _ (office_of c.args.office.now) c.args.text.now (state g.S.Store c.args.conn.now) s1 c.check_rows.result c.in-Third.is (c.in_ok-check_office.ensures.looks.same before) (c.in_ok-check_office.ensures.ours before) (c.in_ok-check_office.ensures.kept_text before) (c.check_rows.ensures.cause clean)

pub returns-in-Third-clause-opened : goal.returns-in-Third-clause-opened
returns-in-Third-clause-opened g c clean =
    let s0 = state g.S.Store c.args.conn.now in
    let s1 = state g.S.Store c.check_office.new.conn in
    let s2 = state g.S.Store c.check_rows.new.conn in
    let before = early s1 s2 c.check_rows.ensures.looks.crash clean in
    let first = early s0 s1 c.in_ok-check_office.ensures.looks.crash before in
    let office = office_of c.args.office.now in
    let ours = subst (λ v. HoldsTables v s1.now) c.in-Third.is (c.in_ok-check_office.ensures.ours before) in
    let text = subst (λ v. KeepsText (KeepsVersion v c.args.text.now) s1.now.trees) c.in-Third.is (c.in_ok-check_office.ensures.kept_text before) in
    on_ok c.check_rows.result (IsUnchanged s1 s2) (IsSound office s2.now) (IsOpened office c.args.text.now s0.now s2)
    (λ same sound. third_opened office c.args.text.now s0 s1 s2 (c.requires.idle first) (c.in_ok-check_office.ensures.looks.same before) same ours text sound)
    (c.check_rows.ensures.looks.same clean) (c.check_rows.ensures.sound clean)

pub returns-in-Third-clause-counted : goal.returns-in-Third-clause-counted
returns-in-Third-clause-counted g c = search rules depth 0 fits 100

pub check_rows-requires-clause-ours : goal.check_rows-requires-clause-ours
check_rows-requires-clause-ours g c = search rules depth 0 fits 100
