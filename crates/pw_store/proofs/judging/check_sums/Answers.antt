use Rattle.std.proofs.Common.{◌≡◌, true, false, sym, subst, ◌∙◌}
use Rattle.sqlite.specs.Held.{state}
use Rattle.pw_tariff.specs.Office.{office_of}
use Rattle.pw_schema.proofs.Outcomes.{early}
use Rattle.pw_store.specs.inner.Opened.{IsSound, RowsRefuse}
use Rattle.pw_store.proofs.Judged.{judged, judged_others, sums_refused}
use Rattle.pw_store.proofs.Passed.{passed}
use Rattle.pw_schema.specs.declared.kind.StoreVersion.TheVariants.{Third}
use Rattle.pw_store.proofs.judging.check_sums.Goals as goal

pub returns-then-branch-clause-sound : goal.returns-then-branch-clause-sound
returns-then-branch-clause-sound g c clean =
    let old = state g.S.Store c.args.conn.now in
    let before = early old (state g.S.Store c.read_sums.new.conn) c.in_ok-read_sums.ensures.looks.crash clean in
    let told = c.in_ok-read_sums.ensures.tells clean in
    subst (IsSound (office_of c.args.office.now)) (sym (c.in_ok-read_sums.ensures.looks.same clean).0.now_is)
    (judged (office_of c.args.office.now) old.now c.args.parts.now told.0 (c.requires.ours before) (c.requires.judged before) (c.in_ok-read_sums.ensures.holds clean) (c.in_ok-read_sums.ensures.numbered clean) told.1
    (told.2.0 c.if-branch.true))

pub returns-else-branch-clause-cause : goal.returns-else-branch-clause-cause
returns-else-branch-clause-cause g c clean =
    let old = state g.S.Store c.args.conn.now in
    let before = early old (state g.S.Store c.read_sums.new.conn) c.in_ok-read_sums.ensures.looks.crash clean in
    let told = c.in_ok-read_sums.ensures.tells clean in
    judged_others (office_of c.args.office.now) old.now c.args.parts.now told.0 (c.requires.ours before) (c.requires.judged before) (c.in_ok-read_sums.ensures.holds clean) (c.in_ok-read_sums.ensures.numbered clean) told.1
    (λ are. (let bad : true ≡ false = sym (told.2.1 are) ∙ c.if-branch.false in cc))

pub returns-in_err-read_sums-clause-cause : goal.returns-in_err-read_sums-clause-cause
returns-in_err-read_sums-clause-cause g c clean =
    passed c.from_residual.result (RowsRefuse Third (office_of c.args.office.now) (state g.S.Store c.args.conn.now).now.trees) c.from_residual.ensures.1 (sums_refused (office_of c.args.office.now) (state g.S.Store c.args.conn.now).now.trees c.in_err-read_sums.field-0.0 (c.in_err-read_sums.ensures.cause clean))
