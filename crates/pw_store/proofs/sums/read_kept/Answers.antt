use Rattle.std.proofs.Common.{List, ap, subst, ◌∙◌}
use Rattle.sqlite.specs.Held.{state}
use Rattle.sqlite.specs.Order.{Row}
use Rattle.pw_tariff.specs.Office.{office_of}
use Rattle.pw_schema.proofs.Outcomes.{early}
use Rattle.pw_store.specs.inner.Listings.{kept_as, kept_tree}
use Rattle.pw_store.specs.inner.Sums.{AreNumbered}
use Rattle.pw_store.proofs.InTurn.{trees_same}
use Rattle.pw_store.proofs.Compared.{kept_holds, kept_refuses, kept_tells}
use Rattle.pw_store.proofs.Passed.{passed}
use Rattle.pw_store.specs.inner.Opened.{RefusesUnless}
use Rattle.pw_store.specs.Opening.{HoldsKept}
use Rattle.pw_store.proofs.sums.read_kept.Goals as goal

pub returns-in_err-count-clause-cause : goal.returns-in_err-count-clause-cause
returns-in_err-count-clause-cause g c clean =
    let table : List Row = (state g.S.Store c.args.conn.now).now.trees (kept_tree c.args.kept) in
    passed c.from_residual.result (RefusesUnless (HoldsKept (office_of c.args.office.now) (kept_as c.args.kept) table)) c.from_residual.ensures.1 (kept_refuses (office_of c.args.office.now) (kept_as c.args.kept) table c.new-entries.result (ap office_of c.new-entries.ensures.office) (c.new-entries.ensures.kind ∙ c.kind.ensures) c.in_err-count.field-0.0 c.in_err-count.ensures.others (c.in_err-count.ensures.refused clean))

pub returns-clause-holds : goal.returns-clause-holds
returns-clause-holds g c clean =
    let before = early (state g.S.Store c.judge_listing.new.conn) (state g.S.Store c.check_rowids.new.conn) c.in_ok-check_rowids.ensures.looks.crash clean in
    let table : List Row = (state g.S.Store c.args.conn.now).now.trees (kept_tree c.args.kept) in
    let it = c.in_ok-count.ensures.took in
    kept_holds (office_of c.args.office.now) (kept_as c.args.kept) table c.new-entries.result (ap office_of c.new-entries.ensures.office) (c.new-entries.ensures.kind ∙ c.kind.ensures) c.judge_listing.new.judge it.0 it.1 (it.2 before)

pub returns-clause-numbered : goal.returns-clause-numbered
returns-clause-numbered g c clean =
    let before = early (state g.S.Store c.judge_listing.new.conn) (state g.S.Store c.check_rowids.new.conn) c.in_ok-check_rowids.ensures.looks.crash clean in
    let same = trees_same (state g.S.Store c.args.conn.now) (state g.S.Store c.judge_listing.new.conn) (c.in_ok-count.ensures.looks.same before) in
    subst (λ db. AreNumbered (db (kept_tree c.args.kept))) same (c.in_ok-check_rowids.ensures.numbered clean)

pub returns-clause-tells : goal.returns-clause-tells
returns-clause-tells g c clean =
    let before = early (state g.S.Store c.judge_listing.new.conn) (state g.S.Store c.check_rowids.new.conn) c.in_ok-check_rowids.ensures.looks.crash clean in
    let table : List Row = (state g.S.Store c.args.conn.now).now.trees (kept_tree c.args.kept) in
    let it = c.in_ok-count.ensures.took in
    kept_tells (office_of c.args.office.now) (kept_as c.args.kept) table c.new-entries.result (ap office_of c.new-entries.ensures.office) (c.new-entries.ensures.kind ∙ c.kind.ensures) c.judge_listing.new.judge it.0 it.1 (it.2 before) c.args.expected.now c.is_at_end.result c.new-entries.ensures.rest c.is_at_end.ensures
