use Rattle.std.proofs.Common.{List, sym, subst, rules}
use Rattle.sqlite.specs.Held.{state}
use Rattle.sqlite.specs.Order.{Row}
use Rattle.pw_schema.specs.Judging.{KeepsVersion}
use Rattle.pw_schema.proofs.Outcomes.{early}
use Rattle.pw_store.proofs.Raised.{text_differs}
use Rattle.pw_store.proofs.judging.check_office.Goals as goal

pub returns-then-not-keeps_office-clause-cause : goal.returns-then-not-keeps_office-clause-cause
returns-then-not-keeps_office-clause-cause g c clean =
    let old = state g.S.Store c.args.conn.now in
    let mid = state g.S.Store c.read_office.new.conn in
    let new = state g.S.Store c.holds_tables.new.conn in
    let before = early mid new c.in_ok-holds_tables.ensures.crash clean in
    let rows : List Row = c.in_ok-rows.rows.items in
    text_differs c.args.text.now old mid c.in_ok-rows.version rows (c.in_ok-rows.ensures.looks.same before) (c.in_ok-holds_tables.ensures.is clean c.if-not-branch.false) (c.in_ok-rows.ensures.rows before) c.in_ok-rows.ensures.version
    (λ keeps. (let bad = c.keeps_office.ensures.all (subst (KeepsVersion c.in_ok-rows.version c.args.text.now) (sym c.as_slice.ensures.value) keeps) in let was = c.if-not-keeps_office.true in cc))

pub returns-clause-kept_text : goal.returns-clause-kept_text
returns-clause-kept_text g c = search rules depth 0 fits 100
