use Rattle.sqlite.specs.Held.{state}
use Rattle.pw_tariff.specs.Office.{office_of}
use Rattle.pw_schema.proofs.Outcomes.{early}
use Rattle.pw_store.proofs.Adopted.{settled_refuses, settled_survives}
use Rattle.pw_store.proofs.adopting.exchange.Goals as goal

pub returns-clause-cause : goal.returns-clause-cause
returns-clause-cause g c clean =
    let old = state g.S.Store c.args.conn.now in
    let mid = state g.S.Store c.roll_back_and_wake.new.conn in
    let new = state g.S.Store c.replace_or_undo.new.conn in
    let before = early mid new c.replace_or_undo.ensures.crash clean in
    let settled = c.in_ok-roll_back_and_wake.ensures.settled before in
    settled_refuses c.replace_or_undo.result (office_of c.args.office.now) mid.now old.committed settled.now (c.requires (early old mid c.in_ok-roll_back_and_wake.ensures.crash before) settled.was_open) (c.replace_or_undo.ensures.cause clean)

pub returns-clause-crash : goal.returns-clause-crash
returns-clause-crash g c =
    settled_survives c.replace_or_undo.result (office_of c.args.office.now) c.args.text.now (state g.S.Store c.args.conn.now) (state g.S.Store c.roll_back_and_wake.new.conn) (state g.S.Store c.replace_or_undo.new.conn) (λ clean. (c.in_ok-roll_back_and_wake.ensures.settled clean).now) c.in_ok-roll_back_and_wake.ensures.crash c.replace_or_undo.ensures.crash
