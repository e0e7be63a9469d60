use Rattle.std.proofs.Common.{IfErr, subst}
use Rattle.sqlite.specs.Held.{state}
use Rattle.sqlite.specs.Effect.{Database}
use Rattle.sqlite.proofs.StateLemmas.{survives_weaker}
use Rattle.pw_tariff.specs.Office.{office_of}
use Rattle.pw_schema.proofs.Outcomes.{on_err}
use Rattle.pw_store.specs.Left.{MayBeMade}
use Rattle.pw_store.specs.Opening.{Refuses}
use Rattle.pw_store.proofs.Raised.{settled_survives}
use Rattle.pw_store.proofs.opening.prepare.Goals as goal

pub returns-clause-cause : goal.returns-clause-cause
returns-clause-cause g c clean =
    let before = c.make_or_check.ensures.clean clean in
    subst (λ (d : Database). IfErr c.make_or_check.result (Refuses (office_of c.args.office.now) c.args.text.now d)) (c.in_ok-roll_back_and_wake.ensures.settled before).committed (c.make_or_check.ensures.cause clean)

pub returns-clause-crash : goal.returns-clause-crash
returns-clause-crash g c =
    settled_survives c.make_or_check.result (office_of c.args.office.now) c.args.text.now (state g.S.Store c.args.conn.now) (state g.S.Store c.roll_back_and_wake.new.conn) (state g.S.Store c.make_or_check.new.conn) (λ clean. (c.in_ok-roll_back_and_wake.ensures.settled clean).committed) c.in_ok-roll_back_and_wake.ensures.crash c.make_or_check.ensures.crash

pub returns-in_err-roll_back_and_wake-clause-crash : goal.returns-in_err-roll_back_and_wake-clause-crash
returns-in_err-roll_back_and_wake-clause-crash g c =
    let old = state g.S.Store c.args.conn.now in
    on_err c.from_residual.result (survives_weaker old (state g.S.Store c.roll_back_and_wake.new.conn) (λ _. ⊥) (MayBeMade (office_of c.args.office.now) c.args.text.now old) (λ clean db never. absurd never) c.roll_back_and_wake.ensures.crash)
