use Rattle.std.proofs.Common.{ap, subst, sym, ◌∙◌}
use Rattle.sqlite.specs.Held.{state}
use Rattle.pw_tariff.specs.Office.{office_of}
use Rattle.pw_model.specs.Shelf.{IsTrueContent}
use Rattle.pw_shelf.specs.Left.{LeavesOnly}
use Rattle.pw_store.specs.Kept.{left_of, written_of}
use Rattle.pw_store.specs.Waiting.{with_waiting}
use Rattle.pw_store.proofs.Waited.{with_none}
use Rattle.pw_store.proofs.Adopted.{adopted_at, adopted_few, adopted_held, adopted_of_office, adopted_opened, adopted_text, adopted_truth, was_open_at}
use Rattle.pw_store.proofs.Fresh.{left_alone}
use Rattle.pw_store.proofs.shelf.SqlShelf.adopt_for.Goals as goal

pub returns-in-Ok-clause-same : goal.returns-in-Ok-clause-same
returns-in-Ok-clause-same g c clean =
    let it = adopted_at _ _ _ _ (ap (state g.S.Store) c.into_connection-connection.ensures) (ap (state g.S.Store) c.over.ensures.conn) _ _ c.in-Ok.ensures.adopted clean in
    let was = was_open_at _ _ _ _ (ap (state g.S.Store) c.into_connection-connection.ensures) (ap (state g.S.Store) c.over.ensures.conn) c.in-Ok.ensures.was_open clean in
    let self = c.args.self in
    let new = c.over.result in
    ap (λ waiting. with_waiting waiting (written_of (state g.S.Store new.conn) (state g.S.Store new.base.value))) c.over.ensures.none
    ∙ adopted_held (state g.S.Store self.conn) (state g.S.Store self.base.value) _ _ (state g.S.Store new.conn) (state g.S.Store new.base.value) self.begun self.idle c.requires was.0 was.1 it
    ∙ sym (with_none self.waiting.items (written_of (state g.S.Store self.conn) (state g.S.Store self.base.value)) (self.none_waits c.requires))

pub returns-in-Ok-clause-rows : goal.returns-in-Ok-clause-rows
returns-in-Ok-clause-rows g c clean = (adopted_at _ _ _ _ (ap (state g.S.Store) c.into_connection-connection.ensures) (ap (state g.S.Store) c.over.ensures.conn) _ _ c.in-Ok.ensures.adopted clean).adopted.same

pub returns-in-Ok-clause-left : goal.returns-in-Ok-clause-left
returns-in-Ok-clause-left g c clean =
    let it = adopted_at _ _ _ _ (ap (state g.S.Store) c.into_connection-connection.ensures) (ap (state g.S.Store) c.over.ensures.conn) _ _ c.in-Ok.ensures.adopted clean in
    let s = state g.S.Store c.over.result.conn in
    subst (λ waiting. LeavesOnly (with_waiting waiting (written_of s (state g.S.Store c.over.result.base.value))) (left_of s)) (sym c.over.ensures.none)
    (left_alone s (state g.S.Store c.over.result.base.value) it.standing (λ db live may. g.met.S.Store.settled c.over.result.conn.store db live may))

pub returns-in-Ok-clause-of_office : goal.returns-in-Ok-clause-of_office
returns-in-Ok-clause-of_office g c clean =
    adopted_of_office _ (state g.S.Store c.over.result.base.value) _ _ _
    (adopted_at _ _ _ _ (ap (state g.S.Store) c.into_connection-connection.ensures) (ap (state g.S.Store) c.over.ensures.conn) _ _ c.in-Ok.ensures.adopted clean)

pub returns-in-Ok-clause-few : goal.returns-in-Ok-clause-few
returns-in-Ok-clause-few g c clean =
    adopted_few _ (state g.S.Store c.over.result.base.value) _ _ _
    (adopted_at _ _ _ _ (ap (state g.S.Store) c.into_connection-connection.ensures) (ap (state g.S.Store) c.over.ensures.conn) _ _ c.in-Ok.ensures.adopted clean)

pub returns-in-Ok-clause-truth : goal.returns-in-Ok-clause-truth
returns-in-Ok-clause-truth g c clean =
    subst (λ waiting. IsTrueContent (office_of c.args.office.now) (with_waiting waiting (written_of (state g.S.Store c.over.result.conn) (state g.S.Store c.over.result.base.value)))) (sym c.over.ensures.none)
    (adopted_truth (state g.S.Store c.over.result.conn) (state g.S.Store c.over.result.base.value) _ _ _
    (adopted_at _ _ _ _ (ap (state g.S.Store) c.into_connection-connection.ensures) (ap (state g.S.Store) c.over.ensures.conn) _ _ c.in-Ok.ensures.adopted clean))

pub returns-in-Ok-clause-kept_text : goal.returns-in-Ok-clause-kept_text
returns-in-Ok-clause-kept_text g c clean =
    adopted_text _ (state g.S.Store c.over.result.base.value) _ _ _
    (adopted_at _ _ _ _ (ap (state g.S.Store) c.into_connection-connection.ensures) (ap (state g.S.Store) c.over.ensures.conn) _ _ c.in-Ok.ensures.adopted clean)

pub returns-in-Ok-clause-opened : goal.returns-in-Ok-clause-opened
returns-in-Ok-clause-opened g c clean =
    adopted_opened _ (state g.S.Store c.over.result.base.value) _ _ _
    (adopted_at _ _ _ _ (ap (state g.S.Store) c.into_connection-connection.ensures) (ap (state g.S.Store) c.over.ensures.conn) _ _ c.in-Ok.ensures.adopted clean)
    (state g.S.Store c.over.result.opened.value) (ap (state g.S.Store) (c.over.ensures.opened ∙ sym c.over.ensures.conn))

pub returns-in-Ok-clause-was_clean : goal.returns-in-Ok-clause-was_clean
returns-in-Ok-clause-was_clean g c clean = was_open_at _ _ _ _ (ap (state g.S.Store) c.into_connection-connection.ensures) (ap (state g.S.Store) c.over.ensures.conn) c.in-Ok.ensures.was_open clean

pub returns-in-Ok-clause-idle : goal.returns-in-Ok-clause-idle
returns-in-Ok-clause-idle g c = c.over.ensures.idle

pub returns-in-Ok-clause-counts : goal.returns-in-Ok-clause-counts
returns-in-Ok-clause-counts g c = c.over.ensures.counts
