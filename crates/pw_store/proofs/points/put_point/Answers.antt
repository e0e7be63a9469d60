use Rattle.std.proofs.Common.{Err, refl}
use Rattle.sqlite.specs.Held.{state}
use Rattle.pw_store.proofs.Texts.{four_terms}
use Rattle.pw_store.specs.declared.changes.Change.TheVariants.{PutPoint}
use Rattle.pw_store.specs.inner.Changing.{changed}
use Rattle.pw_store.proofs.KeptTexts.{insert_point_text, insert_point_is}
use Rattle.pw_store.proofs.Adding.{insert_survives, inserts_if}
use Rattle.pw_store.proofs.Clashing.{none_makes, none_writes, none_refuses}
use Rattle.pw_store.proofs.PointRows.{puts}
use Rattle.pw_schema.proofs.Outcomes.{early}
use Rattle.pw_store.proofs.points.put_point.Goals as goal

pub returns-in-Ok-clause-done : goal.returns-in-Ok-clause-done
returns-in-Ok-clause-done g c clean =
    let before = early (state g.S.Store c.args.conn.now) (state g.S.Store c.execute-put.new.self) c.execute-put.ensures.survives clean in
    puts (state g.S.Store c.args.conn.now) (state g.S.Store c.execute-put.new.self) c.args.point c.in-Ok.field-0 (c.requires.store before) (c.requires.inside before)
    (rw (c.meter_in.ensures, c.register_in.ensures, c.instant_in.ensures, c.wh_in.ensures) at (c.in-Ok.ensures.runs clean))

pub returns-in-Ok-clause-writes : goal.returns-in-Ok-clause-writes
returns-in-Ok-clause-writes g c = record {
  failed = λ clean. tt;
  crash = insert_survives insert_point_text 4 5 four_terms insert_point_is (state g.S.Store c.args.conn.now) (state g.S.Store c.execute-put.new.self) _ (λ clean. (c.requires.store clean).ours) c.requires.inside c.execute-put.ensures.survives;
}

pub returns-in-Err-clause-done : goal.returns-in-Err-clause-done
returns-in-Err-clause-done g c clean =
    let old = state g.S.Store c.args.conn.now in
    let new = state g.S.Store c.execute-put.new.self in
    let before = early old new c.execute-put.ensures.survives clean in
    none_makes c.in-Err.error c.none_put.result c.none_put.ensures.taken c.none_put.ensures.other old new insert_point_text _ (changed (PutPoint c.args.point)) refl (c.requires.store before) (c.requires.inside before) (c.in-Err.ensures.runs clean)

pub returns-in-Err-clause-writes : goal.returns-in-Err-clause-writes
returns-in-Err-clause-writes g c =
    let old = state g.S.Store c.args.conn.now in
    let new = state g.S.Store c.execute-put.new.self in
    none_writes c.in-Err.error c.none_put.result c.none_put.ensures.taken c.none_put.ensures.other old new
    (inserts_if insert_point_text 4 5 four_terms insert_point_is old new _ (Err c.in-Err.error) (λ clean. (c.requires.store clean).ours) c.requires.inside c.in-Err.ensures.runs c.execute-put.ensures.survives)

pub returns-in-Err-clause-refused : goal.returns-in-Err-clause-refused
returns-in-Err-clause-refused g c = none_refuses c.in-Err.error c.none_put.result c.none_put.ensures.taken c.none_put.ensures.other
