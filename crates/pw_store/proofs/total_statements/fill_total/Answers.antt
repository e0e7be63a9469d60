use Rattle.std.proofs.Common.{◌∷◌, [], Some, sym, ap, subst}
use Rattle.sqlite.specs.Held.{state}
use Rattle.pw_model.specs.declared.records.TotalKey.{TotalKey}
use Rattle.pw_store.specs.inner.Changing.{total_row}
use Rattle.pw_store.specs.inner.Filling.{TellsMore, is_of_energy}
use Rattle.pw_store.proofs.Filled.{put_kept, put_same, put_told, put_within, same_itself, told_itself}
use Rattle.pw_store.proofs.total_statements.fill_total.Goals as goal

pub returns-in-Energy-clause-within : goal.returns-in-Energy-clause-within
returns-in-Energy-clause-within g c clean =
    let given = total_row c.args.key.now (Some c.args.amount) in
    put_within given (state g.S.Store c.args.conn.now) (state g.S.Store c.put_energy.new.conn) c.put_energy.result (c.put_energy.ensures.put clean)

pub returns-in-Energy-clause-lasting : goal.returns-in-Energy-clause-lasting
returns-in-Energy-clause-lasting g c clean =
    let given = total_row c.args.key.now (Some c.args.amount) in
    put_same given (state g.S.Store c.args.conn.now) (state g.S.Store c.put_energy.new.conn) c.put_energy.result (c.put_energy.ensures.put clean)

pub returns-in-Energy-clause-told : goal.returns-in-Energy-clause-told
returns-in-Energy-clause-told g c clean =
    put_told c.args.key.now c.args.amount (state g.S.Store c.args.conn.now) (state g.S.Store c.put_energy.new.conn) c.put_energy.result (ap is_of_energy c.in-Energy.is) (c.put_energy.ensures.put clean)

pub returns-in-Energy-clause-kept : goal.returns-in-Energy-clause-kept
returns-in-Energy-clause-kept g c clean =
    let given = total_row c.args.key.now (Some c.args.amount) in
    put_kept given (state g.S.Store c.args.conn.now) (state g.S.Store c.put_energy.new.conn) c.put_energy.result (c.put_energy.ensures.put clean) (c.put_energy.ensures.writes.failed clean)

pub returns-in-TopUps-clause-lasting : goal.returns-in-TopUps-clause-lasting
returns-in-TopUps-clause-lasting g c clean = same_itself (state g.S.Store c.args.conn.now).now.trees

pub returns-in-TopUps-clause-told : goal.returns-in-TopUps-clause-told
returns-in-TopUps-clause-told g c clean =
    let old = state g.S.Store c.args.conn.now in
    subst (λ (k : TotalKey). TellsMore ((k, c.args.amount) ∷ []) old.now.trees old.now.trees) (sym c.in-TopUps.is) (told_itself old.now.trees)
