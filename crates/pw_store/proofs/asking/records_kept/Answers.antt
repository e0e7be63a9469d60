use Rattle.std.proofs.Common.{List, refl}
use Rattle.sqlite.specs.Held.{state}
use Rattle.pw_model.specs.declared.records.Entry.{Entry}
use Rattle.pw_shelf.specs.Rows.{ListsHeld}
use Rattle.pw_store.specs.inner.Lists.{IsKeptAs}
use Rattle.pw_store.proofs.OneKind.{read_if}
use Rattle.pw_store.proofs.Lists.{lists_kind}
use Rattle.pw_store.proofs.asking.records_kept.Goals as goal

pub returns-clause-rows : goal.returns-clause-rows
returns-clause-rows g c clean =
    let db = (state g.S.Store c.args.conn.now).now.trees in
    read_if c.args.kind c.in_ok-rows.rows.items c.as_slice.result.now c.read.result (λ (records : List Entry) (found : List Entry). ListsHeld (IsKeptAs c.args.kind) records found) _ _ c.as_slice.ensures.value refl
    (λ found reads. lists_kind c.args.kind db c.in_ok-rows.rows.items found (c.in_ok-rows.ensures.rows clean) reads) c.read.ensures
