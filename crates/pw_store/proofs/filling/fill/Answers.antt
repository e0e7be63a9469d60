use Rattle.std.proofs.Common.{sym, subst}
use Rattle.std.proofs.lemmas.Result.{on_ok_weaker}
use Rattle.sqlite.specs.Held.{state}
use Rattle.sqlite.specs.State.{IsUnchanged}
use Rattle.sqlite.specs.Tree.{Trees}
use Rattle.pw_tariff.specs.Office.{office_of}
use Rattle.pw_schema.specs.Raised.{HasSame, lasting_trees}
use Rattle.pw_schema.specs.Tables.{schema_of}
use Rattle.pw_schema.specs.declared.kind.StoreVersion.TheVariants.{Third}
use Rattle.pw_schema.proofs.Outcomes.{early}
use Rattle.pw_store.specs.Left.{IsFilled}
use Rattle.pw_store.specs.inner.Opened.{AreJudged}
use Rattle.pw_store.proofs.Filled.{filled_on, judged_on, within_on}
use Rattle.pw_store.proofs.InTurn.{trees_same}
use Rattle.pw_store.proofs.Raised.{on_ok}
use Rattle.pw_store.proofs.filling.fill.Goals as goal

pub see_filled-requires-clause-ours : goal.see_filled-requires-clause-ours
see_filled-requires-clause-ours g c clean = (c.in_ok-put_all.ensures.within clean).schema_is

pub see_filled-requires-clause-judged : goal.see_filled-requires-clause-judged
see_filled-requires-clause-judged g c clean =
    let old = state g.S.Store c.args.conn.now in
    let mid = state g.S.Store c.put_all.new.conn in
    judged_on old.now.trees mid.now.trees (c.in_ok-put_all.ensures.lasting clean) (office_of c.args.office.now) c.args.parts.now (c.requires.judged (early old mid c.in_ok-put_all.ensures.crash clean))

pub returns-clause-within : goal.returns-clause-within
returns-clause-within g c clean =
    let mid = state g.S.Store c.put_all.new.conn in
    let new = state g.S.Store c.see_filled.new.conn in
    let looks = c.see_filled.ensures.looks in
    let within = c.in_ok-put_all.ensures.within (early mid new looks.crash clean) in
    on_ok_weaker c.see_filled.result (λ same. within_on (schema_of Third) mid new same within) (looks.same clean)

pub returns-clause-lasting : goal.returns-clause-lasting
returns-clause-lasting g c clean =
    let old = state g.S.Store c.args.conn.now in
    let mid = state g.S.Store c.put_all.new.conn in
    let new = state g.S.Store c.see_filled.new.conn in
    let looks = c.see_filled.ensures.looks in
    let lasting = c.in_ok-put_all.ensures.lasting (early mid new looks.crash clean) in
    on_ok_weaker c.see_filled.result (λ same. subst (HasSame lasting_trees old.now.trees) (sym (trees_same mid new same)) lasting) (looks.same clean)

pub returns-clause-judged : goal.returns-clause-judged
returns-clause-judged g c clean =
    let old = state g.S.Store c.args.conn.now in
    let mid = state g.S.Store c.put_all.new.conn in
    let new = state g.S.Store c.see_filled.new.conn in
    let looks = c.see_filled.ensures.looks in
    let before = early mid new looks.crash clean in
    let judged = judged_on old.now.trees mid.now.trees (c.in_ok-put_all.ensures.lasting before) (office_of c.args.office.now) c.args.parts.now (c.requires.judged (early old mid c.in_ok-put_all.ensures.crash before)) in
    on_ok_weaker c.see_filled.result (λ same. subst (λ (db : Trees). AreJudged (office_of c.args.office.now) db c.args.parts.now) (sym (trees_same mid new same)) judged) (looks.same clean)

pub returns-clause-filled : goal.returns-clause-filled
returns-clause-filled g c clean =
    let office = office_of c.args.office.now in
    let mid = state g.S.Store c.put_all.new.conn in
    let new = state g.S.Store c.see_filled.new.conn in
    on_ok c.see_filled.result (IsUnchanged mid new) (IsFilled office mid.now.trees) (IsFilled office new.now.trees) (λ same filled. filled_on office mid new same filled) (c.see_filled.ensures.looks.same clean) (c.see_filled.ensures.filled clean)
