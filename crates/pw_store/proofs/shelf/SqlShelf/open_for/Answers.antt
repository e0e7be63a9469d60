use Rattle.std.proofs.Common.{◌∙◌, ap, rules, subst, sym}
use Rattle.sqlite.specs.Held.{state}
use Rattle.pw_tariff.specs.Office.{office_of}
use Rattle.pw_model.specs.Shelf.{IsTrueContent}
use Rattle.pw_shelf.specs.Left.{LeavesOnly}
use Rattle.pw_store.specs.Kept.{left_of, written_of}
use Rattle.pw_store.specs.Opening.{IsFound}
use Rattle.pw_store.specs.Waiting.{with_waiting}
use Rattle.pw_store.proofs.Fresh.{left_alone, open_content, open_few, open_text, open_truth, opened_at, stands}
use Rattle.pw_store.proofs.LeftStores.{opening_text}
use Rattle.pw_store.proofs.shelf.SqlShelf.open_for.Goals as goal

pub over-requires-clause-standing : goal.over-requires-clause-standing
over-requires-clause-standing g c clean = stands (state g.S.Store c.prepare.new.conn) (office_of c.args.office.now) c.args.office_text.now (state g.S.Store c.args.connection).committed (c.in-Ok.ensures.opened clean)

pub returns-in-Ok-clause-content : goal.returns-in-Ok-clause-content
returns-in-Ok-clause-content g c clean =
    let s = state g.S.Store c.over.result.conn in
    let office = office_of c.args.office.now in
    let before = (state g.S.Store c.args.connection).committed in
    let it = opened_at (state g.S.Store c.prepare.new.conn) s office c.args.office_text.now before (ap (state g.S.Store) c.over.ensures.conn) c.in-Ok.ensures.opened clean in
    subst (λ waiting. IsFound office before (with_waiting waiting (written_of s (state g.S.Store c.over.result.base.value)))) (sym c.over.ensures.none)
    (open_content s (state g.S.Store c.over.result.base.value) office c.args.office_text.now before it)

pub returns-in-Ok-clause-few : goal.returns-in-Ok-clause-few
returns-in-Ok-clause-few g c clean =
    let s = state g.S.Store c.over.result.conn in
    let office = office_of c.args.office.now in
    let before = (state g.S.Store c.args.connection).committed in
    let it = opened_at (state g.S.Store c.prepare.new.conn) s office c.args.office_text.now before (ap (state g.S.Store) c.over.ensures.conn) c.in-Ok.ensures.opened clean in
    open_few s (state g.S.Store c.over.result.base.value) office c.args.office_text.now before it

pub returns-in-Ok-clause-truth : goal.returns-in-Ok-clause-truth
returns-in-Ok-clause-truth g c clean =
    let s = state g.S.Store c.over.result.conn in
    let office = office_of c.args.office.now in
    let before = (state g.S.Store c.args.connection).committed in
    let it = opened_at (state g.S.Store c.prepare.new.conn) s office c.args.office_text.now before (ap (state g.S.Store) c.over.ensures.conn) c.in-Ok.ensures.opened clean in
    subst (λ waiting. IsTrueContent office (with_waiting waiting (written_of s (state g.S.Store c.over.result.base.value)))) (sym c.over.ensures.none)
    (open_truth s (state g.S.Store c.over.result.base.value) office c.args.office_text.now before it)

pub returns-in-Ok-clause-kept_text : goal.returns-in-Ok-clause-kept_text
returns-in-Ok-clause-kept_text g c clean =
    let s = state g.S.Store c.over.result.conn in
    let office = office_of c.args.office.now in
    let before = (state g.S.Store c.args.connection).committed in
    let it = opened_at (state g.S.Store c.prepare.new.conn) s office c.args.office_text.now before (ap (state g.S.Store) c.over.ensures.conn) c.in-Ok.ensures.opened clean in
    open_text s office c.args.office_text.now before it

pub returns-in-Ok-clause-left : goal.returns-in-Ok-clause-left
returns-in-Ok-clause-left g c clean =
    let s = state g.S.Store c.over.result.conn in
    let office = office_of c.args.office.now in
    let before = (state g.S.Store c.args.connection).committed in
    let it = opened_at (state g.S.Store c.prepare.new.conn) s office c.args.office_text.now before (ap (state g.S.Store) c.over.ensures.conn) c.in-Ok.ensures.opened clean in
    subst (λ waiting. LeavesOnly (with_waiting waiting (written_of s (state g.S.Store c.over.result.base.value))) (left_of s)) (sym c.over.ensures.none)
    (left_alone s (state g.S.Store c.over.result.base.value) (stands s office c.args.office_text.now before it) (λ db live may. g.met.S.Store.settled c.over.result.conn.store db live may))

pub returns-in-Ok-clause-opened : goal.returns-in-Ok-clause-opened
returns-in-Ok-clause-opened g c clean =
    let s = state g.S.Store c.over.result.conn in
    let office = office_of c.args.office.now in
    let before = (state g.S.Store c.args.connection).committed in
    let it = opened_at (state g.S.Store c.prepare.new.conn) s office c.args.office_text.now before (ap (state g.S.Store) c.over.ensures.conn) c.in-Ok.ensures.opened clean in
    opening_text s (state g.S.Store c.over.result.opened.value) office c.args.office_text.now before (ap (state g.S.Store) (c.over.ensures.opened ∙ sym c.over.ensures.conn)) it

pub returns-in-Ok-clause-idle : goal.returns-in-Ok-clause-idle
returns-in-Ok-clause-idle g c = search rules depth 0 fits 100
