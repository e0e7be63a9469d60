use Rattle.std.proofs.Common.{◌≡◌, List, ap, sym, subst, ◌∙◌}
use Rattle.pw_model.specs.declared.records.Entry.{Entry}
use Rattle.pw_model.specs.Counting.{contents_at}
use Rattle.pw_model.specs.Kinds.{IsTopUp, ListsHeld}
use Rattle.pw_model.specs.Shelf.{ShelfContent}
use Rattle.pw_bills.specs.declared.payments.TopUpRow.{TopUpRow}
use Rattle.pw_bills.specs.Payments.{AreTopUpRows}
use Rattle.pw_bills.specs.inner.TopUpRows.{rows_among}
use Rattle.pw_bills.proofs.RowsListed.{reads-enough, rows-are}
use Rattle.pw_bills.proofs.payments.rows_held.Goals as goal

pub returns-clause-rows : goal.returns-clause-rows
returns-clause-rows g c = λ k.
    let before = c.rows_among.ensures.asked.kept.clean k in
    let records = (g.S.Shelf.state c.args.shelf.now).content.records in
    let a = c.args.account in
    let held = c.in_ok-held.held.items in
    let same = c.in_ok-held.ensures.asked.content before in
    let listed : c.in_ok-rows.rows.items ≡ rows_among (contents_at records) a c.args.from c.args.until held
    = c.in_ok-rows.ensures.rows k ∙ ap (λ (d : ShelfContent). rows_among (contents_at d.records) a c.args.from c.args.until c.deref.result.now) same
    ∙ ap (rows_among (contents_at records) a c.args.from c.args.until) c.deref.ensures.value in
    let P : List TopUpRow → Type 0 = λ rows. AreTopUpRows records a c.args.from c.args.until rows in
    subst P (sym listed) (rows-are records a c.args.from c.args.until held (c.in_ok-held.ensures.rows before))

pub returns-in_err-rows-clause-tally : goal.returns-in_err-rows-clause-tally
returns-in_err-rows-clause-tally g c = λ k most h.
    let before = c.rows_among.ensures.asked.kept.clean k in
    let records = (g.S.Shelf.state c.args.shelf.now).content.records in
    let P : List Entry → Type 0 = λ es. ListsHeld IsTopUp records es in
    reads-enough c.args.account c.args.from c.args.until records c.deref.result.now most _ _ _ _ (subst P (sym c.deref.ensures.value) (c.in_ok-held.ensures.rows before)) h
    (sym c.deref.ensures.len) c.in_ok-held.ensures.tally c.rows_among.ensures.tally

pub returns-clause-tally : goal.returns-clause-tally
returns-clause-tally g c = λ k most h.
    let before = c.rows_among.ensures.asked.kept.clean k in
    let records = (g.S.Shelf.state c.args.shelf.now).content.records in
    let P : List Entry → Type 0 = λ es. ListsHeld IsTopUp records es in
    reads-enough c.args.account c.args.from c.args.until records c.deref.result.now most _ _ _ _ (subst P (sym c.deref.ensures.value) (c.in_ok-held.ensures.rows before)) h
    (sym c.deref.ensures.len) c.in_ok-held.ensures.tally c.rows_among.ensures.tally
