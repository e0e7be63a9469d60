use Rattle.std.proofs.Common.{◌∙◌, List, ap, sym, subst}
use Rattle.pw_tariff.specs.Office.{OfficeFile, counts_at, office_of}
use Rattle.pw_model.specs.declared.records.ReadingRow.{ReadingRow}
use Rattle.pw_carrying.specs.inner.Latest.{IsLastOf, IsReadAmong, IsReadOf}
use Rattle.pw_carrying.proofs.Latest.{last-also, last-none, none-uncounted, rows-told}
use Rattle.pw_carrying.proofs.readings.last_of_register.Goals as goal

pub returns-then-not-counts-clause-last : goal.returns-then-not-counts-clause-last
returns-then-not-counts-clause-last g c = λ k.
    let records = (g.S.Shelf.state c.args.book.now.shelf).content.records in
    let here = ap (λ (o : OfficeFile). counts_at o c.args.meter.0 c.args.register) (sym c.office.ensures) ∙ sym c.counts.ensures ∙ c.if-not-counts.true in
    last-none (IsReadOf records c.args.meter.0 c.args.register)
    (λ t. none-uncounted (office_of c.args.book.now.office) records c.args.meter.0 c.args.register t (c.args.book.now.of_office c.requires.open_yet k) here)

pub returns-clause-last : goal.returns-clause-last
returns-clause-last g c = λ k.
    let records = (g.S.Shelf.state c.args.book.now.shelf).content.records in
    let rows = c.in_ok-rows.rows.items in
    let L : List ReadingRow → Type 0 = λ xs. IsLastOf (IsReadAmong xs) c.last_among.result in
    last-also (IsReadAmong rows) (IsReadOf records c.args.meter.0 c.args.register) c.last_among.result
    (λ t. rows-told records c.args.meter.0 c.args.register rows t (c.in_ok-rows.ensures.readings k))
    (subst L c.deref.ensures.value c.last_among.ensures)
