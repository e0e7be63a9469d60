use Rattle.std.proofs.Common.{◌∙◌, List, sym, subst}
use Rattle.pw_tariff.specs.Office.{office_of}
use Rattle.pw_model.specs.declared.records.Entry.{Entry}
use Rattle.pw_model.specs.Kinds.{IsReadingOf, ListsHeld}
use Rattle.pw_carrying.proofs.Listing.{none-listed}
use Rattle.pw_carrying.proofs.lists.readings_held.Goals as goal

pub returns-else-counts-clause-rows : goal.returns-else-counts-clause-rows
returns-else-counts-clause-rows g c = λ k of.
    let records = (g.S.Shelf.state c.args.shelf.now).content.records in
    let L : List Entry → Type 0 = λ xs. ListsHeld (IsReadingOf c.args.meter c.args.register) records xs in
    subst L (sym c.new.ensures.items) (none-listed (office_of c.args.office.now) records c.args.meter c.args.register of (sym c.counts.ensures ∙ c.if-counts.false))
