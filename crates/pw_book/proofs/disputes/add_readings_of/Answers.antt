use Rattle.std.proofs.Common.{◌+◌, ◌*◌}
use Rattle.pw_tariff.specs.Office.{register_place}
use Rattle.pw_model.specs.Kinds.{IsReadingOf}
use Rattle.pw_book.proofs.Contested.{disputes-more, reading-place}
use Rattle.pw_book.proofs.disputes.add_readings_of.Goals as goal

pub returns-clause-disputes : goal.returns-clause-disputes
returns-clause-disputes g c = λ k meters w l before.
    let middle = c.add_disputes_among.ensures.asked.kept.clean k in
    disputes-more (IsReadingOf c.args.meter c.args.register) meters (6 * c.args.meter.0 + register_place c.args.register) (g.S.Shelf.state c.args.shelf.now).content _ c.in_ok-readings.readings.items c.deref.result.now c.args.disputes.now.items c.add_disputes_among.new.disputes.items
    (c.readings_held.ensures.asked.content middle) c.deref.ensures.value w (c.in_ok-readings.ensures.rows middle) (reading-place meters c.args.meter c.args.register l) (c.in_ok-add_disputes_among.ensures.disputes k) before
