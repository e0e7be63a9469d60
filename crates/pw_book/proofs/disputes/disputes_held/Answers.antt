use Rattle.std.proofs.Common.{◌+◌, ◌*◌, refl, ◌∙◌}
use Rattle.pw_tariff.specs.Office.{office_of}
use Rattle.pw_book.proofs.Contested.{all-within, disputes-all, disputes-next, disputes-none}
use Rattle.pw_book.proofs.disputes.disputes_held.Goals as goal

pub returns-clause-disputes : goal.returns-clause-disputes
returns-clause-disputes g c = λ k.
    let third = c.add_topups.ensures.asked.kept.clean k in
    let second = c.add_assignments.ensures.asked.kept.clean third in
    let first = c.add_readings.ensures.asked.kept.clean second in
    let office = office_of c.args.office.now in
    let was = (g.S.Shelf.state c.args.shelf.now).content in
    let one = c.add_readings.ensures.asked.content second in
    let two = c.add_assignments.ensures.asked.content third ∙ one in
    let within = all-within office was.records (c.requires.few first) (c.requires.of_office first) in
    let readings = c.in_ok-add_readings.ensures.disputes second office.meters within c.meters.ensures.count (disputes-none office.meters was.records _ c.new-disputes.ensures.items) in
    let assignments = disputes-next office.meters was _ (6 * office.meters) (6 * office.meters) (7 * office.meters) (7 * office.meters) c.add_readings.new.disputes.items c.add_assignments.new.disputes.items one refl refl within readings
    (λ v. c.in_ok-add_assignments.ensures.disputes third office.meters v c.meters-2.ensures.count) in
    let topups = disputes-next office.meters was _ (7 * office.meters) (7 * office.meters) (7 * office.meters + 1) (7 * office.meters + 1) c.add_assignments.new.disputes.items c.add_topups.new.disputes.items two refl refl within assignments
    (λ v. c.in_ok-add_topups.ensures.disputes k office.meters v) in
    disputes-all office was.records c.add_topups.new.disputes.items (c.requires.of_office first) within topups
