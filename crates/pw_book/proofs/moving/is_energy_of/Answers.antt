use Rattle.pw_tariff.specs.Office.{office_of}
use Rattle.pw_book.proofs.Changing.{energy-told}
use Rattle.pw_book.proofs.moving.is_energy_of.Goals as goal

pub returns-in-Energy : goal.returns-in-Energy
returns-in-Energy c =
    energy-told (office_of c.args.office.now) _ c.in-Energy.owner c.in-Energy.period c.in-Energy.band _ c.has_class.result c.in-Energy.is c.has_class.ensures
