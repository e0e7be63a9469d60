use Rattle.std.proofs.Common.{subst}
use Rattle.pw_tariff.specs.Office.{IsSound, office_of}
use Rattle.pw_model.proofs.SoundOffice.{sound-office}
use Rattle.pw_model.proofs.Whole.{nothing-is_lost}
use Rattle.pw_book.proofs.laws.conservation_of_energy.Goals as goal

pub returns : goal.returns
returns g c = λ open-yet clean d.
    let sound : IsSound c.args.book.now.office = subst IsSound c.office.ensures c.bands.ensures.sound in
    nothing-is_lost (office_of c.args.book.now.office) (g.S.Shelf.state c.args.book.now.shelf).content.records d (sound-office c.args.book.now.office sound).band (c.args.book.now.of_office open-yet clean)
