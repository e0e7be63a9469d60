use Rattle.std.proofs.Common.{subst, sym}
use Rattle.pw_tariff.specs.Office.{office_of}
use Rattle.pw_model.specs.Office.{AllOfOffice}
use Rattle.pw_commands.proofs.loading.post_into.Goals as goal

pub post_to_store-line-requires : goal.post_to_store-line-requires
post_to_store-line-requires g c = subst (λ office. AllOfOffice (office_of office) c.args.entries.now) (sym c.in_ok-book.ensures.office) c.requires.of_office
