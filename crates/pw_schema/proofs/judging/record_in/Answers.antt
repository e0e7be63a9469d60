use Rattle.std.proofs.Common.{Option, subst, sym}
use Rattle.std.specs.Prelude.{IfNone}
use Rattle.pw_tariff.specs.Office.{office_of}
use Rattle.pw_model.specs.declared.records.Entry.{Entry}
use Rattle.pw_model.proofs.SoundOffice.{sound-office}
use Rattle.pw_schema.specs.Judging.{IsRecord}
use Rattle.pw_schema.proofs.judging.record_in.Goals as goal

pub returns-in_err-entry-clause-none : goal.returns-in_err-entry-clause-none
returns-in_err-entry-clause-none c =
    let office = office_of c.args.office.now in
    subst (λ (r : Option Entry). IfNone r (IsRecord office c.args.kind c.args.row.now → ⊥)) (sym c.from_residual.ensures)
    (c.in_err-entry.ensures.none office (sound-office c.args.office.now c.accounts-accounts.ensures.sound))
