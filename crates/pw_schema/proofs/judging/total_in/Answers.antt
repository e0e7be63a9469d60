use Rattle.std.proofs.Common.{ℕ, Option, rules, subst, sym}
use Rattle.std.specs.Prelude.{IfNone}
use Rattle.pw_tariff.specs.Office.{office_of}
use Rattle.pw_model.specs.declared.records.TotalKey.{TotalKey}
use Rattle.pw_model.proofs.SoundOffice.{sound-office}
use Rattle.pw_schema.specs.Judging.{IsTotal}
use Rattle.pw_schema.proofs.judging.total_in.Goals as goal

pub returns-in_err-total-clause-none : goal.returns-in_err-total-clause-none
returns-in_err-total-clause-none c =
    let office = office_of c.args.office.now in
    subst (λ (r : Option (TotalKey × ℕ)). IfNone r (IsTotal office c.args.kind c.args.row.now → ⊥)) (sym c.from_residual.ensures)
    (c.in_err-total.ensures.none office (sound-office c.args.office.now c.accounts-accounts.ensures.sound))

pub returns-else-has_key-clause-none : goal.returns-else-has_key-clause-none
returns-else-has_key-clause-none c = search rules depth 0 fits 100
