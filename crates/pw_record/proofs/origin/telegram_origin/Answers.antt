use Rattle.std.proofs.Common.{IfErr, inl, inr, sym, subst}
use Rattle.std.proofs.lemmas.Result.{err_from_is_err_and}
use Rattle.pw_record.specs.Origin.{RefusesOrigin}
use Rattle.pw_record.specs.declared.origin.Source.TheVariants.{Telegrams}
use Rattle.pw_record.proofs.origin.telegram_origin.Goals as goal

pub returns-in_err-meter-clause-err : goal.returns-in_err-meter-clause-err
returns-in_err-meter-clause-err c =
    let sets = c.args.block.now in
    let refuses = RefusesOrigin c.args.office.now Telegrams sets in
    let p = err_from_is_err_and c.from_residual.result c.from_residual.ensures.1 in
    subst (λ r. IfErr r refuses) (sym p.1) (subst refuses (sym p.2) (inl (c.in_err-meter.ensures.err sets c.both_told.ensures.one)))

pub returns-in_err-instant-clause-err : goal.returns-in_err-instant-clause-err
returns-in_err-instant-clause-err c =
    let sets = c.args.block.now in
    let refuses = RefusesOrigin c.args.office.now Telegrams sets in
    let p = err_from_is_err_and c.from_residual-in_err-instant.result c.from_residual-in_err-instant.ensures.1 in
    subst (λ r. IfErr r refuses) (sym p.1) (subst refuses (sym p.2) (inr ((c.in_ok-meter.meter.0, c.in_ok-meter.ensures.ok sets c.both_told.ensures.one), c.in_err-instant.ensures.err sets c.both_told.ensures.other)))
