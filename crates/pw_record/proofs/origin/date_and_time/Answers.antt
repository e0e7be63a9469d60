use Rattle.std.proofs.Common.{inl, inr}
use Rattle.std.proofs.lemmas.Result.{err_from_is_err_and}
use Rattle.pw_obis.specs.declared.meaning.Meaning.TheVariants.{Time}
use Rattle.pw_record.proofs.Telling.{something}
use Rattle.pw_record.proofs.origin.date_and_time.Goals as goal

pub returns-in-Nothing-clause-err : goal.returns-in-Nothing-clause-err
returns-in-Nothing-clause-err c = inl (rw c.in-Nothing.is at c.both_told.ensures.other)

pub returns-in-Nothing-time-clause-err : goal.returns-in-Nothing-time-clause-err
returns-in-Nothing-time-clause-err c = inr (rw c.in-Nothing-time.is at c.both_told.ensures.one)

pub returns-in_ok-readout_instant-in-One-time-clause-ok : goal.returns-in_ok-readout_instant-in-One-time-clause-ok
returns-in_ok-readout_instant-in-One-time-clause-ok c =
    let date = rw c.in-One.is at c.both_told.ensures.other in
    let time = rw c.in-One-time.is at c.both_told.ensures.one in
    (c.in-One.date.now, c.in-One-time.time.now, date, time, c.in_ok-readout_instant-in-One-time.ensures)

pub returns-in_err-readout_instant-in-One-time-clause-err : goal.returns-in_err-readout_instant-in-One-time-clause-err
returns-in_err-readout_instant-in-One-time-clause-err c =
    let date = rw c.in-One.is at c.both_told.ensures.other in
    let time = rw c.in-One-time.is at c.both_told.ensures.one in
    let p = err_from_is_err_and c.from_residual.result c.from_residual.ensures.1 in
    rw (p.1, p.2) (c.in-One.date.now, c.in-One-time.time.now, date, time, c.in_err-readout_instant-in-One-time.ensures)

pub returns-in-Unlike-time-clause-err : goal.returns-in-Unlike-time-clause-err
returns-in-Unlike-time-clause-err c =
    let date = rw c.in-One.is at c.both_told.ensures.other in
    let time = rw c.in-Unlike-time.is at c.both_told.ensures.one in
    record { date = c.in-One.date.now; time = time.one; date_told = date.told; time_told = time.one_told; unlike = inr time }

pub returns-in-Nothing-time-2-clause-err : goal.returns-in-Nothing-time-2-clause-err
returns-in-Nothing-time-2-clause-err c = inr (rw c.in-Nothing-time-2.is at c.both_told.ensures.one)

pub returns-in_default : goal.returns-in_default
returns-in_default c = record {
  ok = tt;
  err =
      let date = rw c.in-Unlike.is at c.both_told.ensures.other in
      let time = something Time c.args.block.now c.both_told.result.0 c.in_default.not-Nothing c.both_told.ensures.one in
      record { date = date.one; time = time.0; date_told = date.one_told; time_told = time.1; unlike = inl date };
}
