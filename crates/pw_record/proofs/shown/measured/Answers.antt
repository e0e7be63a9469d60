use Rattle.std.proofs.Common.{sym}
use Rattle.pw_record.proofs.Measuring.{no-code, no-register, not-counting}
use Rattle.pw_record.proofs.shown.measured.Goals as goal

pub returns-in_default-clause-ok : goal.returns-in_default-clause-ok
returns-in_default-clause-ok c = no-code c.args.office.now c.args.meter.0 c.args.set.now c.requires.code c.in_default.is

pub returns-in_default-register-clause-ok : goal.returns-in_default-register-clause-ok
returns-in_default-register-clause-ok c = no-register c.args.office.now c.args.meter.0 c.args.set.now c.in-Some.code c.requires.code c.in-Some.is c.in_default-register.ensures

pub returns-then-not-counts-clause-ok : goal.returns-then-not-counts-clause-ok
returns-then-not-counts-clause-ok c =
    not-counting c.args.office.now c.args.meter.0 c.args.set.now c.in-Some.code c.in-Some-register.register c.requires.code c.in-Some.is c.in-Some-register.ensures (sym c.if-not-counts.ensures)
