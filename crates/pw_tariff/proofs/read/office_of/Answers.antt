use Rattle.std.proofs.Common.{refl}
use Rattle.toml.specs.View.{table_view}
use Rattle.pw_tariff.proofs.Parts.{accounts-refused, bands-refused, meters-refused, week-refused, periods-refused, all-passed}
use Rattle.pw_tariff.proofs.Passed.{passed-on}
use Rattle.pw_tariff.proofs.Sound.{few-meters, sound}
use Rattle.pw_tariff.proofs.read.office_of.Goals as goal

pub returns-in_err-accounts : goal.returns-in_err-accounts
returns-in_err-accounts c =
    passed-on _ _ c.from_residual.result c.from_residual.ensures.1
    (accounts-refused (table_view c.args.table.now) c.in_err-accounts.field-0.0 c.in_err-accounts.ensures)

pub returns-in_err-bands : goal.returns-in_err-bands
returns-in_err-bands c =
    passed-on _ _ c.from_residual-in_err-bands.result c.from_residual-in_err-bands.ensures.1
    (bands-refused (table_view c.args.table.now) c.in_err-bands.field-0.0 c.in_ok-accounts.ensures.0 c.in_err-bands.ensures)

pub returns-in_err-meters : goal.returns-in_err-meters
returns-in_err-meters c =
    passed-on _ _ c.from_residual-in_err-meters.result c.from_residual-in_err-meters.ensures.1
    (meters-refused (table_view c.args.table.now) c.in_err-meters.field-0.0 c.in_ok-accounts.ensures.0 c.in_ok-bands.ensures.0 c.in_err-meters.ensures)

pub returns-in_err-week : goal.returns-in_err-week
returns-in_err-week c =
    passed-on _ _ c.from_residual-in_err-week.result c.from_residual-in_err-week.ensures.1
    (week-refused (table_view c.args.table.now) c.in_err-week.field-0.0
    c.in_ok-accounts.ensures.0 c.in_ok-bands.ensures.0 c.in_ok-meters.ensures.0 c.in_err-week.ensures)

pub returns-in_err-later : goal.returns-in_err-later
returns-in_err-later c =
    passed-on _ _ c.from_residual-in_err-later.result c.from_residual-in_err-later.ensures.1
    (periods-refused (table_view c.args.table.now) c.in_err-later.field-0.0
    c.in_ok-accounts.ensures.0 c.in_ok-bands.ensures.0 c.in_ok-meters.ensures.0 c.in_ok-week.ensures.0 c.in_err-later.ensures)

pub by_id-requires : goal.by_id-requires
by_id-requires c =
    rw c.deref.ensures.value (few-meters (table_view c.args.table.now) c.in_ok-meters.meters.items c.in_ok-meters.ensures.0 c.in_ok-meters.ensures.1)

pub invariant_of-result : goal.invariant_of-result
invariant_of-result c = (
  rw (c.in_ok-accounts.ensures.1, c.in_ok-bands.ensures.1, c.in_ok-meters.ensures.1, c.in_ok-week.ensures.1, c.in_ok-later.ensures.1)
      (sound (table_view c.args.table.now) c.in_ok-accounts.ensures.0 c.in_ok-bands.ensures.0
      c.in_ok-meters.ensures.0 c.in_ok-week.ensures.0 c.in_ok-later.ensures.0),
  rw c.deref.ensures.value at c.in_ok-by_id.ensures,
)

pub returns : goal.returns
returns c = (
  all-passed (table_view c.args.table.now) c.in_ok-accounts.ensures.0 c.in_ok-bands.ensures.0
      c.in_ok-meters.ensures.0 c.in_ok-week.ensures.0 c.in_ok-later.ensures.0,
  rw (c.in_ok-accounts.ensures.1, c.in_ok-bands.ensures.1, c.in_ok-meters.ensures.1, c.in_ok-week.ensures.1, c.in_ok-later.ensures.1) refl,
)
