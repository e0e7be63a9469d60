use Rattle.std.proofs.Common.{◌≡◌, is_some, codes, false, rules}
use Rattle.toml.specs.Data.{get_member}
use Rattle.toml.specs.View.{table_view}
use Rattle.pw_tariff.proofs.Prices.{no-periods}
use Rattle.pw_tariff.proofs.periods.read_periods.Goals as goal

pub returns-then-not-has_key : goal.returns-then-not-has_key
returns-then-not-has_key c =
    let e : is_some (get_member (codes "period") (table_view c.args.table.now)) ≡ false = search rules in
    rw c.new.ensures.items (no-periods (table_view c.args.table.now) e)
