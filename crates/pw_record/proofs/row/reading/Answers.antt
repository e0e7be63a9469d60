use Rattle.std.proofs.Common.{rules}
use Rattle.pw_record.proofs.row.reading.Goals as goal

pub returns-in_default-watt_hours-clause-err : goal.returns-in_default-watt_hours-clause-err
returns-in_default-watt_hours-clause-err c = search rules depth 3 fits 300

pub returns-clause-ok : goal.returns-clause-ok
returns-clause-ok c = search rules depth 3 fits 300

pub returns-in_default-counting_register-clause-err : goal.returns-in_default-counting_register-clause-err
returns-in_default-counting_register-clause-err c = search rules depth 0 fits 100
