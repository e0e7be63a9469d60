use Rattle.std.proofs.Common.{rules}
use Rattle.pw_store.proofs.forms.Form.insert.Goals as goal

pub returns-in-Record-Reading : goal.returns-in-Record-Reading
returns-in-Record-Reading c = search rules depth 0 fits 100

pub returns-in-Withdrawal-Reading : goal.returns-in-Withdrawal-Reading
returns-in-Withdrawal-Reading c = search rules depth 0 fits 100
