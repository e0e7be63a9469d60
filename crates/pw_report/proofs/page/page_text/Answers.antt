use Rattle.std.proofs.Common.{rules}
use Rattle.pw_report.proofs.page.page_text.Goals as goal

pub returns-in-Table-Falls-clause-text : goal.returns-in-Table-Falls-clause-text
returns-in-Table-Falls-clause-text g c = search rules depth 0 fits 100

pub returns-in-Month-Why-default-default-clause-text : goal.returns-in-Month-Why-default-default-clause-text
returns-in-Month-Why-default-default-clause-text g c = search rules depth 3 fits 300

pub returns-in-Table-Withdrawals-clause-text : goal.returns-in-Table-Withdrawals-clause-text
returns-in-Table-Withdrawals-clause-text g c = search rules depth 0 fits 100
