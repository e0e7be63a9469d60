use Rattle.std.proofs.Common.{rules}
use Rattle.pw_record.proofs.uploads.upload_records.Goals as goal

pub returns-in-TopUps-clause-entries : goal.returns-in-TopUps-clause-entries
returns-in-TopUps-clause-entries c = search rules depth 0 fits 100

pub returns-in-Withdrawals-clause-entries : goal.returns-in-Withdrawals-clause-entries
returns-in-Withdrawals-clause-entries c = search rules depth 0 fits 100
