-- No upload has two outcomes.
use Rattle.pw_tariff.specs.Office.{OfficeFile, AreNamed}
use Rattle.pw_record.specs.Laws.{HasNoTwoOutcomes}
use Rattle.pw_record.specs.Uploads.{Upload, Telegrams, Readouts, Assignments, TopUps, Withdrawals}
use Rattle.pw_record.proofs.OneBody.{one_telegrams, one_readouts}
use Rattle.pw_record.proofs.OneRows.{one_assignments, one_top_ups, one_withdrawals}

pub one-outcome : (file : OfficeFile) → AreNamed file → (upload : Upload) → HasNoTwoOutcomes file upload
one-outcome file named (Telegrams body) = one_telegrams file named body
one-outcome file named (Readouts id body) = one_readouts file named id body
one-outcome file named (Assignments body) = one_assignments file named body
one-outcome file named (TopUps body) = one_top_ups file named body
one-outcome file named (Withdrawals body) = one_withdrawals file named body
