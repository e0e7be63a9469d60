use Rattle.pw_report.proofs.Uploading.{exports-are-uploads}
use Rattle.pw_report.proofs.laws.exports_are_uploads.Goals as goal

pub returns : goal.returns
returns c = exports-are-uploads
