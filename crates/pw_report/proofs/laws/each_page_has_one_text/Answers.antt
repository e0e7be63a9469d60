use Rattle.pw_report.proofs.Texts.{each-page-has-one-text}
use Rattle.pw_report.proofs.laws.each_page_has_one_text.Goals as goal

pub returns : goal.returns
returns c = each-page-has-one-text
