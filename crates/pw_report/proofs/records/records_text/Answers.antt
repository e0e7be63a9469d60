use Rattle.std.proofs.Common.{[]}
use Rattle.pw_report.proofs.records.records_text.Goals as goal

pub returns-clause-text : goal.returns-clause-text
returns-clause-text c = c.finish.ensures.text _ [] (c.in_ok-tell_each.ensures.text _ (c.in_ok-put_header.ensures.text [] c.new-rows.ensures))
