use Rattle.std.proofs.Common.{◌∙◌}
use Rattle.pw_record.specs.declared.row.RowKind.TheVariants.{TopUp}
use Rattle.pw_report.proofs.Fields.{records-told}
use Rattle.pw_report.proofs.records.export_topups.Goals as goal

pub returns-clause-text : goal.returns-clause-text
returns-clause-text g c = λ k.
    records-told _ TopUp c.args.book.now.office _ _ _ _ (c.office.ensures ∙ c.in_ok-topups.ensures.question.office) c.deref.ensures.value (c.in_ok-topups.ensures.topups k)
    c.records_text.ensures.text
