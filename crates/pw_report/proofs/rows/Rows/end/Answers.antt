use Rattle.std.proofs.Common.{◌≢◌, ◌∙◌, ◌++◌, ap}
use Rattle.csv.specs.declared.writer.QuoteStyle.TheVariants as style
use Rattle.csv.specs.Writing.{row_text}
use Rattle.pw_report.specs.Exports.{csv_line}
use Rattle.pw_report.proofs.Flexible.{row-same}
use Rattle.pw_report.proofs.rows.Rows.end.Goals as goal

pub returns-clause-text : goal.returns-clause-text
unfolding csv_line
returns-clause-text c = λ text fields h.
    let plain : c.args.self.now.writer.cfg.style ≢ style.NonNumeric = rw h.setup (λ e. cc e) in
    record {
      setup = c.in-Ok.ensures.setup ∙ h.setup;
      none = c.in-Ok.ensures.ended;
      ended = c.in-Ok.ensures.clean;
      text_is = c.in-Ok.ensures.bytes h.none h.ended plain ∙ (λ i. h.text_is i ++ row_text (h.setup i) (h.fields_are i)) ∙ ap (λ t. text ++ t) (row-same fields);
      fields_are = c.clear.ensures.fields;
      whole = c.clear.ensures.partial;
    }
