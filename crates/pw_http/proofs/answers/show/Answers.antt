use Rattle.std.proofs.Common.{ap, Ok, Err}
use Rattle.pw_http.specs.declared.replies.ContentType.{ContentType}
use Rattle.pw_http.specs.declared.replies.Status.TheVariants.{Fine}
use Rattle.pw_http.proofs.Shown.{report-ok, report-err}
use Rattle.pw_http.proofs.answers.show.Goals as goal

pub returns-in-Ok : goal.returns-in-Ok
returns-in-Ok g c = (
  Ok c.in-Ok.text.items,
  ap (λ (content : ContentType). record { status = Fine; content = content; body = c.in-Ok.text.items }) c.content_of.ensures,
  record {
    text = c.in-Ok.ensures.text;
    report = report-ok g.S.Shelf c.in-Ok.text c.in-Ok.text.items c.args.book.now c.page_text.new.book c.in-Ok.ensures.report;
  },
)

pub returns-in-Err : goal.returns-in-Err
returns-in-Err g c = (
  Err c.in-Err.fault,
  rw c.line.ensures.text at c.of_line.ensures,
  record {
    text = λ k. tt;
    report = report-err g.S.Shelf c.in-Err.fault c.args.book.now c.page_text.new.book c.in-Err.ensures.report;
  },
)
