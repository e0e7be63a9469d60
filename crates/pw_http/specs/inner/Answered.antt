-- The reply that an answer makes. It serves `src/answers.rt` and `src/books.rt`.
use Rattle.std.specs.Prelude.{ℕ, List}
use Rattle.pw_http.specs.declared.answers.Answer.{Answer}
use Rattle.pw_http.specs.declared.answers.Body.{Body}
use Rattle.pw_http.specs.declared.answers.Body.TheVariants.{Line, Page, File}
use Rattle.pw_http.specs.Replies.{Reply}

abbrev pub body_text : Body → List ℕ
body_text (Line line) = line.bytes
body_text (Page text) = text.items
body_text (File text) = text.now

abbrev pub reply_of : Answer → Reply
reply_of a = record { status = a.status; content = a.content; body = body_text a.body }
