-- What a client is told for whom no place is free. It serves `src/server.rt`.
use Rattle.std.specs.Prelude.{codes}
use Rattle.pw_http.specs.declared.replies.ContentType.TheVariants.{Plain}
use Rattle.pw_http.specs.declared.replies.Status.TheVariants.{Unavailable}
use Rattle.pw_http.specs.Replies.{Reply}

abbrev pub busy_reply : Reply
busy_reply = record { status = Unavailable; content = Plain; body = codes "too many clients\n" }
