use Rattle.pw_commands.proofs.Ported.{book-served}
use Rattle.pw_commands.proofs.server.serve_told.Goals as goal

pub returns-clause-served : goal.returns-clause-served
returns-clause-served g c =
    book-served c.args.audience c.new-told.result c.serve_at-status.new.service (λ t. t.book) c.args.book c.into_book.result c.new-told.ensures c.into_book.ensures c.serve_at-status.ensures.served
