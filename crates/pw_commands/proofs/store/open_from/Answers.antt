use Rattle.std.proofs.Common.{ap, ◌∙◌}
use Rattle.sqlite.specs.Effect.{Database}
use Rattle.sqlite.specs.Files.{file_state}
use Rattle.pw_commands.proofs.store.open_from.Goals as goal

pub returns-in-Ok-clause-content : goal.returns-in-Ok-clause-content
returns-in-Ok-clause-content g c = λ clean.
    let held = c.in-Ok.ensures.content clean in
    let found = c.in_ok-connection.ensures.found held.0 in
    record {
      may = c.in_ok-connection.ensures.kept held.0;
      found = (file_state c.in_ok-connection.connection).committed;
      database = c.in_ok-connection.ensures.database held.0;
      holds = found.holds;
      reads = found.reads;
      asked = λ ask none.
          c.in_ok-connection.ensures.asked ask (ap (λ (db : Database). db.schema) (c.in_ok-connection.ensures.settled held.0) ∙ none);
      held = held.1;
    }
