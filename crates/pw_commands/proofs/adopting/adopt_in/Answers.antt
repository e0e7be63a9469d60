use Rattle.std.proofs.Common.{subst, sym}
use Rattle.sqlite.specs.Files.{file_state}
use Rattle.pw_store.specs.Kept.{written_of}
use Rattle.pw_commands.specs.Adoptions.{MayTake}
use Rattle.pw_commands.proofs.adopting.adopt_in.Goals as goal

pub take_place-requires-clause-adopted : goal.take_place-requires-clause-adopted
take_place-requires-clause-adopted g c = λ clean.
    let book = c.weigh.new.book in
    let asked = c.in-Ok.ensures.question in
    subst (λ office. MayTake c.args.words.now (record { old = office; new = c.args.new.now }) (written_of (file_state book.shelf.conn) (file_state book.shelf.base.value)).records) (sym asked.office)
    (subst (λ content. MayTake c.args.words.now (record { old = c.args.book.office; new = c.args.new.now }) content.records) (sym (asked.asked.content clean)) (let weighed = c.in-Ok.ensures.weighed clean in (weighed.0, weighed.1.up_to, (weighed.2.0 c.if-weigh.true).0)))
