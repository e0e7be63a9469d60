use Rattle.std.proofs.lemmas.Option.{slice_get_within}
use Rattle.pw_commands.proofs.commands.statement_of.Goals as goal

pub page_from-requires-clause-page : goal.page_from-requires-clause-page
page_from-requires-clause-page g c = slice_get_within c.in_ok-office.office.accounts c.in-Some.account.0 _ c.in-Some.ensures.some
