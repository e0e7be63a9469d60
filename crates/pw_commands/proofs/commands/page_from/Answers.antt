use Rattle.std.proofs.Common.{subst, sym}
use Rattle.pw_report.specs.Pages.{IsPageOf}
use Rattle.pw_commands.proofs.commands.page_from.Goals as goal

pub shown-told-requires : goal.shown-told-requires
shown-told-requires g c = subst (λ office. IsPageOf office c.args.page) (sym c.in_ok-book.ensures.office) c.requires.page
