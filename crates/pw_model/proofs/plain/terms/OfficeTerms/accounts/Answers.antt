use Rattle.std.proofs.Common.{rules}
use Rattle.pw_model.proofs.plain.terms.OfficeTerms.accounts.Goals as goal

pub returns : goal.returns
returns c = search rules depth 0 fits 100
