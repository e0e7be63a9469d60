use Rattle.std.proofs.Common.{rules}
use Rattle.pw_schema.proofs.total_rows.total_of.Goals as goal

pub returns-in-Energies-clause-told : goal.returns-in-Energies-clause-told
returns-in-Energies-clause-told c = search rules depth 0 fits 100
