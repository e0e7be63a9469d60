use Rattle.std.proofs.Common.{rules}
use Rattle.pw_store.proofs.listings.Listing.text.Goals as goal

pub returns-in-Totals-Energies : goal.returns-in-Totals-Energies
returns-in-Totals-Energies c = search rules depth 0 fits 100

pub returns-in-Records-TopUps : goal.returns-in-Records-TopUps
returns-in-Records-TopUps c = search rules depth 0 fits 100
