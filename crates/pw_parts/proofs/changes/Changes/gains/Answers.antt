use Rattle.std.proofs.Common.{◌≡◌, ℕ, ◌<◌, List, sym, subst}
use Rattle.pw_model.specs.declared.records.TotalKey.{TotalKey}
use Rattle.pw_model.specs.Lists.{Lists}
use Rattle.pw_parts.specs.Parts.{by_total}
use Rattle.pw_parts.specs.inner.Totals.{total_in}
use Rattle.pw_parts.proofs.Kept.{gains-listed}
use Rattle.pw_parts.proofs.changes.Changes.gains.Goals as goal

pub returns : goal.returns
returns c =
    let P : List (TotalKey × ℕ) → Type 0 = λ ts. Lists by_total (λ t. (t.1 ≡ total_in c.args.self.now.rows t.0) × (0 < t.1)) ts in
    subst P (sym c.in_ok-gains.ensures.told) (gains-listed c.args.self.now.rows c.told.ensures.ordered c.requires)
