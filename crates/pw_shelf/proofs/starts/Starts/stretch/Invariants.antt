use Rattle.std.proofs.Common.{◌≡◌, ◌++◌, ℕ, Option, length, map}
use Rattle.std.specs.declared.ops.Bound.TheVariants.{Included}
use Rattle.pw_tariff.specs.declared.ids.AccountId.{AccountId}
use Rattle.pw_tariff.specs.declared.ids.MeterId.{MeterId}
use Rattle.pw_shelf.specs.Orders.{start_order}
use Rattle.pw_shelf.specs.inner.Table.{left_of, rows_between}
use Rattle.pw_shelf.proofs.starts.Starts.stretch.Given as goal

abbrev pub invariant-loop-key : goal.invariant-loop-key
invariant-loop-key l =
    l.found.items ++ map (λ (e : (MeterId × ℕ) × Option AccountId). (e.0.1, e.1)) (left_of start_order l.self.table l.rows)
    ≡ map (λ (e : (MeterId × ℕ) × Option AccountId). (e.0.1, e.1))
    (rows_between start_order (Included l.fn.from) (Included l.fn.to) l.self.table)

abbrev pub decreases-loop-key : goal.decreases-loop-key
decreases-loop-key l = length l.rows
