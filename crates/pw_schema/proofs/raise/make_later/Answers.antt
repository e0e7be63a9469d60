use Rattle.std.proofs.Common.{rules}
use Rattle.sqlite.specs.Held.{state}
use Rattle.pw_schema.specs.declared.kind.StoreVersion.TheVariants.{First}
use Rattle.pw_schema.proofs.Outcomes.{early}
use Rattle.pw_schema.proofs.Raising.{raised_on}
use Rattle.pw_schema.proofs.raise.make_later.Goals as goal

pub returns : goal.returns
returns g c = record {
  tables = record { made = c.in_ok-make_period_totals.ensures.tables.made; kept = search rules; crash = search rules };
  raised = λ clean.
      let s0 = state g.S.Store c.args.conn.now in
      let s1 = state g.S.Store c.make_withdrawn.new.conn in
      let s2 = state g.S.Store c.make_period_totals.new.conn in
      raised_on First s0.now.trees s1.now.trees s2.now.trees (c.in_ok-make_withdrawn.ensures.raised (early s1 s2 c.in_ok-make_period_totals.ensures.tables.crash clean)) (c.in_ok-make_period_totals.ensures.raised clean).same;
}
