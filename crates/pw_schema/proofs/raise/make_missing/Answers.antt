use Rattle.std.proofs.Common.{sym, subst, rules}
use Rattle.sqlite.specs.Held.{state}
use Rattle.pw_schema.specs.Fresh.{IsWithin}
use Rattle.pw_schema.specs.Raised.{IsRaised}
use Rattle.pw_schema.specs.Tables.{schema_of}
use Rattle.pw_schema.specs.declared.kind.StoreVersion.TheVariants.{Third}
use Rattle.pw_schema.specs.inner.Stages.{Raises}
use Rattle.pw_schema.proofs.Raising.{raised_itself}
use Rattle.pw_schema.proofs.raise.make_missing.Goals as goal

pub make_later-requires : goal.make_later-requires
make_later-requires g c clean = subst (λ v. IsWithin (schema_of v) (state g.S.Store c.args.conn.now)) c.in-First.is (c.requires clean)

pub make_period_totals-requires : goal.make_period_totals-requires
make_period_totals-requires g c clean = subst (λ v. IsWithin (schema_of v) (state g.S.Store c.args.conn.now)) c.in-Second.is (c.requires clean)

pub returns-in-First : goal.returns-in-First
returns-in-First g c = subst (λ v. Raises v Third c.make_later.result (state g.S.Store c.args.conn.now) (state g.S.Store c.make_later.new.conn)) (sym c.in-First.is) c.make_later.ensures

pub returns-in-Second : goal.returns-in-Second
returns-in-Second g c = subst (λ v. Raises v Third c.make_period_totals.result (state g.S.Store c.args.conn.now) (state g.S.Store c.make_period_totals.new.conn)) (sym c.in-Second.is) c.make_period_totals.ensures

pub returns-in-Third : goal.returns-in-Third
returns-in-Third g c = record {
  tables = record {
    made = λ clean. subst (λ v. IsWithin (schema_of v) (state g.S.Store c.args.conn.now)) c.in-Third.is (c.requires clean);
    kept = search rules;
    crash = search rules;
  };
  raised = λ clean. let db = (state g.S.Store c.args.conn.now).now.trees in subst (λ v. IsRaised v db db) (sym c.in-Third.is) (raised_itself db);
}
