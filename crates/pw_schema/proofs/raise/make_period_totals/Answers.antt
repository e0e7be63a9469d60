use Rattle.std.proofs.Common.{◌∙◌, sym, subst, rules}
use Rattle.sqlite.specs.Held.{state}
use Rattle.pw_schema.specs.Fresh.{IsWithin}
use Rattle.pw_schema.specs.declared.table.StoreTable.TheVariants.{PeriodTotals}
use Rattle.pw_schema.proofs.Making.{all_made, next_stage, second_made}
use Rattle.pw_schema.proofs.raise.make_period_totals.Goals as goal

pub make-requires : goal.make-requires
make-requires g c clean = subst (λ s. IsWithin s (state g.S.Store c.args.conn.now)) (sym second_made) (c.requires clean)

pub returns : goal.returns
returns g c = record {
  tables = record {
    made = λ clean. subst (λ s. IsWithin s (state g.S.Store c.make.new.conn)) (next_stage PeriodTotals ∙ all_made) (c.in_ok-make.ensures.made clean);
    kept = search rules;
    crash = search rules;
  };
  raised = search rules;
}
