use Rattle.std.proofs.Common.{◌≡◌, ◌∙◌, ◌+◌, ap, sym, subst, arith, rules}
use Rattle.sqlite.specs.Held.{state}
use Rattle.pw_schema.specs.inner.Stages.{IsMaking, stage}
use Rattle.pw_schema.proofs.Making.{all_made, next_stage, place_is, tree_is}
use Rattle.pw_schema.proofs.Creating.{blank_more}
use Rattle.pw_schema.proofs.Outcomes.{early}
use Rattle.pw_schema.proofs.make.make_all.Goals as goal

pub make-requires : goal.make-requires
make-requires g c clean =
    let making = subst (λ n. IsMaking (stage n) (state g.S.Store c.loop-table.conn)) (sym (place_is c.loop-table.table-index _ c.loop-table-test.true)) (c.loop-table.invariant.making clean) in
    record { is_open = making.is_open; inside = making.inside; schema_is = making.blank.schema_is }

pub loop-table-preserved : goal.loop-table-preserved
loop-table-preserved g c = record {
  making = λ clean.
      let old = state g.S.Store c.loop-table.conn in
      let new = state g.S.Store c.make.new.conn in
      let at = place_is c.loop-table.table-index _ c.loop-table-test.true in
      let making = subst (λ n. IsMaking (stage n) old) (sym at) (c.loop-table.invariant.making (early old new c.make.ensures.crash clean)) in
      let more = blank_more _ (tree_is _) old new making (c.in_ok-make.ensures.made clean) (c.in_ok-make.ensures.grows clean) in
      subst (λ s. IsMaking s new) (next_stage _ ∙ ap (λ n. stage (n + 1)) at) more;
  kept = search rules;
  crash = search rules;
}

pub returns-clause-made : goal.returns-clause-made
returns-clause-made g c clean =
    let all : c.loop-table.table-index ≡ 12 = omega (arith, c.loop-table-test.false, c.loop-table.auto.table-index-end) in
    subst (λ s. IsMaking s (state g.S.Store c.loop-table.conn)) (ap stage all ∙ all_made) (c.loop-table.invariant.making clean)
