use Rattle.std.proofs.Common.{◌∙◌, refl}
use Rattle.sqlite.specs.Held.{state}
use Rattle.pw_model.specs.declared.records.Key.TheVariants as key
use Rattle.pw_store.proofs.OneKind.{withdrawal_told}
use Rattle.pw_store.proofs.keys.contents_of_withdrawal.Goals as goal

pub returns-clause-told : goal.returns-clause-told
returns-clause-told g c clean =
    c.told_of.ensures ∙ withdrawal_told (state g.S.Store c.args.conn.now).now.trees (key.Withdrawal c.args.named.now) c.args.named.now c.in_ok-held.held refl (c.in_ok-held.ensures.found clean)
