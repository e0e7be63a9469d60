use Rattle.std.proofs.Common.{◌≡◌, IsTrue, sym, subst}
use Rattle.pw_schema.proofs.Deciding.{entries_decided}
use Rattle.pw_schema.proofs.kept.is_same_entry.Goals as goal

pub returns : goal.returns
returns c = subst (λ b. (IsTrue b → c.args.a.now ≡ c.args.b.now) × (c.args.a.now ≡ c.args.b.now → IsTrue b)) (sym c.eq.ensures) (entries_decided c.args.a.now c.args.b.now)
