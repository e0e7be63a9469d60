use Rattle.std.proofs.Common.{◌∙◌, ap, sym, arith}
use Rattle.std.specs.Prelude.{is_some}
use Rattle.pw_record.proofs.Measuring.{one-shown}
use Rattle.pw_record.proofs.shown.is_nothing_shown.Goals as goal

pub returns-then-is_some-clause-some : goal.returns-then-is_some-clause-some
returns-then-is_some-clause-some c =
    one-shown c.args.shown.now c.register_place.result _ c.index-shown-register_place.result c.register_place.ensures.place (omega (arith, c.type_inv.shown, c.register_place.ensures.within))
    c.index-shown-register_place.is (ap is_some c.index-shown-register_place.is ∙ sym c.is_some.ensures ∙ c.if-is_some.true)
