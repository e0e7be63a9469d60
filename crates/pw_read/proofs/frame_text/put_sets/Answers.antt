use Rattle.std.proofs.Common.{◌++◌, ◌∷◌, [], ap, ◌∙◌, append_assoc}
use Rattle.pw_obis.specs.inner.Given.{set_text}
use Rattle.pw_obis.proofs.Given.{given_behind}
use Rattle.pw_read.proofs.Shown.{sets_more}
use Rattle.pw_read.proofs.frame_text.put_sets.Goals as goal

pub sets-preserved : goal.sets-preserved
sets-preserved c =
    let i = c.sets.invariant in
    let h = c.in-Some.ensures.steps in
    let o = c.in_ok-put_set.ensures.ok in (
      i.0 ++ set_text c.in-Some.set ∷ [],
      i.1 ++ o.0,
      given_behind c.args.block.now i.0 c.sets.set-iterator c.next.new.self h.0 c.in-Some.set h.1 i.2 h.2,
      sets_more c.args.kind i.0 (set_text c.in-Some.set) i.1 o.0 i.3 o.1,
      o.2 ∙ ap (λ l. l ++ o.0) i.4 ∙ append_assoc c.args.text.now.items i.1 o.0,
    )
