use Rattle.std.proofs.Common.{ℕ, Option, Vec, Global, sym, ◌∙◌, ap}
use Rattle.pw_tariff.specs.declared.ids.AccountId.{AccountId}
use Rattle.pw_parts.specs.inner.Counted.{given}
use Rattle.pw_parts.proofs.Telling.{told-some, told-none}
use Rattle.pw_parts.proofs.by_second.starts_given.Goals as goal
use Rattle.pw_parts.proofs.by_second.starts_given.Goals.{in-Some+in_ok-push, in_default}

pub loop-entry-preserved : goal.loop-entry-preserved
loop-entry-preserved c =
    elim c.match-start_given.branch [
      | in-Some+in_ok-push w ↦ told-some given c.args.records.now c.loop-entry.entry-index c.entry-item.result w.in-Some.start c.loop-entry.told.items c.match-start_given.told.items c.loop-entry-test.true c.entry-item.is
          (sym c.start_given.ensures ∙ w.in-Some.is) c.loop-entry.invariant (ap (λ (v : Vec (ℕ × Option AccountId) Global). v.items) w.told-is ∙ w.in_ok-push.ensures.items)
      | in_default w ↦ told-none given c.args.records.now c.loop-entry.entry-index c.entry-item.result c.loop-entry.told.items c.match-start_given.told.items c.loop-entry-test.true c.entry-item.is
          (sym c.start_given.ensures ∙ w.in_default.is) c.loop-entry.invariant (ap (λ (v : Vec (ℕ × Option AccountId) Global). v.items) w.told-is)
    ]
