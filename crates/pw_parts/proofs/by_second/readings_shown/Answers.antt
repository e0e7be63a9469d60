use Rattle.std.proofs.Common.{ℕ, Vec, Global, sym, ◌∙◌, ap}
use Rattle.pw_parts.specs.Shown.{shown}
use Rattle.pw_parts.proofs.Telling.{told-some, told-none}
use Rattle.pw_parts.proofs.by_second.readings_shown.Goals as goal
use Rattle.pw_parts.proofs.by_second.readings_shown.Goals.{in-Some+in_ok-push, in_default}

pub loop-entry-preserved : goal.loop-entry-preserved
loop-entry-preserved c =
    elim c.match-reading_shown.branch [
      | in-Some+in_ok-push w ↦ told-some shown c.args.records.now c.loop-entry.entry-index c.entry-item.result w.in-Some.reading c.loop-entry.told.items c.match-reading_shown.told.items c.loop-entry-test.true c.entry-item.is
          (sym c.reading_shown.ensures ∙ w.in-Some.is) c.loop-entry.invariant (ap (λ (v : Vec (ℕ × ℕ) Global). v.items) w.told-is ∙ w.in_ok-push.ensures.items)
      | in_default w ↦ told-none shown c.args.records.now c.loop-entry.entry-index c.entry-item.result c.loop-entry.told.items c.match-reading_shown.told.items c.loop-entry-test.true c.entry-item.is
          (sym c.reading_shown.ensures ∙ w.in_default.is) c.loop-entry.invariant (ap (λ (v : Vec (ℕ × ℕ) Global). v.items) w.told-is)
    ]
