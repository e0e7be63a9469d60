use Rattle.std.proofs.Common.{◌≡◌, ℕ, List, Option, sym, subst, ap, ◌∙◌}
use Rattle.pw_obis.specs.declared.reference.Register.{Register}
use Rattle.pw_model.specs.declared.records.Entry.{Entry}
use Rattle.pw_model.specs.Counting.{contents_at, point}
use Rattle.pw_model.specs.Lists.{AreReadings}
use Rattle.pw_model.specs.Seconds.{ListsSeconds}
use Rattle.pw_model.specs.Shelf.{ShelfContent}
use Rattle.pw_time.specs.declared.instant.TheConstants.{FIRST_SECOND, LAST_SECOND}
use Rattle.pw_shelf.specs.Rows.{ListsReadings}
use Rattle.pw_shelf.specs.Seconds.{ListsSecondsWithin}
use Rattle.pw_book.proofs.Fallen.{whole-listed}
use Rattle.pw_book.proofs.rows.rows_held.Goals as goal

pub returns-clause-rows : goal.returns-clause-rows
returns-clause-rows g c = λ k.
    let behind = c.rows_of.ensures.asked.kept.clean k in
    let middle = c.points_held.ensures.asked.kept.clean behind in
    let h = c.requires.points (c.readings_held.ensures.asked.kept.clean middle) in
    let content = (g.S.Shelf.state c.args.shelf.now).content in
    let all = c.points_held.ensures.asked.content behind ∙ c.readings_held.ensures.asked.content middle in
    let m : ℕ = c.args.meter.0 in
    let r : Register = c.args.register in
    let told : ℕ → Option ℕ = point (contents_at content.records) m r in
    let same : (g.S.Shelf.state c.readings_held.new.shelf).content.point m r ≡ content.point m r = ap (λ (s : ShelfContent). s.point m r) (c.readings_held.ensures.asked.content middle) in
    let counted : content.point m r ≡ told = ap (λ (p : ℕ → Register → ℕ → Option ℕ). p m r) h.points in
    let W : (ℕ → Option ℕ) → Type 0 = λ f. ListsSecondsWithin FIRST_SECOND LAST_SECOND f c.in_ok-points.points.items in
    let Q : (ℕ → Option ℕ) → Type 0 = λ f. ListsSeconds f c.in_ok-points.points.items in
    let points = subst Q counted (whole-listed (content.point m r) _ (h.instants m r) (subst W same (c.in_ok-points.ensures.rows behind))) in
    let R : List Entry → Type 0 = λ found. ListsReadings content.records c.args.meter c.args.register found in
    let P : List (ℕ × ℕ) → Type 0 = λ found. ListsSeconds told found in
    let F : ShelfContent → Type 0 = λ d. ListsReadings d.records c.args.meter r c.deref.result.now → ListsSeconds (point (contents_at d.records) m r) c.deref-2.result.now → AreReadings d.records m r c.in_ok-rows.rows.items in
    subst F all (c.in_ok-rows.ensures.rows k c.args.meter r) (subst R (sym c.deref.ensures.value) (c.in_ok-readings.ensures.rows middle)) (subst P (sym c.deref-2.ensures.value) points)
