use Rattle.std.proofs.Common.{◌≡◌, ℕ, ◌+◌, ◌*◌, ◌<◌, Option, Some, List, ◌++◌, sym, ◌∙◌, ap, subst, arith}
use Rattle.pw_obis.specs.declared.reference.Register.{Register}
use Rattle.pw_time.specs.declared.instant.TheConstants.{END_SECOND}
use Rattle.pw_tariff.specs.Office.{register_place}
use Rattle.pw_model.specs.declared.records.Fall.{Fall}
use Rattle.pw_model.specs.Counting.{contents_at, point}
use Rattle.pw_model.specs.Seconds.{ListsSeconds}
use Rattle.pw_book.specs.inner.Places.{FallsBefore}
use Rattle.pw_book.proofs.Fallen.{falls-more, whole-listed}
use Rattle.pw_book.proofs.falls.add_register.Goals as goal

pub returns-clause-falls : goal.returns-clause-falls
returns-clause-falls g c = λ k h before.
    let content = (g.S.Shelf.state c.args.shelf.now).content in
    let m : ℕ = c.args.meter.0 in
    let r : Register = c.args.register in
    let told : ℕ → Option ℕ = point (contents_at content.records) m r in
    let same : content.point m r ≡ told = ap (λ (p : ℕ → Register → ℕ → Option ℕ). p m r) h.points in
    let P : List (ℕ × ℕ) → Type 0 = λ points. ListsSeconds told points in
    let Q : (ℕ → Option ℕ) → Type 0 = λ f. ListsSeconds f c.in_ok-points.points.items in
    let points = subst Q same (whole-listed (content.point m r) _ (h.instants m r) (c.in_ok-points.ensures.rows k)) in
    let ended : (t w : ℕ) → told t ≡ Some w → t < END_SECOND = λ t w e. (let i = (h.instants m r t w (ap (λ (f : ℕ → Option ℕ). f t) same ∙ e)).1 in omega (arith, i)) in
    let more = c.in_ok-more.ensures told END_SECOND (subst P (sym c.deref.ensures.value) points) ended in
    let all = falls-more content.records c.args.meter c.args.register c.args.falls.now.items c.in_ok-more.more.items before more in
    let F : List Fall → Type 0 = λ items. FallsBefore content.records (6 * c.args.meter.0 + register_place c.args.register + 1) items in
    subst F (sym (c.in_ok-extend_from_slice.ensures.items ∙ ap (λ (xs : List Fall). c.args.falls.now.items ++ xs) c.deref-2.ensures.value)) all
