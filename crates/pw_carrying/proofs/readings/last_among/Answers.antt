use Rattle.std.proofs.Common.{◌+◌, ◌∙◌, Option, ℕ, sym, subst, take}
use Rattle.pw_model.proofs.Places.{at-told}
use Rattle.pw_carrying.specs.inner.Latest.{IsLastOf, IsReadAmong}
use Rattle.pw_carrying.proofs.Latest.{gone-is, last-more, last-passed, stands-is}
use Rattle.pw_carrying.proofs.readings.last_among.Goals as goal
use Rattle.pw_carrying.proofs.readings.last_among.Goals.{then-stands, else-stands}

pub loop-row-preserved : goal.loop-row-preserved
loop-row-preserved c =
    let row = c.row-item.result in
    let at = at-told c.args.rows.now c.loop-row.row-index row c.loop-row-test.true c.row-item.is in
    let L : Option ℕ → Type 0 = λ last. IsLastOf (IsReadAmong (take (c.loop-row.row-index + 1) c.args.rows.now)) last in
    record {
      last = elim c.if-stands.branch [
        | then-stands w ↦ subst L (sym (w.last-is ∙ w.later-last.ensures)) (last-more c.args.rows.now c.loop-row.row-index row c.loop-row.last at (stands-is row.withdrawn c.stands.result c.stands.ensures w.if-stands.true) c.loop-row.invariant.last)
        | else-stands w ↦ subst L (sym w.last-is) (last-passed c.args.rows.now c.loop-row.row-index row c.loop-row.last at (gone-is row.withdrawn c.stands.result c.stands.ensures w.if-stands.false) c.loop-row.invariant.last)
      ];
    }
