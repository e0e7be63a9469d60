use Rattle.std.proofs.Common.{sym, ap, ◌∙◌}
use Rattle.std.proofs.lemmas.Bool.{true≢false}
use Rattle.pw_model.specs.inner.Search.{DisputesUnder, IsKeyBehind}
use Rattle.pw_model.proofs.Places.{at-told}
use Rattle.pw_model.proofs.SoFar.{so-far-first}
use Rattle.pw_model.proofs.PlainDisputes.{count-first, count-again, count-none, disputes-pass_again, disputes-pass_few, disputes-push, disputes-end}
use Rattle.pw_model.proofs.plain.dispute_list.disputes_among.Goals as goal
use Rattle.pw_model.proofs.plain.dispute_list.disputes_among.Goals.{then-contents-ge2+in_ok-push, else-contents-ge2}

pub loop-index-init : goal.loop-index-init
loop-index-init c = record {
  listed = rw c.new-disputes.ensures.items (so-far-first (DisputesUnder c.args.in_order.now) c.args.in_order.now);
  counted = count-first c.args.in_order.now;
}

pub loop-index-preserved-then-has_key_behind : goal.loop-index-preserved-then-has_key_behind
loop-index-preserved-then-has_key_behind c =
    let at = at-told c.args.in_order.now c.loop-index.index c.index-in_order-index.result c.loop-index-test.true c.index-in_order-index.is in
    let behind = c.has_key_behind.ensures.0 c.if-has_key_behind.true in
    record {
      listed = disputes-pass_again c.args.in_order.now c.loop-index.index c.index-in_order-index.result c.loop-index.disputes.items at behind c.loop-index.invariant.listed;
      counted = count-again c.args.in_order.now c.loop-index.index c.loop-index.contents c.index-in_order-index.result c.requires.rising at c.loop-index.invariant.counted behind;
    }

pub loop-index-preserved : goal.loop-index-preserved
loop-index-preserved c =
    let at = at-told c.args.in_order.now c.loop-index.index c.index-in_order-index.result c.loop-index-test.true c.index-in_order-index.is in
    let none : IsKeyBehind c.args.in_order.now c.loop-index.index → ⊥ = λ k. true≢false (sym (c.has_key_behind.ensures.1 k) ∙ c.if-has_key_behind.false) in
    elim c.if-contents-ge2.branch [
      | then-contents-ge2+in_ok-push w ↦ record {
        listed = disputes-push c.args.in_order.now c.loop-index.index c.loop-index.contents c.index-in_order-index.result c.loop-index.disputes.items c.if-contents-ge2.disputes.items c.requires.rising c.requires.standing at
            c.loop-index.invariant.counted none w.if-contents-ge2.true (ap (λ v. v.items) w.disputes-is ∙ w.in_ok-push.ensures.items) c.loop-index.invariant.listed;
        counted = rw w.contents-is (count-none c.args.in_order.now c.loop-index.index c.index-in_order-index.result c.requires.rising at none);
      }
      | else-contents-ge2 w ↦ record {
        listed = rw w.disputes-is (disputes-pass_few c.args.in_order.now c.loop-index.index c.loop-index.contents c.index-in_order-index.result c.loop-index.disputes.items c.requires.rising c.requires.standing at
            c.loop-index.invariant.counted none w.if-contents-ge2.false c.loop-index.invariant.listed);
        counted = rw w.contents-is (count-none c.args.in_order.now c.loop-index.index c.index-in_order-index.result c.requires.rising at none);
      }
    ]

pub returns : goal.returns
returns c = disputes-end c.args.in_order.now c.loop-index.index c.loop-index.disputes.items c.requires.rising c.loop-index-test.false c.loop-index.invariant.listed
