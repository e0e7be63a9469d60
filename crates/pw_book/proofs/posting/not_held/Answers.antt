use Rattle.std.proofs.Common.{◌≡◌, cond, List, [], ◌∷◌, ◌++◌, Vec, Global, length, ◌∙◌, ap, sym, subst, inl, inr, arith}
use Rattle.pw_model.specs.declared.records.Entry.{Entry}
use Rattle.pw_model.specs.Counting.{Member}
use Rattle.pw_model.specs.Payments.{stands_in}
use Rattle.pw_model.specs.Same.{same_entry}
use Rattle.pw_model.specs.Shelf.{ShelfContent}
use Rattle.pw_model.proofs.Places.{at-member, at-told, member-split}
use Rattle.pw_book.proofs.Chains.{asked-then}
use Rattle.pw_book.proofs.NotHeld.{fresh-more, one-more, passed, put, the-one}
use Rattle.pw_book.proofs.posting.not_held.Goals as goal
use Rattle.pw_book.proofs.posting.not_held.Goals.{then-not-branch+in_ok-push, else-not-branch}

pub loop-entry-preserved : goal.loop-entry-preserved
loop-entry-preserved g c =
    let e = c.entry-item.result in
    let held = c.in_ok-is_held.field-0 in
    let was = c.loop-entry.fresh.items in
    let step : c.if-not-branch.fresh.items ≡ was ++ cond held [] (e ∷ []) = elim c.if-not-branch.branch [
      | then-not-branch+in_ok-push w ↦ put _ _ e held w.if-not-branch.true (ap (λ (v : Vec Entry Global). v.items) w.fresh-is ∙ w.in_ok-push.ensures.items)
      | else-not-branch w ↦ passed _ _ e held w.if-not-branch.false (ap (λ (v : Vec Entry Global). v.items) w.fresh-is)
    ] in
    let low = c.loop-entry-test.true in
    record {
      fresh = λ k.
          let before = c.is_held.ensures.asked.kept.clean k in
          fresh-more _ c.args.entries.now c.loop-entry.entry-index e was _ held low c.entry-item.is
          (c.in_ok-is_held.ensures.held k ∙ ap (λ (s : ShelfContent). stands_in same_entry e s.records) (c.loop-entry.invariant.asked.content before)) (c.loop-entry.invariant.fresh before) step;
      few =
          let n : length c.if-not-branch.fresh.items ≡ length (was ++ cond held [] (e ∷ [])) = ap (λ (l : List Entry). length l) step in
          let m = one-more was e held in
          let l = c.loop-entry.invariant.few in
          omega (arith, n, m, l);
      part = λ x m.
          let P : List Entry → Type 0 = λ l. Member x l in
          elim (member-split x was (cond held [] (e ∷ [])) (subst P step m)) [
            | inl a ↦ c.loop-entry.invariant.part x a
            | inr b ↦ (
                let i = the-one x e held b in
                let Q : Entry → Type 0 = λ y. Member y c.args.entries.now in
                subst Q (sym i) (at-member c.args.entries.now c.loop-entry.entry-index e (at-told c.args.entries.now c.loop-entry.entry-index e low c.entry-item.is)))
          ];
      tally = let a = c.loop-entry.invariant.tally in let b = c.is_held.ensures.tally in omega (arith, a, b);
      asked = asked-then _ g.met.S.Shelf.same_then _ _ _ _ c.loop-entry.invariant.asked c.in_ok-is_held.ensures.asked;
    }
