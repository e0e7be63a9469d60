use Rattle.std.proofs.Common.{◌≡◌, ◌≤◌, ◌∙◌, List, length, arith, subst, sym}
use Rattle.std.specs.BTreeMap.{is_at}
use Rattle.std.specs.Set.{remove_key}
use Rattle.pw_model.specs.declared.records.Entry.{Entry}
use Rattle.pw_model.specs.Counting.{EachOnce}
use Rattle.pw_model.specs.Office.{most_records}
use Rattle.pw_shelf.specs.inner.Held.{AreNamed}
use Rattle.pw_shelf.proofs.InOrder.{order}
use Rattle.pw_shelf.proofs.Removed.{removed-length, removed-member, removed-once, without-popped}
use Rattle.pw_shelf.proofs.held.Held.go_back.Goals as goal

pub invariant_of-self : goal.invariant_of-self
invariant_of-self c =
    let old : List Entry = c.loop-entry.self.records.keys in
    let fewer : List Entry = remove_key (is_at (order c.in-Some.entry)) old in
    let few : List Entry → Type 0 = λ s. length s ≤ most_records in
    let is : c.remove.new.self.keys ≡ fewer = c.remove.ensures.keys in
    let least : length fewer ≤ length old = removed-length (is_at (order c.in-Some.entry)) old in
    let most : length old ≤ most_records = c.loop-entry.self.few in
    record {
      once = subst EachOnce (sym is) (removed-once (is_at (order c.in-Some.entry)) old c.loop-entry.self.once);
      few = subst few (sym is) (omega arith);
      named = subst AreNamed (sym is)
          (λ e m. c.loop-entry.self.named e (removed-member (is_at (order c.in-Some.entry)) old e m));
    }

pub loop-entry-preserved : goal.loop-entry-preserved
loop-entry-preserved c =
    without-popped c.pop.new.self.items c.loop-entry.self.added.items c.in-Some.entry c.loop-entry.self.records.keys
    c.remove.new.self.keys c.in-Some.ensures.items c.remove.ensures.keys ∙ c.loop-entry.invariant
