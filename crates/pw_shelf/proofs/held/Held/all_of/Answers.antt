use Rattle.std.proofs.Common.{rules, ◌≡◌, ◌∙◌, ap, subst, map, List}
use Rattle.std.specs.List.{filter}
use Rattle.std.specs.Map.Iter.{deref}
use Rattle.std.specs.declared.ops.Bound.TheVariants.{Included, Unbounded}
use Rattle.std.specs.BTreeMap.Range.{range_contains}
use Rattle.std.proofs.lemmas.Map.Iter.{iter_end}
use Rattle.pw_model.specs.declared.records.Entry.{Entry}
use Rattle.pw_shelf.specs.inner.Kinds.{IsOfKind, lowest_key}
use Rattle.pw_model.specs.Kinds.{ListsHeld}
use Rattle.pw_shelf.proofs.InOrder.{order}
use Rattle.pw_shelf.proofs.AtKey.{from}
use Rattle.pw_shelf.proofs.Listing.{split, turn-take}
use Rattle.pw_shelf.proofs.OfKind.{rows-named, rows-sorted, listed-whole, listed-part}
use Rattle.pw_shelf.proofs.held.Held.all_of.Goals as goal

pub loop-entry-preserved : goal.loop-entry-preserved
loop-entry-preserved c =
    let keys : List Entry = c.args.self.now.records.keys in
    let rows : c.range-entry-items.result ≡ filter (from (lowest_key c.args.kind)) keys = c.range-entry-items.ensures.between tt ∙ ap (λ (l : Entry). filter (range_contains order (Included l) Unbounded) keys) c.lowest_of.ensures in
    let named = rows-named c.args.kind keys c.args.self.now.named c.range-entry-items.ensures.ordered c.range-entry-items.result rows in
    let sorted = rows-sorted c.args.kind keys c.args.self.now.named c.range-entry-items.ensures.ordered c.range-entry-items.result rows in
    turn-take (IsOfKind c.args.kind) c.range-entry-items.result named sorted c.loop-entry.yielded _ _ _ c.in-Some.entry c.into_iter-entry-iterator.ensures.into_iter_gives c.loop-entry.yielded_by c.in-Some.ensures.steps
    c.loop-entry.found.items _ c.loop-entry.invariant (c.is_of_kind.ensures.0 (search rules)) c.in_ok-push.ensures.items

pub returns-then-not-is_of_kind-clause-rows : goal.returns-then-not-is_of_kind-clause-rows
returns-then-not-is_of_kind-clause-rows c =
    let keys : List Entry = c.args.self.now.records.keys in
    let rows : c.range-entry-items.result ≡ filter (from (lowest_key c.args.kind)) keys = c.range-entry-items.ensures.between tt ∙ ap (λ (l : Entry). filter (range_contains order (Included l) Unbounded) keys) c.lowest_of.ensures in
    listed-part c.args.kind keys c.args.self.now.named c.range-entry-items.ensures.ordered c.range-entry-items.result rows (map deref c.loop-entry.yielded) c.next.new.self c.in-Some.entry.now c.loop-entry.found.items
    (split c.range-entry-items.result c.loop-entry.yielded _ _ _ c.in-Some.entry c.into_iter-entry-iterator.ensures.into_iter_gives c.loop-entry.yielded_by c.in-Some.ensures.steps)
    (λ o. let h = c.is_of_kind.ensures.1 o in search rules) c.loop-entry.invariant

pub returns-clause-rows : goal.returns-clause-rows
returns-clause-rows c =
    let keys : List Entry = c.args.self.now.records.keys in
    let rows : c.range-entry-items.result ≡ filter (from (lowest_key c.args.kind)) keys = c.range-entry-items.ensures.between tt ∙ ap (λ (l : Entry). filter (range_contains order (Included l) Unbounded) keys) c.lowest_of.ensures in
    let e : map deref c.loop-entry.yielded ≡ c.range-entry-items.result = search (rules, iter_end) in
    let P : List Entry → Type 0 = λ l. ListsHeld (IsOfKind c.args.kind) l c.loop-entry.found.items in
    listed-whole c.args.kind keys c.args.self.now.named c.range-entry-items.ensures.ordered c.range-entry-items.result rows c.loop-entry.found.items (subst P e c.loop-entry.invariant)
