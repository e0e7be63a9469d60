use Rattle.std.proofs.Common.{rules, ◌≡◌, ◌∙◌, sym, ap, subst, map, List, [], ◌∷◌, ◌++◌}
use Rattle.std.proofs.lemmas.Bool.{true≢false}
use Rattle.std.proofs.lemmas.List.{map-append}
use Rattle.std.proofs.lemmas.Map.Iter.{iter_end}
use Rattle.std.specs.List.{filter}
use Rattle.std.specs.Map.Iter.{deref}
use Rattle.std.specs.declared.ops.Bound.TheVariants.{Included, Unbounded}
use Rattle.std.specs.BTreeMap.Range.{range_contains}
use Rattle.pw_model.specs.Counting.{standing_among}
use Rattle.pw_model.specs.declared.records.Contents.{Contents}
use Rattle.pw_model.specs.declared.records.Contents.TheVariants.{One}
use Rattle.pw_model.specs.declared.records.Entry.{Entry}
use Rattle.pw_model.proofs.Counting.{Tells}
use Rattle.pw_model.proofs.Same.{same_key-decides}
use Rattle.pw_shelf.proofs.InOrder.{order}
use Rattle.pw_shelf.proofs.AtKey.{from, tells-first, tells-passed, told-whole, told-part, told-several}
use Rattle.pw_shelf.proofs.Listing.{split}
use Rattle.pw_shelf.proofs.held.Held.contents_at.Goals as goal

pub loop-entry-preserved-in-Nothing : goal.loop-entry-preserved-in-Nothing
loop-entry-preserved-in-Nothing c =
    let keys : List Entry = c.args.self.now.records.keys in
    let P : Contents → Type 0 = Tells (standing_among keys (map deref c.loop-entry.yielded)) c.args.key.now in
    let Q : List Entry → Type 0 = λ l. Tells (standing_among keys l) c.args.key.now (One c.in-Some.entry.now.content) in
    let e : map deref (c.loop-entry.yielded ++ c.in-Some.entry ∷ []) ≡ map deref c.loop-entry.yielded ++ c.in-Some.entry.now ∷ [] = map-append deref c.loop-entry.yielded (c.in-Some.entry ∷ []) in
    subst Q (sym e) (tells-first keys (map deref c.loop-entry.yielded) c.in-Some.entry.now c.args.key.now (subst P c.in-Nothing.is c.loop-entry.invariant)
    ((same_key-decides c.in-Some.entry.now.key c.args.key.now).0 (sym c.is_same_key.ensures ∙ c.if-not-is_same_key.false))
    (sym c.is_withdrawn.ensures ∙ c.if-not-is_withdrawn.true))

pub loop-entry-preserved : goal.loop-entry-preserved
loop-entry-preserved c =
    let keys : List Entry = c.args.self.now.records.keys in
    let Q : List Entry → Type 0 = λ l. Tells (standing_among keys l) c.args.key.now c.loop-entry.contents in
    let e : map deref (c.loop-entry.yielded ++ c.in-Some.entry ∷ []) ≡ map deref c.loop-entry.yielded ++ c.in-Some.entry.now ∷ [] = map-append deref c.loop-entry.yielded (c.in-Some.entry ∷ []) in
    subst Q (sym e) (tells-passed keys (map deref c.loop-entry.yielded) c.in-Some.entry.now c.args.key.now c.loop-entry.contents c.loop-entry.invariant
    (sym c.is_withdrawn.ensures ∙ c.if-not-is_withdrawn.false))

pub returns-in_default : goal.returns-in_default
returns-in_default c =
    let keys : List Entry = c.args.self.now.records.keys in
    let rows : c.range-entry-items.result ≡ filter (from c.args.key.now) keys = c.range-entry-items.ensures.between tt ∙ ap (λ (l : Entry). filter (range_contains order (Included l) Unbounded) keys) c.lowest_at.ensures in
    told-several keys c.range-entry-items.ensures.ordered c.args.key.now c.range-entry-items.result rows (map deref c.loop-entry.yielded) c.next.new.self c.in-Some.entry.now
    (split c.range-entry-items.result c.loop-entry.yielded _ _ _ c.in-Some.entry c.into_iter-entry-iterator.ensures.into_iter_gives c.loop-entry.yielded_by c.in-Some.ensures.steps)
    c.loop-entry.contents
    ((same_key-decides c.in-Some.entry.now.key c.args.key.now).0 (sym c.is_same_key.ensures ∙ c.if-not-is_same_key.false))
    (sym c.is_withdrawn.ensures ∙ c.if-not-is_withdrawn.true)
    c.in_default.not-Nothing c.loop-entry.invariant

pub returns-then-not-is_same_key : goal.returns-then-not-is_same_key
returns-then-not-is_same_key c =
    let keys : List Entry = c.args.self.now.records.keys in
    let rows : c.range-entry-items.result ≡ filter (from c.args.key.now) keys = c.range-entry-items.ensures.between tt ∙ ap (λ (l : Entry). filter (range_contains order (Included l) Unbounded) keys) c.lowest_at.ensures in
    told-part keys c.range-entry-items.ensures.ordered c.args.key.now c.range-entry-items.result rows (map deref c.loop-entry.yielded) c.next.new.self c.in-Some.entry.now
    (split c.range-entry-items.result c.loop-entry.yielded _ _ _ c.in-Some.entry c.into_iter-entry-iterator.ensures.into_iter_gives c.loop-entry.yielded_by c.in-Some.ensures.steps)
    c.loop-entry.contents
    (λ i. true≢false (sym ((same_key-decides c.in-Some.entry.now.key c.args.key.now).1 i) ∙ sym c.is_same_key.ensures ∙ c.if-not-is_same_key.true))
    c.loop-entry.invariant

pub returns : goal.returns
returns c =
    let keys : List Entry = c.args.self.now.records.keys in
    let rows : c.range-entry-items.result ≡ filter (from c.args.key.now) keys = c.range-entry-items.ensures.between tt ∙ ap (λ (l : Entry). filter (range_contains order (Included l) Unbounded) keys) c.lowest_at.ensures in
    let e : map deref c.loop-entry.yielded ≡ c.range-entry-items.result = search (rules, iter_end) in
    told-whole keys c.range-entry-items.ensures.ordered c.args.key.now c.range-entry-items.result rows (map deref c.loop-entry.yielded) c.loop-entry.contents e c.loop-entry.invariant
