use Rattle.std.proofs.Common.{◌≡◌, ◌∙◌, ap}
use Rattle.std.specs.List.{filter}
use Rattle.std.specs.declared.ops.Bound.TheVariants.{Included, Unbounded}
use Rattle.std.specs.BTreeMap.Range.{range_contains}
use Rattle.pw_model.specs.declared.records.Entry.{Entry}
use Rattle.pw_shelf.proofs.InOrder.{order}
use Rattle.pw_shelf.proofs.AtKey.{from, first-tells, none-has}
use Rattle.pw_shelf.proofs.held.Held.has_key.Goals as goal

pub returns-in-Some : goal.returns-in-Some
returns-in-Some c =
    let rows : c.range.result ≡ filter (from c.args.key.now) c.args.self.now.records.keys = c.range.ensures.between tt ∙ ap (λ (l : Entry). filter (range_contains order (Included l) Unbounded) c.args.self.now.records.keys) c.lowest_at.ensures in
    first-tells c.args.self.now.records.keys c.range.ensures.ordered c.args.key.now _ rows c.in-Some.first.now _ _ c.in-Some.ensures.steps c.is_same_key.ensures

pub returns-in-None : goal.returns-in-None
returns-in-None c =
    let rows : c.range.result ≡ filter (from c.args.key.now) c.args.self.now.records.keys = c.range.ensures.between tt ∙ ap (λ (l : Entry). filter (range_contains order (Included l) Unbounded) c.args.self.now.records.keys) c.lowest_at.ensures in
    none-has c.args.self.now.records.keys c.range.ensures.ordered c.args.key.now _ rows c.in-None.ensures.steps.0
