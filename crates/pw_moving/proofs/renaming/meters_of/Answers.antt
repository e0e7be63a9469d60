use Rattle.std.proofs.Common.{ℕ, Option, Some, List, length, ap, sym, subst, ◌+◌, ◌∙◌}
use Rattle.pw_tariff.specs.declared.ids.MeterId.{MeterId}
use Rattle.pw_moving.specs.Renaming.{Offices, by_names}
use Rattle.pw_moving.specs.Tables.{HasMeters, meter_below}
use Rattle.pw_moving.proofs.Tabled.{count-more, meter-told, one-more}
use Rattle.pw_moving.proofs.renaming.meters_of.Goals as goal

pub loop-meter-preserved : goal.loop-meter-preserved
loop-meter-preserved c =
    let o : Offices = record { old = c.args.old.now; new = c.args.new.now } in
    let was = c.loop-meter.invariant in
    let named = c.meter_name-name.ensures ∙ ap (λ (n : List ℕ). Some n) (sym c.as_bytes.ensures.value) in
    let told = meter-told c.args.old.now.meters c.args.new.now.meters c.loop-meter.meter c.as_bytes.result.now named c.meter.result c.meter.ensures.some c.meter.ensures.only c.meter.ensures.none in
    let P : List (Option MeterId) → Type 0 = HasMeters o (c.loop-meter.meter + 1) in
    subst P (sym {A = List (Option MeterId)} c.in_ok-push.ensures.items) (record {
      count = count-more c.loop-meter.table.items c.meter.result c.loop-meter.meter was.count;
      each = one-more (λ i. meter_below (length c.args.new.now.meters) ((by_names o).meter i)) c.loop-meter.table.items c.meter.result c.loop-meter.meter was.count was.each told;
    })
