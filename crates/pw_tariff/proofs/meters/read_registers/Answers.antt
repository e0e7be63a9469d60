use Rattle.std.proofs.Common.{sym, map, string_bytes}
use Rattle.pw_tariff.proofs.Parts.{some-texts, registers-refused, registers-overlap, registers-passed}
use Rattle.pw_tariff.proofs.Passed.{passed-on}
use Rattle.pw_tariff.proofs.meters.read_registers.Goals as goal

pub returns-in_err-registers : goal.returns-in_err-registers
returns-in_err-registers c =
    passed-on _ _ c.from_residual.result c.from_residual.ensures.1
    (registers-refused (map string_bytes c.args.texts.now) c.in_err-registers.field-0.0
    (some-texts c.args.texts.now c.if-is_empty.ensures) c.in_err-registers.ensures)

pub returns-then-overlap : goal.returns-then-overlap
returns-then-overlap c =
    let o = rw (c.deref.ensures.value, c.in_ok-registers.ensures.1) at c.if-overlap.ensures in
    registers-overlap (map string_bytes c.args.texts.now) (some-texts c.args.texts.now c.if-is_empty.ensures) c.in_ok-registers.ensures.0 (sym o)

pub returns : goal.returns
returns c =
    let o = rw (c.deref.ensures.value, c.in_ok-registers.ensures.1) at c.if-overlap.ensures in
    let texts = some-texts c.args.texts.now c.if-is_empty.ensures in
    (registers-passed (map string_bytes c.args.texts.now) texts c.in_ok-registers.ensures.0 (sym o), c.in_ok-registers.ensures.1)
