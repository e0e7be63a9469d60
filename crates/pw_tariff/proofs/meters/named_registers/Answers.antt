use Rattle.std.proofs.Common.{◌+◌, map, take, string_bytes, List, ℕ, arith}
use Rattle.pw_tariff.specs.Text.{register_checks, register_of, registers_in_turn}
use Rattle.pw_tariff.proofs.Order.{turn-refused, turn-passed, turn-ended, names-more, all-taken, register-more}
use Rattle.pw_tariff.proofs.Passed.{passed-on}
use Rattle.pw_tariff.proofs.meters.named_registers.Goals as goal

pub returns-in_err-register : goal.returns-in_err-register
returns-in_err-register c =
    let r = rw c.as_bytes.ensures.value at c.in_err-register.ensures in
    passed-on _ _ c.from_residual.result c.from_residual.ensures.1
    (turn-refused (registers_in_turn (map string_bytes c.args.texts.now)) (λ (text : List ℕ). text) register_checks string_bytes
    (map string_bytes (take c.loop-i.i c.args.texts.now)) c.args.texts.now c.loop-i.i c.index-texts-i.result c.in_err-register.field-0.0
    (omega arith) c.index-texts-i.is c.loop-i.invariant.checks r)

pub loop-i-preserved : goal.loop-i-preserved
loop-i-preserved c =
    let k = rw c.as_bytes.ensures.value at c.in_ok-register.ensures in
    record {
      checks = turn-passed (registers_in_turn (map string_bytes c.args.texts.now)) (λ (text : List ℕ). text) register_checks string_bytes (map string_bytes (take c.loop-i.i c.args.texts.now)) (map string_bytes (take (c.loop-i.i + 1) c.args.texts.now)) c.args.texts.now c.loop-i.i c.index-texts-i.result
          (omega arith) c.index-texts-i.is (names-more string_bytes c.args.texts.now c.loop-i.i c.index-texts-i.result (omega arith) c.index-texts-i.is) c.loop-i.invariant.checks k.0;
      registers = rw c.in_ok-push.ensures.items (register-more register_of string_bytes c.loop-i.registers.items c.in_ok-register.register
          c.args.texts.now c.loop-i.i c.index-texts-i.result (omega arith) c.index-texts-i.is c.loop-i.invariant.registers k.1);
    }

pub returns : goal.returns
returns c =
    let whole = all-taken c.args.texts.now c.loop-i.i (omega arith) in
    let same = rw whole at c.loop-i.invariant.registers in
    (turn-ended (registers_in_turn (map string_bytes c.args.texts.now)) (λ (text : List ℕ). text) register_checks string_bytes (map string_bytes (take c.loop-i.i c.args.texts.now)) c.args.texts.now c.loop-i.i (omega arith) c.loop-i.invariant.checks, same)
