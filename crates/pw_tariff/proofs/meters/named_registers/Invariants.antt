use Rattle.std.proofs.Common.{◌≡◌, map, string_bytes, take}
use Rattle.pw_tariff.specs.Text.{register_checks, registers_in_turn, registers_of}
use Rattle.pw_tariff.proofs.Order.{ComesTo}
use Rattle.pw_tariff.proofs.meters.named_registers.Given as goal

abbrev pub invariant-loop-i : goal.invariant-loop-i
invariant-loop-i l = record {
  checks : ComesTo (registers_in_turn (map string_bytes l.texts)) (λ text. text) register_checks string_bytes (map string_bytes (take l.i l.texts)) l.texts l.i;
  registers : l.registers.items ≡ registers_of (map string_bytes (take l.i l.texts));
}
