-- The numbers, names and lines of the faults of a stream.
-- (A format of this project.)
use Rattle.std.specs.Prelude.{ℕ, List, codes}
use Rattle.pw_line.specs.Refused.{refused_line}
use Rattle.pw_http.specs.declared.fault.WireFault.{WireFault}
use Rattle.pw_http.specs.declared.fault.WireFault.TheVariants.{Read, Write, TooManyTurns, Memory}

abbrev pub wire_told : WireFault → ℕ × List ℕ
wire_told Read = (80, codes "Read")
wire_told Write = (81, codes "Write")
wire_told TooManyTurns = (82, codes "TooManyTurns")
wire_told Memory = (62, codes "Memory")

abbrev pub wire_line : WireFault → List ℕ
wire_line fault = refused_line (wire_told fault).0 (wire_told fault).1
