use Rattle.std.proofs.Common.{◌≡◌, ◌<◌, ◌+◌, ◌%◌, take, drop, ap, arith}
use Rattle.pw_time.proofs.TextFacts.{stamp_bytes}
use Rattle.pw_time.proofs.texts.of_stamp.Goals as goal

pub returns-in_err-hour : goal.returns-in_err-hour
returns-in_err-hour c = rw c.from_residual-in_err-hour.ensures λ told mark is.
    c.in_err-hour.ensures told.hour told.minute told.second (is.parts.hour, is.parts.minute, is.parts.second) (ap (λ xs. take 6 (drop 6 xs)) is.bytes)

pub returns : goal.returns
returns c =
    let date = c.in_ok-year.ensures in
    let time = c.in_ok-hour.ensures in
    let below : c.in_ok-year.year < 100 = date.0.0 in
    let short : (2000 + c.from.result) % 100 ≡ c.in_ok-year.year = omega (arith, c.from.ensures, below) in
    record {
      year = (omega arith, omega (arith, c.from.ensures, below));
      parts = record { year = omega (arith, c.from.ensures, below); month = date.0.1; day = date.0.2; hour = time.0.0; minute = time.0.1; second = time.0.2 };
      bytes = rw short (stamp_bytes c.args.text.now _ _ c.if-text-ne13.false date.1 time.1);
    }
