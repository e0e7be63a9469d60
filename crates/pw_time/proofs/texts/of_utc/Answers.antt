use Rattle.std.proofs.Common.{◌≡◌, ◌<◌, ◌+◌, ◌*◌, ◌/◌, ◌%◌, take, drop, ap, arith}
use Rattle.pw_time.proofs.TextFacts.{utc_bytes}
use Rattle.pw_time.proofs.texts.of_utc.Goals as goal

pub returns-in_err-hour : goal.returns-in_err-hour
returns-in_err-hour c = rw c.from_residual-in_err-hour.ensures λ told is.
    c.in_err-hour.ensures told.hour told.minute told.second (is.parts.hour, is.parts.minute, is.parts.second) (ap (λ xs. take 8 (drop 11 xs)) is.bytes)

pub returns : goal.returns
returns c =
    let century = c.in_ok-century.ensures in
    let date = c.in_ok-year.ensures in
    let time = c.in_ok-hour.ensures in
    let below : c.in_ok-century.century < 100 = century.0 in
    let year_below : c.in_ok-year.year < 100 = date.0.0 in
    let year = c.from.result * 100 + c.from-2.result in
    let high : year / 100 ≡ c.in_ok-century.century = omega (arith, c.from.ensures, c.from-2.ensures, below, year_below) in
    let low : year % 100 ≡ c.in_ok-year.year = omega (arith, c.from.ensures, c.from-2.ensures, below, year_below) in
    record {
      parts = record { year = omega (arith, c.from.ensures, c.from-2.ensures, below, year_below); month = date.0.1; day = date.0.2; hour = time.0.0; minute = time.0.1; second = time.0.2 };
      bytes = rw (high, low, ← century.1, ← century.2) (utc_bytes c.args.text.now _ _ c.if-text-ne20.false c.if-text-ne84.false c.if-text-ne90.false date.1 time.1);
    }
