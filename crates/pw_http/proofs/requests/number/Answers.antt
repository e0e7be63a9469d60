use Rattle.std.proofs.Common.{◌≡◌, ◌+◌, ◌++◌, ◌∷◌, [], take, arith, true, sym, ◌∙◌, refl, get_or}
use Rattle.std.specs.Char.{is_ascii_digit}
use Rattle.std.proofs.lemmas.List.{take_more}
use Rattle.pw_http.proofs.Numbers.{more_digits, more_value, more_small, digit_of}
use Rattle.pw_http.proofs.requests.number.Goals as goal

pub loop-b-preserved : goal.loop-b-preserved
loop-b-preserved c =
    let text = c.args.text.now in
    let i = c.loop-b.b-index in
    let b = get_or text i 0 in
    let more : take (i + 1) text ≡ take i text ++ b ∷ [] = take_more text i 0 (omega (arith, c.loop-b-test.true)) in
    let digit : is_ascii_digit b ≡ true = sym c.is_ascii_digit.ensures.value ∙ c.if-not-is_ascii_digit.false in
    let low = digit_of b digit in
    record {
      digits = rw more (more_digits (take i text) b c.loop-b.invariant.digits digit);
      value = rw (more, more_value (take i text) b digit, ← c.loop-b.invariant.value, c.from.ensures) refl;
      small = more_small c.loop-b.value c.from.result i c.loop-b.invariant.small (omega (arith, low.0, low.1, c.from.ensures));
    }
