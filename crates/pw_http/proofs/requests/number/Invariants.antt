use Rattle.std.proofs.Common.{◌≡◌, ◌<◌, ◌^◌, take, true}
use Rattle.std.specs.List.{list_all}
use Rattle.std.specs.Char.{is_ascii_digit}
use Rattle.std.specs.Str.Parse.{digits_value}
use Rattle.pw_http.proofs.requests.number.Given as goal

abbrev pub invariant-loop-b : goal.invariant-loop-b
invariant-loop-b l = record {
  digits : list_all is_ascii_digit (take l.b-index l.text) ≡ true;
  value : l.value ≡ digits_value 10 (take l.b-index l.text);
  small : l.value < 10 ^ l.b-index;
}
