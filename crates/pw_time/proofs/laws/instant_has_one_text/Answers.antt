use Rattle.pw_time.proofs.WrittenDays.{one_written}
use Rattle.pw_time.proofs.laws.instant_has_one_text.Goals as goal

pub returns : goal.returns
returns c = record {
  one = record {
    answer = c.write_utc.result;
    holds = c.write_utc.ensures.read_back;
    only = λ other right. one_written c.args.instant c.write_utc.result other c.write_utc.ensures.read_back right;
  };
  never_two = one_written;
}
