use Rattle.pw_record.proofs.FrameFacts.{six-put}
use Rattle.pw_record.proofs.shown.put_readings.Goals as goal

pub returns : goal.returns
returns c =
    six-put c.args.given.now.items _ _ _ _ _ _ _ _ _ _ _ _ c.in_ok-put_reading.ensures c.in_ok-put_reading-2.ensures c.in_ok-put_reading-3.ensures c.in_ok-put_reading-4.ensures
    c.in_ok-put_reading-5.ensures c.in_ok-put_reading-6.ensures
