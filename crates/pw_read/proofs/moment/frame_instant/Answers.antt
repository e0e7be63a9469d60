use Rattle.pw_read.proofs.moment.frame_instant.Goals as goal

pub returns-in-Telegram : goal.returns-in-Telegram
returns-in-Telegram c = rw c.in-Telegram.is (c.telegram_instant.ensures c.args.clock)

pub returns-in-Readout : goal.returns-in-Readout
returns-in-Readout c = rw c.in-Readout.is c.instant_of_readout.ensures
