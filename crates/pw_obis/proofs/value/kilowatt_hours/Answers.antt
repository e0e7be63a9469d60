use Rattle.pw_obis.proofs.value.kilowatt_hours.Goals as goal

pub returns-in_default : goal.returns-in_default
returns-in_default c = λ wh h. c.in_default.ensures.none h.0 h.1 h.2
