-- Any entries can be listed.
use Rattle.std.proofs.Common.{List}
use Rattle.pw_model.specs.declared.records.Entry.{Entry}
use Rattle.pw_model.specs.inner.Search.{AreSorted}
use Rattle.pw_model.proofs.Existence.{sorted-there_is}
use Rattle.pw_record.specs.Listed.{AreListed}

pub listed-there_is : (given : List Entry) → (listed : List Entry) × AreListed given listed
listed-there_is given =
    let s : (listed : List Entry) × AreSorted given listed = sorted-there_is given in
    (s.0, record { rising = s.1.rising; same = λ e. ((s.1.members e).1, (s.1.members e).0) })
