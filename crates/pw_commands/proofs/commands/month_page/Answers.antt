use Rattle.std.proofs.Common.{refl}
use Rattle.std.proofs.lemmas.Option.{slice_get_within}
use Rattle.pw_commands.proofs.commands.month_page.Goals as goal

pub returns-clause-page : goal.returns-clause-page
returns-clause-page c =
    (slice_get_within c.args.office.now.accounts c.in-Some.account.0 _ c.in-Some.ensures.some, c.in-Some-month_of.ensures.some.there)

pub returns-clause-known : goal.returns-clause-known
returns-clause-known c =
    let account = rw c.as_bytes.ensures.value at c.in-Some.ensures.some in
    let month = rw c.as_bytes-2.ensures.value at c.in-Some-month_of.ensures.some in
    (refl, account, month)

pub returns-in_default-clause-refused : goal.returns-in_default-clause-refused
returns-in_default-clause-refused c = rw c.as_bytes.ensures.value at c.in_default.ensures.none

pub returns-in_default-month_of-clause-refused : goal.returns-in_default-month_of-clause-refused
returns-in_default-month_of-clause-refused c =
    let account = rw c.as_bytes.ensures.value at c.in-Some.ensures.some in
    let none = rw c.as_bytes-2.ensures.value at c.in_default-month_of.ensures.none in
    ((c.in-Some.account.0, account), none)
