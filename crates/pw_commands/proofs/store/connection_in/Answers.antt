use Rattle.std.proofs.Common.{subst}
use Rattle.sqlite.specs.Files.{file_state}
use Rattle.sqlite.specs.Start.{FindsIn}
use Rattle.sqlite_wal.specs.Recovery.{Image}
use Rattle.pw_found.proofs.Logs.{same_image}
use Rattle.pw_commands.proofs.Opened.{at_ok, at_ok_where}
use Rattle.pw_commands.proofs.store.connection_in.Goals as goal

pub returns-in-Ok-clause-kept : goal.returns-in-Ok-clause-kept
returns-in-Ok-clause-kept g c =
    at_ok _ c.if_asked.result c.in-Ok.connection c.if_asked.ensures.same (λ clean. c.in_default.ensures.kept (c.in-Ok.ensures.found clean).honest)

pub returns-in-Ok-clause-found : goal.returns-in-Ok-clause-found
returns-in-Ok-clause-found g c =
    at_ok _ c.if_asked.result c.in-Ok.connection c.if_asked.ensures.same (
    λ clean.
    let found = c.in-Ok.ensures.found clean in
    subst (λ (image : Image). FindsIn image (file_state c.in-Ok.connection)) (same_image c.admit.ensures.log c.admit.ensures.db)
    (record { holds = found.holds; reads = found.reads })
    )

pub returns-in-Ok-clause-settled : goal.returns-in-Ok-clause-settled
returns-in-Ok-clause-settled g c =
    at_ok _ c.if_asked.result c.in-Ok.connection c.if_asked.ensures.same (λ clean. (c.in-Ok.ensures.opened clean).0.clean)

pub returns-in-Ok-clause-database : goal.returns-in-Ok-clause-database
returns-in-Ok-clause-database g c =
    at_ok _ c.if_asked.result c.in-Ok.connection c.if_asked.ensures.same (
    λ clean.
    let opened = c.in-Ok.ensures.opened clean in
    (opened.1 opened.0.is_open).1
    )

pub returns-in-Ok-clause-asked : goal.returns-in-Ok-clause-asked
returns-in-Ok-clause-asked g c =
    at_ok_where _ c.if_asked.result c.in-Ok.connection c.if_asked.ensures.same c.if_asked.ensures.asked (λ asked. asked)
