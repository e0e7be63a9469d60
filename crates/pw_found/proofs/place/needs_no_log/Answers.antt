use Rattle.std.proofs.Common.{subst, inr, ◌≤◌, ◌≡◌, ℕ, List, length}
use Rattle.sqlite_wal.specs.Recovery.{Image}
use Rattle.sqlite_wal.proofs.CleanLemmas.{halves}
use Rattle.pw_found.specs.Files.{IsNoDatabase}
use Rattle.pw_found.proofs.Logs.{short_has_no_commit}
use Rattle.pw_found.proofs.place.needs_no_log.Goals as goal

pub returns-in-Ok : goal.returns-in-Ok
returns-in-Ok g c is clean =
    let log = c.is_file.ensures.log.clean (halves g.D.Disk _ _ clean).0 in
    let size : c.in-Ok.size ≡ length (g.D.Disk.seen c.args.files.now.log) = c.in-Ok.ensures.len log in
    let other = subst (λ (log : List ℕ). let image : Image = record { log = log; db = g.D.Disk.seen c.args.files.now.db } in ¬ IsNoDatabase image)
    c.len.ensures.seen (c.is_file.ensures.file is clean) in
    record {
      empty = short_has_no_commit _ (subst (λ n. n ≤ 41) size c.if-size-le-LONGEST_EMPTY_LOG.true);
      other = inr other;
    }
