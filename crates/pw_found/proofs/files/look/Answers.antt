use Rattle.std.proofs.Common.{rules, subst, ap, ◌∙◌, ◌<◌, ◌≤◌, ◌≡◌, ℕ, List, Result, Ok, Err, IfOk, IsErrAnd, MatchResult, length, slice_index, sym}
use Rattle.std.proofs.lemmas.Bool.{iff_false}
use Rattle.sqlite_wal.specs.Reads.{IsClean}
use Rattle.sqlite_wal.proofs.CleanLemmas.{both_clean, halves}
use Rattle.pw_found.proofs.Logs.{short_has_no_commit}
use Rattle.pw_found.proofs.files.look.Goals as goal

-- what is known of an answer where the fault alone was mapped
mapped : {T D E : Type 0} (r : Result T E) (s : Result T D) (P : T → Type 0) (Q : E → D → Type 0) (x : T)
    → MatchResult r (λ y. s ≡ Ok y) (λ e. IsErrAnd s (Q e)) → s ≡ Ok x → IfOk r P → P x
mapped (Ok y) s P Q x is at known = (let same : y ≡ x = (let e = sym is ∙ at in cc) in subst P same known)
mapped (Err e) s P Q x is at known = absurd (subst (λ t. IsErrAnd t (Q e)) at is)

pub returns-then-branch-gt-LONGEST_EMPTY_LOG-clause-alone :
    goal.returns-then-branch-gt-LONGEST_EMPTY_LOG-clause-alone
returns-then-branch-gt-LONGEST_EMPTY_LOG-clause-alone g c clean is =
    let log = (halves g.D.Disk _ _ clean).0 in
    let before = both_clean _ _ _ _ c.len.ensures.clean (λ (db : IsClean g.D.Disk c.is_no_database.new.files.db). db) clean in
    let known = mapped c.is_no_database.result c.map_err.result _ _ _ c.map_err.ensures.cases c.in_ok-map_err.was c.is_no_database.ensures.ok in
    let told : c.in_ok-map_err-2.field-0 ≡ length (g.D.Disk.seen c.is_no_database.new.files.log) = search rules in
    let size = told ∙ ap length c.is_no_database.ensures.log.seen in
    record {
      none = (known before).0 (search rules);
      long = subst (λ n. 41 < n) size c.if-branch-gt-LONGEST_EMPTY_LOG.true;
    }

pub returns-clause-nothing : goal.returns-clause-nothing
returns-clause-nothing g c clean is =
    let both = halves g.D.Disk _ _ clean in
    let before = both_clean _ _ _ _ c.len.ensures.clean c.is_cut.ensures.same.clean clean in
    let told : c.in_ok-map_err-2.field-0 ≡ length (g.D.Disk.seen c.is_no_database.new.files.log) = search rules in
    let size = told ∙ ap length c.is_no_database.ensures.log.seen in
    let short = subst (λ n. n ≤ 41) size c.if-branch-gt-LONGEST_EMPTY_LOG.false in
    let whole = subst (λ (db : List ℕ). ¬ ((length db ≡ 1) × (slice_index db 0 ≡ 83))) c.is_no_database.ensures.db.seen
    (search rules) in
    record {
      none = search rules;
      short = short;
      empty = short_has_no_commit _ short;
      whole = λ one letter. whole (one, letter);
    }

pub returns-then-branch-clause-nothing : goal.returns-then-branch-clause-nothing
returns-then-branch-clause-nothing g c = search rules depth 0 fits 100

pub returns-then-branch-clause-alone : goal.returns-then-branch-clause-alone
returns-then-branch-clause-alone g c = search rules depth 0 fits 100
