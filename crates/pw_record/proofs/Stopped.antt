-- What stops a part of an upload, told as the upload's fault.
use Rattle.std.proofs.Common.{◌≡◌, ℕ, Result, Ok, Err, MatchResult, IsErrAnd, OnOk, refl, sym, subst, ◌∙◌, ◌⊎◌, inl, inr}
use Rattle.pw_record.specs.declared.fault.Cause.{Cause}
use Rattle.pw_record.specs.declared.fault.Halt.{Halt}
use Rattle.pw_record.specs.declared.fault.Halt.TheVariants.{Memory, Refused}
use Rattle.pw_record.specs.declared.fault.UploadFault.{UploadFault}
use Rattle.pw_record.specs.Causes.{want_of_memory}
use Rattle.pw_record.specs.inner.Halts.{fault_of_part}

-- what is known of an answer `Ok` where the fault alone was mapped
pub kept : {X E D P : Type 0} (r : Result X E) (told : Result X D) (Q : E → D → Type 0) (x : X)
    → MatchResult r (λ y. told ≡ Ok y) (λ e. IsErrAnd told (Q e)) → told ≡ Ok x → OnOk r P → P
kept (Ok y) told Q x is at known = known
kept (Err e) told Q x is at known = absurd (subst (λ t. IsErrAnd t (Q e)) at is)

-- the fault that was mapped
pub stopped : {X E D : Type 0} (r : Result X E) (told : Result X D) (Q : E → D → Type 0) (d : D)
    → MatchResult r (λ y. told ≡ Ok y) (λ e. IsErrAnd told (Q e)) → told ≡ Err d → (e : E) × (r ≡ Err e) × Q e d
stopped (Ok y) told Q d is at = absurd (let same = sym is ∙ at in cc)
stopped (Err e) told Q d is at = (e, refl, subst (λ t. IsErrAnd t (Q e)) at is)

-- it is want of memory, or a refusal that is told with the part's number
pub told-of-part : (halt : Halt) (part : ℕ) (P : UploadFault → Type 0) → ((cause : Cause) → halt ≡ Refused cause → P (record { part = part; cause = cause }))
    → (fault_of_part halt part ≡ want_of_memory) ⊎ P (fault_of_part halt part)
told-of-part Memory part P known = inl refl
told-of-part (Refused cause) part P known = inr (known cause refl)
