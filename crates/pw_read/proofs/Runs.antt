-- A run that ends in a failure.
use Rattle.std.proofs.Common.{◌≡◌, ◌≤◌, ℕ, List, length, Option, inl, inr, refl, sym, ◌∙◌, arith}
use Rattle.std.proofs.Math.Seq.{take-length}
use Rattle.std.specs.Io.KnownBytes.{Appends}
use Rattle.pw_read.specs.declared.fault.ReadFault.TheVariants.{Memory, Refused}
use Rattle.pw_read.specs.declared.run.Failure.{Failure}
use Rattle.pw_read.specs.declared.run.Failure.TheVariants.{Body, TooLarge, Device}
use Rattle.pw_frame.specs.declared.frames.TheConstants.{LONGEST_BODY}
use Rattle.pw_time.specs.declared.zone.Clock.{Clock}
use Rattle.pw_read.specs.Text.{BodyShows}
use Rattle.pw_read.specs.Run.{IsFailure, failure_line, failure_status, WritesFront, PrintsFront, IsRun}
use Rattle.pw_read.specs.inner.Run.{Tells}
use Rattle.pw_read.specs.inner.Run.{TellsLine}

-- all of a text is a front of it
whole_front : (old new : Option (List ℕ)) (bytes : List ℕ) → Appends old new bytes → WritesFront old new bytes
whole_front old new bytes all = (length bytes, rw take-length all)

line_front : (line : List ℕ) (told status : ℕ) (old new : Option (List ℕ))
    → TellsLine line told old new status → WritesFront old new line
line_front line told status old new (inl whole) = whole_front old new line whole.1
line_front line told status old new (inr cut) = cut.1

nothing_printed : (clock : Clock) (body : List ℕ) (failure : Failure) (out : Option (List ℕ))
    → PrintsFront clock body failure out out
nothing_printed clock body (Body fault) out = refl
nothing_printed clock body TooLarge out = refl
nothing_printed clock body Device out = inl refl

never_0 : (failure : Failure) → failure_status failure ≡ 0 → ⊥
never_0 (Body (Refused refusal)) e = cc
never_0 (Body Memory) e = cc
never_0 TooLarge e = cc
never_0 Device e = cc

-- a status that is neither the line's nor 3 isn't answered
other_status : (line : List ℕ) (told status other : ℕ) (old new : Option (List ℕ)) → TellsLine line told old new status
    → (told ≡ other → ⊥) → (3 ≡ other → ⊥) → status ≡ other → ⊥
other_status line told status other old new (inl whole) f g e = f (sym whole.0 ∙ e)
other_status line told status other old new (inr cut) f g e = g (sym cut.0 ∙ e)

-- where nothing is printed
pub run_told : (clock : Clock) (body : List ℕ) (failure : Failure)
    (out old_line new_line : Option (List ℕ)) (status : ℕ)
    → IsFailure clock body failure → Tells failure old_line new_line status
    → IsRun clock body out out old_line new_line status
run_told clock body failure out old_line new_line status is told = record {
  printed = λ e. absurd (other_status (failure_line failure) _ status 0 old_line new_line told (never_0 failure) (λ f. cc) e);
  refused = λ e. elim told [
    | inl whole ↦ (failure, is, sym whole.0 ∙ e, refl, whole.1)
    | inr cut ↦ absurd (omega (arith, cut.0, e))
  ];
  failed = λ e.
      let line = line_front (failure_line failure) (failure_status failure) status old_line new_line told in
      (failure, is, nothing_printed clock body failure out, line);
}

-- where the text's writer failed
pub run_cut : (clock : Clock) (body text : List ℕ) (old new old_line new_line : Option (List ℕ)) (status : ℕ)
    → length body ≤ LONGEST_BODY → BodyShows clock body text → WritesFront old new text
    → Tells Device old_line new_line status
    → IsRun clock body old new old_line new_line status
run_cut clock body text old new old_line new_line status short shown front told = record {
  printed = λ e. absurd (other_status _ 3 status 0 old_line new_line told (λ f. cc) (λ f. cc) e);
  refused = λ e. absurd (other_status _ 3 status 1 old_line new_line told (λ f. cc) (λ f. cc) e);
  failed = λ e.
      (Device, tt, inr (short, (text, shown, front)), line_front (failure_line Device) 3 status old_line new_line told);
}
