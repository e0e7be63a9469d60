-- What is printed of one set more, or of one frame more.
use Rattle.std.proofs.Common.{ℕ, List, [], ◌∷◌, ◌++◌, Ok, refl, sym, ap, ◌∙◌, append_assoc}
use Rattle.std.proofs.lemmas.List.{append-nil}
use Rattle.pw_frame.specs.declared.frame.Kind.{Kind}
use Rattle.pw_frame.specs.Frame.{FrameText}
use Rattle.pw_frame.specs.Body.{Front}
use Rattle.pw_time.specs.declared.zone.Clock.{Clock}
use Rattle.pw_read.specs.declared.fault.Cause.{Cause}
use Rattle.pw_read.specs.declared.fault.Cause.TheVariants.{Frame, Line, Value, Instant}
use Rattle.pw_obis.specs.Line.{SetText}
use Rattle.pw_read.specs.Lines.{SetShows, SetsShow}
use Rattle.pw_read.specs.Text.{FrameShows, FramesShow, FrameRefused, Stops}

pub sets_more : (kind : Kind) (sets : List SetText) (set : SetText) (lines line : List ℕ) → SetsShow kind sets lines → SetShows kind set (Ok line)
    → SetsShow kind (sets ++ set ∷ []) (lines ++ line)
sets_more kind [] set lines line x y = (line, [], y, refl, ap (λ l. l ++ line) x ∙ sym (append-nil line))
sets_more kind (s ∷ sets) set lines line x y =
    (x.0, x.1 ++ line, x.2, sets_more kind sets set x.1 line x.3 y, ap (λ l. l ++ line) x.4 ∙ append_assoc x.0 x.1 line)

pub frames_more : (clock : Clock) (frames : List FrameText) (frame : FrameText) (text shown : List ℕ) → FramesShow clock frames text → FrameShows clock frame shown
    → FramesShow clock (frames ++ frame ∷ []) (text ++ shown)
frames_more clock [] frame text shown x y = (shown, [], y, refl, ap (λ l. l ++ shown) x ∙ sym (append-nil shown))
frames_more clock (f ∷ frames) frame text shown x y =
    (x.0, x.1 ++ shown, x.2, frames_more clock frames frame x.1 shown x.3 y, ap (λ l. l ++ shown) x.4 ∙ append_assoc x.0 x.1 shown)

-- a frame that is refused stands behind those that are shown
pub stops_at : (clock : Clock) (body : List ℕ) (frames : List FrameText) (frame : FrameText) (place : ℕ) (cause : Cause) → Front body (frames ++ frame ∷ []) place
    → FrameRefused clock frame cause → Stops clock body frames cause
stops_at clock body frames frame place (Frame fault) x y = absurd y
stops_at clock body frames frame place (Line fault) x y = record { frame = frame; place = place; front = x; refused = y }
stops_at clock body frames frame place (Value fault) x y = record { frame = frame; place = place; front = x; refused = y }
stops_at clock body frames frame place (Instant fault) x y = record { frame = frame; place = place; front = x; refused = y }
