-- What serving a port comes to.
-- (Definitions of this project.)
use Rattle.std.specs.Prelude.{◌≡◌, ◌⊎◌}
use Rattle.pw_sockets.specs.Unknown.{unknown}
use Rattle.pw_http.specs.declared.audience.Audience.{Audience}
use Rattle.pw_http.specs.Many.{IsManyTalks}
use Rattle.pw_http.specs.Replies.{Reply}
use Rattle.pw_http.specs.Runs.{Asking}

module _ (audience : Audience) {S : Type 0} (serves : S → Asking → Reply → S → Type 0) where
  -- what many connections asked was answered in one order, whatever their bytes are; or nothing was
  abbrev pub IsServed : S → S → Type 0
  IsServed old new = (new ≡ old) ⊎ IsManyTalks audience serves old (λ k. unknown) (λ k. unknown) new
