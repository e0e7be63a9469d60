-- Lists of one word and of three.
use Rattle.std.proofs.Common.{◌≡◌, ◌<◌, ◌≤◌, ℕ, Option, Some, None, IfSome, List, [], ◌∷◌, length, get_or, map, codes, refl, arith, Bor}
use Rattle.pw_time.specs.declared.zone.Clock.{Clock}
use Rattle.pw_time.specs.declared.zone.Clock.TheVariants.{Winter}
use Rattle.pw_words.specs.Words.{AsksToPipe, IsClockWord, StatesClock}

pub pipe-alone : (words : List (Bor (List ℕ))) (none : Bor (List ℕ)) → 1 ≤ length words → length words < 2 →
    (get_or words 0 none).now ≡ codes "pipe" → AsksToPipe (map (λ (word : Bor (List ℕ)). word.now) words)
pipe-alone [] none a b e = absurd (omega arith)
pipe-alone (w ∷ []) none a b e = e
pipe-alone (w ∷ v ∷ words) none a b e = absurd (omega arith)

pub alone-pipe : (words : List (Bor (List ℕ))) (none : Bor (List ℕ)) → 1 ≤ length words → length words < 2 →
    AsksToPipe (map (λ (word : Bor (List ℕ)). word.now) words) → (get_or words 0 none).now ≡ codes "pipe"
alone-pipe [] none a b e = absurd (omega arith)
alone-pipe (w ∷ []) none a b e = e
alone-pipe (w ∷ v ∷ words) none a b e = absurd (omega arith)

pub read-alone : (words : List (Bor (List ℕ))) (none : Bor (List ℕ)) → 1 ≤ length words → length words < 2 →
    (get_or words 0 none).now ≡ codes "read" → StatesClock (map (λ (word : Bor (List ℕ)). word.now) words) Winter
read-alone [] none a b e = absurd (omega arith)
read-alone (w ∷ []) none a b e = (e, refl)
read-alone (w ∷ v ∷ words) none a b e = absurd (omega arith)

stated : (words : List (Bor (List ℕ))) (none : Bor (List ℕ)) (clock : Clock) → 3 ≤ length words → length words < 4 →
    (get_or words 0 none).now ≡ codes "read" → (get_or words 1 none).now ≡ codes "--clock" →
    IsClockWord clock (get_or words 2 none).now → StatesClock (map (λ (word : Bor (List ℕ)). word.now) words) clock
stated [] none clock a b e f g = absurd (omega arith)
stated (u ∷ []) none clock a b e f g = absurd (omega arith)
stated (u ∷ v ∷ []) none clock a b e f g = absurd (omega arith)
stated (u ∷ v ∷ w ∷ []) none clock a b e f g = (e, f, g)
stated (u ∷ v ∷ w ∷ x ∷ words) none clock a b e f g = absurd (omega arith)

pub clock-stated : (words : List (Bor (List ℕ))) (none : Bor (List ℕ)) (clock : Option Clock) → 3 ≤ length words → length words < 4 →
    (get_or words 0 none).now ≡ codes "read" → (get_or words 1 none).now ≡ codes "--clock" →
    IfSome clock (λ told. IsClockWord told (get_or words 2 none).now) →
    IfSome clock (λ told. StatesClock (map (λ (word : Bor (List ℕ)). word.now) words) told)
clock-stated words none None a b e f g = tt
clock-stated words none (Some clock) a b e f g = stated words none clock a b e f g
