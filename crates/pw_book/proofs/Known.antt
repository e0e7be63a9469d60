-- The starts that an upload knows of a meter.
use Rattle.std.proofs.Common.{◌≡◌, ℕ, Option, None, sym, subst, ◌∙◌}
use Rattle.std.proofs.lemmas.Option.{none-some}
use Rattle.pw_tariff.specs.declared.ids.AccountId.{AccountId}
use Rattle.pw_book.specs.declared.gathered.KnownStarts.{KnownStarts}
use Rattle.pw_book.specs.inner.Gathered.{AreKnown}

-- of no meter
pub none-known : (start : ℕ → ℕ → Option (Option AccountId)) (known : KnownStarts) → known.meter ≡ None → AreKnown start known
none-known start known none = λ m some. absurd (none-some m (sym none ∙ some))

-- where the starts that are kept are as before
pub still-known : (start others : ℕ → ℕ → Option (Option AccountId)) (known : KnownStarts) → others ≡ start → AreKnown start known → AreKnown others known
still-known start others known same all =
    let P : (ℕ → ℕ → Option (Option AccountId)) → Type 0 = λ s. AreKnown s known in
    subst P (sym same) all
