-- Points that all stand before a second, or behind one.
use Rattle.std.proofs.Common.{◌≡◌, ℕ, ◌<◌, ◌≤◌, None, List, [], ◌∷◌, All, refl, arith}
use Rattle.std.proofs.lemmas.Bool.{ne_eqb}
use Rattle.std.proofs.lemmas.List.Elements.{All-head, All-tail}
use Rattle.pw_time.specs.Instants.{IsInstant}
use Rattle.pw_time.specs.declared.instant.TheConstants.{FIRST_SECOND}
use Rattle.pw_flow.specs.declared.plain.Point.{Point}
use Rattle.pw_flow.specs.Plain.{value_at}

abbrev EarlierThan : ℕ → List Point → Type 0
EarlierThan n ps = All (λ p. p.at < n) ps

pub none-late : (ps : List Point) (n t : ℕ) → EarlierThan n ps → n ≤ t → value_at ps t ≡ None
unfolding value_at
none-late [] n t h l = refl
none-late (p ∷ ps) n t h l =
    let a : p.at < n = All-head (λ q. q.at < n) p ps h in
    rw (ne_eqb p.at t (λ e. absurd (omega arith))) (none-late ps n t (All-tail (λ q. q.at < n) p ps h) l)

-- no point stands before all instants
pub no-value : (ps : List Point) (t : ℕ) → All (λ p. IsInstant p.at) ps → t < FIRST_SECOND → value_at ps t ≡ None
unfolding value_at
no-value [] t h l = refl
no-value (p ∷ ps) t h l =
    let a : IsInstant p.at = All-head (λ (q : Point). IsInstant q.at) p ps h in
    rw (ne_eqb p.at t (λ e. absurd (omega (arith, a.0)))) (no-value ps t (All-tail (λ (q : Point). IsInstant q.at) p ps h) l)
