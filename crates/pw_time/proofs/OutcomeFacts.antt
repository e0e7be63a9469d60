-- What a civil time is answered, from the seconds at which its clock shows it.
use Rattle.std.proofs.Common.{◌≡◌, ◌≢◌, ◌≤◌, ◌+◌, ◌-◌, ◌∙◌, ℕ, ℤ, pos, negsuc, ◌-ℤ◌, ◌⊎◌, inl, inr, Bool, true, false, List, Result, Ok, Err, IfOk, IfErr, refl, arith, ap, sym, subst}
use Rattle.std.proofs.lemmas.Int.{ints}
use Rattle.pw_time.specs.declared.civil.CivilTime.{CivilTime}
use Rattle.pw_time.specs.declared.fault.StampFault.{StampFault}
use Rattle.pw_time.specs.declared.fault.StampFault.TheVariants.{Form, NoSuchDate, NoSuchTime, Mark, Range, Gap, Fold}
use Rattle.pw_time.specs.Civil.{civil_second}
use Rattle.pw_time.specs.Instants.{IsInstant}
use Rattle.pw_time.specs.Summer.{is_summer, civil_offset}
use Rattle.pw_time.specs.declared.zone.Clock.{Clock}
use Rattle.pw_time.specs.Texts.{IsStampText, AreReadoutTexts}
use Rattle.pw_time.specs.Outcomes.{always, central, Shows, ShowsOnce, Exists, IsCivilOutcome, IsSeasonMark, IsStampOutcome, IsReadoutClock, IsReadoutOutcome}

-- the second is known: the instant, or out of range
pub once_outcome : (ahead : ℤ → ℕ) (c : CivilTime) (t : ℤ) (r : Result ℕ StampFault)
    → Exists c → ShowsOnce ahead c t
    → IfOk r (λ instant. (pos instant ≡ t) × IsInstant instant)
    → IfErr r (λ fault. (fault ≡ Range) × ((instant : ℕ) → IsInstant instant → pos instant ≢ t))
    → IsCivilOutcome ahead c r
once_outcome ahead c t (Ok instant) there once ok err =
    (there, subst (ShowsOnce ahead c) (sym ok.0) once, ok.1)
once_outcome ahead c t (Err fault) there once ok err =
    rw err.0 (there, (t, once, err.1))

-- a clock that is always as far ahead shows each civil time once
pub always_once : (ahead : ℕ) (c : CivilTime) (n : ℤ) → n ≡ civil_second c → ShowsOnce (always ahead) c (n -ℤ pos ahead)
always_once ahead c n e = (omega (arith, ints), λ other shows. omega (arith, ints, shows))

-- how far local clocks are ahead, in summer and in winter
summer_second : (u k : ℕ) → is_summer u ≡ true → u + civil_offset u ≡ k → u ≡ k - 7200
summer_second u k summer e = let there = rw summer at e in omega (arith, there)

winter_second : (u k : ℕ) → is_summer u ≡ false → u + civil_offset u ≡ k → u ≡ k - 3600
winter_second u k winter e = let there = rw winter at e in omega (arith, there)

summer_or_winter : (b : Bool) → (b ≡ true) ⊎ (b ≡ false)
summer_or_winter true = inl refl
summer_or_winter false = inr refl

-- the two seconds at which local clocks may show a civil time
pub central_at : (c : CivilTime) (k : ℕ) (t : ℤ) → pos k ≡ civil_second c → 7200 ≤ k → Shows central c t
    → ((t ≡ pos (k - 7200)) × (is_summer (k - 7200) ≡ true)) ⊎ ((t ≡ pos (k - 3600)) × (is_summer (k - 3600) ≡ false))
central_at c k (pos u) e low shows =
    let sum : u + civil_offset u ≡ k = omega (arith, ints, e, shows) in
    elim (summer_or_winter (is_summer u)) [
      | inl summer ↦
          let at = summer_second u k summer sum in
          inl (ap pos at, ap is_summer (sym at) ∙ summer)
      | inr winter ↦
          let at = winter_second u k winter sum in
          inr (ap pos at, ap is_summer (sym at) ∙ winter)
    ]
central_at c k (negsuc u) e low shows = absurd (omega (arith, ints, e, shows))

pub summer_shows : (c : CivilTime) (k : ℕ) → pos k ≡ civil_second c → 7200 ≤ k → is_summer (k - 7200) ≡ true → Shows central c (pos (k - 7200))
summer_shows c k e low summer =
    let sum : k - 7200 + 7200 ≡ k = omega arith in
    rw summer (ap pos sum ∙ e)

pub winter_shows : (c : CivilTime) (k : ℕ) → pos k ≡ civil_second c → 7200 ≤ k → is_summer (k - 3600) ≡ false → Shows central c (pos (k - 3600))
winter_shows c k e low winter =
    let sum : k - 3600 + 3600 ≡ k = omega arith in
    rw winter (ap pos sum ∙ e)

-- a second is not in summer and in winter
not_both : (b : Bool) → b ≡ true → b ≡ false → ⊥
not_both b t f = cc

-- both seconds are in summer: the first
pub summer_once : (c : CivilTime) (k : ℕ) → pos k ≡ civil_second c → 7200 ≤ k → is_summer (k - 7200) ≡ true → is_summer (k - 3600) ≡ true
    → ShowsOnce central c (pos (k - 7200))
summer_once c k e low first second = (
  summer_shows c k e low first,
  λ other shows. elim (central_at c k other e low shows) [
    | inl summer ↦ summer.0
    | inr winter ↦ absurd (not_both _ second winter.1)
  ],
)

-- both are in winter: the second
pub winter_once : (c : CivilTime) (k : ℕ) → pos k ≡ civil_second c → 7200 ≤ k → is_summer (k - 7200) ≡ false → is_summer (k - 3600) ≡ false
    → ShowsOnce central c (pos (k - 3600))
winter_once c k e low first second = (
  winter_shows c k e low second,
  λ other shows. elim (central_at c k other e low shows) [
    | inl summer ↦ absurd (not_both _ summer.1 first)
    | inr winter ↦ winter.0
  ],
)

-- summer time begins between them: neither shows the time
pub gap_outcome : (c : CivilTime) (k : ℕ) → pos k ≡ civil_second c → 7200 ≤ k → is_summer (k - 7200) ≡ false → is_summer (k - 3600) ≡ true
    → (t : ℤ) → ¬ (Shows central c t)
gap_outcome c k e low first second t shows =
    elim (central_at c k t e low shows) [
      | inl summer ↦ not_both _ summer.1 first
      | inr winter ↦ not_both _ second winter.1
    ]

-- summer time ends between them: both do
pub fold_outcome : (c : CivilTime) (k : ℕ) → pos k ≡ civil_second c → 7200 ≤ k → is_summer (k - 7200) ≡ true → is_summer (k - 3600) ≡ false
    → (t : ℤ) × (later : ℤ) × Shows central c t × Shows central c later × (t ≢ later)
fold_outcome c k e low first second =
    (pos (k - 7200), pos (k - 3600), summer_shows c k e low first, winter_shows c k e low second, λ same. omega (arith, ints, same))

-- the outcome of what a text tells is the text's, once the text is in its form
pub stamp_outcome : (text : List ℕ) (c : CivilTime) (mark ahead : ℕ) (r : Result ℕ StampFault)
    → IsStampText text c mark → IsSeasonMark mark ahead → IsCivilOutcome (always ahead) c r → IsStampOutcome text r
stamp_outcome text c mark ahead (Ok t) told season out = (c, mark, ahead, told, season, out)
stamp_outcome text c mark ahead (Err Form) told season out = absurd out
stamp_outcome text c mark ahead (Err Mark) told season out = absurd out
stamp_outcome text c mark ahead (Err NoSuchDate) told season out = (c, mark, ahead, told, season, out)
stamp_outcome text c mark ahead (Err NoSuchTime) told season out = (c, mark, ahead, told, season, out)
stamp_outcome text c mark ahead (Err Range) told season out = (c, mark, ahead, told, season, out)
stamp_outcome text c mark ahead (Err Gap) told season out = (c, mark, ahead, told, season, out)
stamp_outcome text c mark ahead (Err Fold) told season out = (c, mark, ahead, told, season, out)

pub readout_outcome : (date time : List ℕ) (clock : Clock) (c : CivilTime) (ahead : ℤ → ℕ) (r : Result ℕ StampFault)
    → AreReadoutTexts date time c → IsReadoutClock clock ahead → IsCivilOutcome ahead c r → IsReadoutOutcome date time clock r
readout_outcome date time clock c ahead (Ok t) told tells out = (c, ahead, told, tells, out)
readout_outcome date time clock c ahead (Err Form) told tells out = absurd out
readout_outcome date time clock c ahead (Err Mark) told tells out = absurd out
readout_outcome date time clock c ahead (Err NoSuchDate) told tells out = (c, ahead, told, tells, out)
readout_outcome date time clock c ahead (Err NoSuchTime) told tells out = (c, ahead, told, tells, out)
readout_outcome date time clock c ahead (Err Range) told tells out = (c, ahead, told, tells, out)
readout_outcome date time clock c ahead (Err Gap) told tells out = (c, ahead, told, tells, out)
readout_outcome date time clock c ahead (Err Fold) told tells out = (c, ahead, told, tells, out)
