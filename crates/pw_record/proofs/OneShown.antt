-- Sets show one thing of each register, or are refused for one cause.
use Rattle.std.proofs.Common.{◌≡◌, ℕ, Option, Some, None, List, [], ◌∷◌, ◌++◌, Result, Ok, Err, refl, sym, ap, subst, ◌∙◌, inl, inr, ◌⊎◌, ⊎_elim}
use Rattle.pw_obis.specs.declared.reference.Register.{Register}
use Rattle.pw_obis.specs.declared.value.ValueFault.{ValueFault}
use Rattle.pw_obis.specs.Line.{SetText}
use Rattle.pw_tariff.specs.Office.{OfficeFile}
use Rattle.pw_model.specs.Counting.{Member}
use Rattle.pw_record.specs.declared.fault.Cause.{Cause}
use Rattle.pw_record.specs.declared.fault.Cause.TheVariants.{Value, RegisterTwice}
use Rattle.pw_record.specs.Shown.{Measures, ShowOne, IsShown, AreShown, IsWrongSet, HasWrongSet}
use Rattle.pw_record.proofs.Measuring.{one-measure}
use Rattle.pw_record.proofs.OneCut.{cuts}

-- ---- what is shown of a register
abbrev shows : ℕ → Result ℕ ValueFault
shows wh = Ok wh

abbrev faulty : ValueFault → Result ℕ ValueFault
faulty fault = Err fault

same-ok : (v w : ℕ) → shows v ≡ shows w → v ≡ w
same-ok v w e = cc

same-err : (f g : ValueFault) → faulty f ≡ faulty g → f ≡ g
same-err f g e = cc

ok-or-err : (w : ℕ) (f : ValueFault) → shows w ≡ faulty f → ⊥
ok-or-err w f e = cc

one-shown-of : (file : OfficeFile) (m : ℕ) (sets : List SetText) (r : Register) (a b : Option ℕ) → IsShown file m sets r a → IsShown file m sets r b → a ≡ b
one-shown-of file m sets r None None x y = refl
one-shown-of file m sets r None (Some w) x y = absurd (x y.set (Ok w) y.member y.measures)
one-shown-of file m sets r (Some v) None x y = absurd (y x.set (Ok v) x.member x.measures)
one-shown-of file m sets r (Some v) (Some w) x y = ap Some (same-ok v w (y.only x.set (Ok v) x.member x.measures))

pub one-shown-each : (file : OfficeFile) (m : ℕ) (sets : List SetText) (s t : Register → Option ℕ) → AreShown file m sets s → AreShown file m sets t → s ≡ t
one-shown-each file m sets s t x y = λ i r. one-shown-of file m sets r (s r) (t r) (x r) (y r) i

-- ---- what is wrong with a set, by its cause
abbrev HasWrongValue : OfficeFile → ℕ → SetText → Cause → Type 0
HasWrongValue file m set cause = (fault : ValueFault) × (register : Register) × Measures file m set register (Err fault) × (cause ≡ Value fault)

pub record ShowsOther (file : OfficeFile) (m : ℕ) (shown : Register → Option ℕ) (set : SetText) (cause : Cause) : Type 0 where
  pub register : Register
  pub wh : ℕ
  pub other : ℕ
  pub measures : Measures file m set register (Ok wh)
  pub showed : shown register ≡ Some other
  pub unlike : wh ≡ other → ⊥
  pub cause_is : cause ≡ RegisterTwice

wrong-cases : (file : OfficeFile) (m : ℕ) (shown : Register → Option ℕ) (set : SetText) (cause : Cause) → IsWrongSet file m shown set cause
    → HasWrongValue file m set cause ⊎ ShowsOther file m shown set cause
wrong-cases file m shown set (Value fault) x = inl (fault, x.0, x.1, refl)
wrong-cases file m shown set RegisterTwice x = inr (record {
  register = x.0;
  wh = x.1;
  other = x.2;
  measures = x.3;
  showed = x.4;
  unlike = x.5;
  cause_is = refl;
})
wrong-cases file m shown set _ x = absurd x

-- ---- a wrong set shows nothing
err-shown : (file : OfficeFile) (m : ℕ) (sets : List SetText) (r : Register) (shown : Option ℕ) (set : SetText) (fault : ValueFault) → IsShown file m sets r shown → Member set sets
    → Measures file m set r (Err fault) → ⊥
err-shown file m sets r None set fault x k y = x set (Err fault) k y
err-shown file m sets r (Some w) set fault x k y = ok-or-err w fault (sym (x.only set (Err fault) k y))

two-shown : (file : OfficeFile) (m : ℕ) (sets : List SetText) (r : Register) (shown : Option ℕ) (a b : SetText) (v w : ℕ) → IsShown file m sets r shown → Member a sets → Member b sets
    → Measures file m a r (Ok v) → Measures file m b r (Ok w) → v ≡ w
two-shown file m sets r None a b v w x j k y z = absurd (x a (Ok v) j y)
two-shown file m sets r (Some u) a b v w x j k y z = same-ok v w (x.only a (Ok v) j y ∙ sym (x.only b (Ok w) k z))

member-behind : {X : Type 0} (x : X) (xs ys : List X) → Member x (xs ++ x ∷ ys)
member-behind x [] ys = inl refl
member-behind x (z ∷ zs) ys = inr (member-behind x zs ys)

member-front : {X : Type 0} (x : X) (xs ys : List X) → Member x xs → Member x (xs ++ ys)
member-front x [] ys k = absurd k
member-front x (z ∷ zs) ys k = ⊎_elim (λ (i : x ≡ z). inl i) (λ (n : Member x zs). inr (member-front x zs ys n)) k

pub wrong-or-shown : (file : OfficeFile) (m : ℕ) (sets : List SetText) (shown : Register → Option ℕ) (cause : Cause) → HasWrongSet file m sets cause → AreShown file m sets shown → ⊥
wrong-or-shown file m sets shown cause x y =
    let here : Member x.set sets = subst (λ (l : List SetText). Member x.set l) (sym x.sets_are) (member-behind x.set x.before x.behind) in
    ⊎_elim
    (λ (v : HasWrongValue file m x.set cause). err-shown file m sets v.1 (shown v.1) x.set v.0 (y v.1) here v.2)
    (λ (o : ShowsOther file m x.shown x.set cause).
    let old : ShowOne file m x.before o.register o.other = subst (IsShown file m x.before o.register) o.showed (x.right o.register) in
    let there : Member old.set sets =
    subst (λ (l : List SetText). Member old.set l) (sym x.sets_are) (member-front old.set x.before (x.set ∷ x.behind) old.member) in
    o.unlike (two-shown file m sets o.register (shown o.register) x.set old.set o.wh o.other (y o.register) here there o.measures old.measures))
    (wrong-cases file m x.shown x.set cause x.wrong)

-- ---- the first wrong set has one cause
one-wrong : (file : OfficeFile) (m : ℕ) (s t : Register → Option ℕ) (set : SetText) (c d : Cause) → HasWrongValue file m set c ⊎ ShowsOther file m s set c
    → HasWrongValue file m set d ⊎ ShowsOther file m t set d → c ≡ d
one-wrong file m s t set c d (inl x) (inl y) =
    x.3 ∙ ap Value (same-err x.0 y.0 (one-measure file m set x.1 y.1 (Err x.0) (Err y.0) x.2 y.2).1) ∙ sym y.3
one-wrong file m s t set c d (inl x) (inr y) =
    absurd (ok-or-err y.wh x.0 (sym (one-measure file m set x.1 y.register (Err x.0) (Ok y.wh) x.2 y.measures).1))
one-wrong file m s t set c d (inr x) (inl y) =
    absurd (ok-or-err x.wh y.0 (one-measure file m set x.register y.1 (Ok x.wh) (Err y.0) x.measures y.2).1)
one-wrong file m s t set c d (inr x) (inr y) = x.cause_is ∙ sym y.cause_is

wrong-before : (file : OfficeFile) (m : ℕ) (sets before : List SetText) (shown : Register → Option ℕ) (c : Cause) (x : HasWrongSet file m sets c)
    → (mid : List SetText) × (before ≡ x.before ++ x.set ∷ mid) → AreShown file m before shown → ⊥
wrong-before file m sets before shown c x p y =
    wrong-or-shown file m before shown c
    (record { before = x.before; set = x.set; behind = p.0; shown = x.shown; sets_are = p.1; right = x.right; wrong = x.wrong })
    y

pub one-wrong-cause : (file : OfficeFile) (m : ℕ) (sets : List SetText) (c d : Cause) → HasWrongSet file m sets c → HasWrongSet file m sets d → c ≡ d
one-wrong-cause file m sets c d x y = ⊎_elim
    (λ (p : (x.before ≡ y.before) × (x.set ≡ y.set)).
    let w : IsWrongSet file m x.shown y.set c = subst (λ (k : SetText). IsWrongSet file m x.shown k c) p.1 x.wrong in
    one-wrong file m x.shown y.shown y.set c d (wrong-cases file m x.shown y.set c w) (wrong-cases file m y.shown y.set d y.wrong))
    (λ q. ⊎_elim
    (λ (p : (mid : List SetText) × (y.before ≡ x.before ++ x.set ∷ mid)). absurd (wrong-before file m sets y.before y.shown c x p y.right))
    (λ (p : (mid : List SetText) × (x.before ≡ y.before ++ y.set ∷ mid)). absurd (wrong-before file m sets x.before x.shown d y p x.right))
    q)
    (cuts x.before y.before x.set y.set x.behind y.behind (sym x.sets_are ∙ y.sets_are))
