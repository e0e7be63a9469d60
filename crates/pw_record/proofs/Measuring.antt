-- What sets show of the registers that count, with one set more.
use Rattle.std.proofs.Common.{◌≡◌, ℕ, ◌<◌, ◌≤◌, true, false, List, [], ◌∷◌, ◌++◌, Option, Some, None, Result, Ok, get_or, length, refl, sym, ap, subst, ◌∙◌, inl, inr, ◌⊎◌, ⊎_elim, arith}
use Rattle.std.proofs.lemmas.Bool.{true≢false, cases_lt}
use Rattle.std.proofs.lemmas.Option.{slice_get_read, get_or_from_slice_get}
use Rattle.std.specs.Prelude.{is_some}
use Rattle.pw_obis.specs.declared.data_set.Set.{Set}
use Rattle.pw_obis.specs.declared.reference.Code.{Code}
use Rattle.pw_obis.specs.declared.reference.Register.{Register}
use Rattle.pw_obis.specs.declared.reference.Register.TheVariants.{I0, I1, I2, E0, E1, E2}
use Rattle.pw_obis.specs.declared.value.ValueFault.{ValueFault}
use Rattle.pw_obis.specs.Address.{IsCodeOf}
use Rattle.pw_obis.specs.Line.{SetText}
use Rattle.pw_obis.specs.References.{IsCodeOfRegister, IsRegisterOf}
use Rattle.pw_obis.specs.Value.{IsEnergy}
use Rattle.pw_obis.proofs.OneCode.{one_code}
use Rattle.pw_obis.proofs.FirstMark.{one_first_or_none}
use Rattle.pw_obis.proofs.OneRegister.{one_register}
use Rattle.pw_obis.proofs.OneUnit.{one_answer}
use Rattle.pw_tariff.specs.Office.{OfficeFile, counts_at, register_place}
use Rattle.pw_model.specs.Counting.{Member}
use Rattle.pw_model.proofs.Same.{register-one}
use Rattle.pw_obis.specs.inner.Given.{set_text}
use Rattle.pw_record.specs.Shown.{Measures, ShowOne, IsShown, AreShown}
use Rattle.pw_record.specs.inner.Shown.{IsNoted}
use Rattle.pw_record.specs.inner.Shown.{shown_in}
use Rattle.pw_record.specs.inner.Shown.{MeasuresNothing}
use Rattle.pw_record.proofs.Members.{member-left, member-last, member-split}

one-register : (code : Code) (r q : Register) → IsCodeOfRegister r code → IsCodeOfRegister q code → r ≡ q
one-register code r q x y = let e : Some r ≡ Some q = one_register code (Some r) (Some q) x y in cc

pub one-measure : (file : OfficeFile) (m : ℕ) (set : SetText) (r q : Register) (e f : Result ℕ ValueFault) → Measures file m set r e → Measures file m set q f → (r ≡ q) × (e ≡ f)
one-measure file m set r q e f x y =
    let c : x.code ≡ y.code = one_code set.address x.code y.code x.code_is y.code_is in
    let v : x.value ≡ y.value = one_first_or_none set.values x.value y.value x.value_is y.value_is in (
      one-register y.code r q (subst (IsCodeOfRegister r) c x.register_is) y.register_is,
      one_answer y.value e f (subst (λ (t : List ℕ). IsEnergy t e) v x.energy_is) y.energy_is,
    )

same-or-not : (a b : ℕ) → (a ≡ b) ⊎ (a ≡ b → ⊥)
same-or-not a b = ⊎_elim
    (λ (l : a < b). inr (λ e. omega (arith, l, e)))
    (λ (m : b ≤ a). ⊎_elim (λ (l : b < a). inr (λ e. omega (arith, l, e))) (λ (n : a ≤ b). inl (omega arith)) (cases_lt b a))
    (cases_lt a b)

-- ---- what a set measures
pub no-code : (file : OfficeFile) (m : ℕ) (set : Set) → IsCodeOf set.address.now set.code → set.code ≡ None → MeasuresNothing file m (set_text set)
no-code file m set h e r energy x = let none : IsCodeOf set.address.now None = subst (IsCodeOf set.address.now) e h in none x.code x.code_is

code-is : (file : OfficeFile) (m : ℕ) (set : Set) (code : Code) (r : Register) (energy : Result ℕ ValueFault) → IsCodeOf set.address.now set.code → set.code ≡ Some code
    → Measures file m (set_text set) r energy → IsCodeOfRegister r code
code-is file m set code r energy h e x =
    let some : IsCodeOf set.address.now (Some code) = subst (IsCodeOf set.address.now) e h in
    subst (IsCodeOfRegister r) (one_code set.address.now x.code code x.code_is some) x.register_is

pub no-register : (file : OfficeFile) (m : ℕ) (set : Set) (code : Code) → IsCodeOf set.address.now set.code → set.code ≡ Some code → IsRegisterOf code None → MeasuresNothing file m (set_text set)
no-register file m set code h e n r energy x = n r (code-is file m set code r energy h e x)

pub not-counting : (file : OfficeFile) (m : ℕ) (set : Set) (code : Code) (q : Register) → IsCodeOf set.address.now set.code → set.code ≡ Some code → IsCodeOfRegister q code
    → counts_at file m q ≡ false → MeasuresNothing file m (set_text set)
not-counting file m set code q h e i n r energy x =
    let same : r ≡ q = one-register code r q (code-is file m set code r energy h e x) i in
    true≢false (sym x.counts ∙ ap (counts_at file m) same ∙ n)

-- ---- no set shows nothing
pub none-shown : (file : OfficeFile) (m : ℕ) (row : List (Option ℕ)) → row ≡ None ∷ None ∷ None ∷ None ∷ None ∷ None ∷ [] → AreShown file m [] (shown_in row)
none-shown file m row e r =
    let none : (q : Register) → shown_in (None ∷ None ∷ None ∷ None ∷ None ∷ None ∷ []) q ≡ None = elim [ I0 ↦ refl | I1 ↦ refl | I2 ↦ refl | E0 ↦ refl | E1 ↦ refl | E2 ↦ refl ] in
    let same : shown_in row r ≡ None = ap (λ (xs : List (Option ℕ)). shown_in xs r) e ∙ none r in
    subst (IsShown file m [] r) (sym same) (λ set energy n x. n)

-- ---- one set more
shown-skip : (file : OfficeFile) (m : ℕ) (sets : List SetText) (set : SetText) (r : Register) (shown : Option ℕ)
    → ((energy : Result ℕ ValueFault) → Measures file m set r energy → ⊥) → IsShown file m sets r shown → IsShown file m (sets ++ set ∷ []) r shown
shown-skip file m sets set r None n x = λ other energy i y. ⊎_elim
    (λ (k : Member other sets). x other energy k y)
    (λ (e : other ≡ set). n energy (subst (λ (s : SetText). Measures file m s r energy) e y))
    (member-split other set sets i)
shown-skip file m sets set r (Some wh) n x = record {
  set = x.set;
  member = member-left x.set sets (set ∷ []) x.member;
  measures = x.measures;
  only = λ other energy i y. ⊎_elim
      (λ (k : Member other sets). x.only other energy k y)
      (λ (e : other ≡ set). absurd (n energy (subst (λ (s : SetText). Measures file m s r energy) e y)))
      (member-split other set sets i);
}

pub still-shown : (file : OfficeFile) (m : ℕ) (sets : List SetText) (set : SetText) (shown : Register → Option ℕ) → MeasuresNothing file m set → AreShown file m sets shown
    → AreShown file m (sets ++ set ∷ []) shown
still-shown file m sets set shown n x r = shown-skip file m sets set r (shown r) (n r) (x r)

-- what sets showed of the register before is no other number
was-shown : (file : OfficeFile) (m : ℕ) (sets : List SetText) (r : Register) (wh : ℕ) (shown : Option ℕ) → (shown ≡ None) ⊎ (shown ≡ Some wh) → IsShown file m sets r shown
    → (other : SetText) (energy : Result ℕ ValueFault) → Member other sets → Measures file m other r energy → energy ≡ Ok wh
was-shown file m sets r wh shown (inl n) x other energy k y = let none : IsShown file m sets r None = subst (IsShown file m sets r) n x in absurd (none other energy k y)
was-shown file m sets r wh shown (inr s) x other energy k y = let some : IsShown file m sets r (Some wh) = subst (IsShown file m sets r) s x in some.only other energy k y

show-one : (file : OfficeFile) (m : ℕ) (sets : List SetText) (set : SetText) (r : Register) (wh : ℕ) (shown : Option ℕ) → (shown ≡ None) ⊎ (shown ≡ Some wh) → IsShown file m sets r shown
    → Measures file m set r (Ok wh) → ShowOne file m (sets ++ set ∷ []) r wh
show-one file m sets set r wh shown b x t = record {
  set = set;
  member = member-last set sets;
  measures = t;
  only = λ other energy i y. ⊎_elim
      (λ (k : Member other sets). was-shown file m sets r wh shown b x other energy k y)
      (λ (e : other ≡ set). (one-measure file m set r r energy (Ok wh) (subst (λ (s : SetText). Measures file m s r energy) e y) t).1)
      (member-split other set sets i);
}

pub now-shown : (file : OfficeFile) (m : ℕ) (sets : List SetText) (set : SetText) (old new : List (Option ℕ)) (r : Register) (wh : ℕ) → IsNoted old new r wh
    → Measures file m set r (Ok wh) → AreShown file m sets (shown_in old) → AreShown file m (sets ++ set ∷ []) (shown_in new)
now-shown file m sets set old new r wh n t x q = ⊎_elim
    (λ (e : register_place q ≡ register_place r).
    let same : q ≡ r = register-one q r e in
    let here : shown_in new q ≡ Some wh = ap (shown_in new) same ∙ n.here in
    let one : IsShown file m (sets ++ set ∷ []) r (Some wh) = show-one file m sets set r wh (shown_in old r) n.before (x r) t in
    subst (IsShown file m (sets ++ set ∷ []) q) (sym here) (subst (λ (z : Register). IsShown file m (sets ++ set ∷ []) z (Some wh)) (sym same) one))
    (λ (d : register_place q ≡ register_place r → ⊥).
    let other : q ≡ r → ⊥ = λ e. d (ap register_place e) in
    let kept : IsShown file m (sets ++ set ∷ []) q (shown_in old q) =
    shown-skip file m sets set q (shown_in old q) (λ energy y. other (one-measure file m set q r energy (Ok wh) y t).0) (x q) in
    subst (IsShown file m (sets ++ set ∷ []) q) (sym (n.others q other)) kept)
    (same-or-not (register_place q) (register_place r))

-- ---- a place that shows something
some-is : (o : Option ℕ) → is_some o ≡ true → (wh : ℕ) × (o ≡ Some wh)
some-is None e = absurd (true≢false (sym e))
some-is (Some wh) e = (wh, refl)

pub one-shown : (row : List (Option ℕ)) (place : ℕ) (r : Register) (x : Option ℕ) → place ≡ register_place r → place < length row → x ≡ get_or row place x → is_some x ≡ true
    → (q : Register) × (wh : ℕ) × (shown_in row q ≡ Some wh)
one-shown row place r x p l e s =
    let w : (wh : ℕ) × (x ≡ Some wh) = some-is x s in
    let here : get_or row place None ≡ x = get_or_from_slice_get row place x None (slice_get_read row (length row) place x refl l e) in
    (r, w.0, ap (λ (n : ℕ). get_or row n None) (sym p) ∙ here ∙ w.1)
