-- What the sets of a block tell, one set more.
use Rattle.std.proofs.Common.{◌≡◌, ℕ, List, ◌∷◌, ◌++◌, Some, None, All, sym, subst}
use Rattle.pw_obis.specs.declared.data_set.Set.{Set}
use Rattle.pw_obis.specs.declared.reference.Code.{Code}
use Rattle.pw_obis.specs.Address.{IsCodeOf}
use Rattle.pw_obis.specs.Answers.{IsGiven}
use Rattle.pw_obis.specs.FirstValue.{IsFirstValue}
use Rattle.pw_obis.specs.Line.{SetText}
use Rattle.pw_obis.proofs.OneCode.{one_code}
use Rattle.pw_obis.specs.declared.meaning.Meaning.{Meaning}
use Rattle.pw_obis.specs.References.{IsCodeOfMeaning}
use Rattle.pw_read.specs.Instant.{TellsNo, FirstTold}

-- a set that is given and has no code tells nothing
pub no_code_tells : (meaning : Meaning) (first : SetText) (set : Set) → IsGiven first set → set.code ≡ None → TellsNo meaning first
no_code_tells meaning first set g e = λ code x m.
    let none : IsCodeOf set.address.now None = subst (IsCodeOf set.address.now) e g.code_is in
    none code (subst (λ (a : List ℕ). IsCodeOf a (Some code)) g.address_is x)

-- nor one whose code means something else
pub other_code_tells : (meaning : Meaning) (first : SetText) (set : Set) (code : Code) → IsGiven first set → set.code ≡ Some code → (IsCodeOfMeaning meaning code → ⊥) → TellsNo meaning first
other_code_tells meaning first set code g e n = λ other x m.
    let some : IsCodeOf set.address.now (Some code) = subst (IsCodeOf set.address.now) e g.code_is in
    let same : other ≡ code = one_code set.address.now other code (subst (λ (a : List ℕ). IsCodeOf a (Some other)) g.address_is x) some in
    n (subst (IsCodeOfMeaning meaning) same m)

-- the first set that tells it
pub first_is_told : (meaning : Meaning) (all done behind : List SetText) (first : SetText) (set : Set) (code : Code) (value : List ℕ)
    → all ≡ done ++ first ∷ behind → All (TellsNo meaning) done → IsGiven first set → set.code ≡ Some code → IsCodeOfMeaning meaning code
    → IsFirstValue set.values.now value → FirstTold meaning all value
first_is_told meaning all done behind first set code value e n g c m v = record {
  before = done;
  set = first;
  behind = behind;
  code = code;
  sets_are = e;
  none = n;
  code_is = subst (λ (a : List ℕ). IsCodeOf a (Some code)) (sym g.address_is) (subst (IsCodeOf set.address.now) c g.code_is);
  means = m;
  value_is = subst (λ (vs : List ℕ). IsFirstValue vs value) (sym g.values_are) v;
}
