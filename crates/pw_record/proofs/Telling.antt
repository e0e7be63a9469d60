-- What the sets of a block tell with one set more.
use Rattle.std.proofs.Common.{◌≡◌, ℕ, List, [], ◌∷◌, ◌++◌, Some, None, refl, sym, ap, subst, ◌∙◌, inl, inr, ◌⊎◌, ⊎_elim}
use Rattle.pw_obis.specs.declared.data_set.Set.{Set}
use Rattle.pw_obis.specs.declared.reference.Code.{Code}
use Rattle.pw_obis.specs.Address.{IsCodeOf}
use Rattle.pw_obis.specs.FirstValue.{IsFirstValue}
use Rattle.pw_obis.specs.Line.{SetText}
use Rattle.pw_obis.proofs.OneCode.{one_code}
use Rattle.pw_obis.proofs.FirstMark.{one_first_or_none}
use Rattle.pw_model.specs.Counting.{Member}
use Rattle.pw_obis.specs.declared.meaning.Meaning.{Meaning}
use Rattle.pw_record.specs.declared.meanings.Told.{Told}
use Rattle.pw_record.specs.declared.meanings.Told.TheVariants.{Nothing, One, Unlike}
use Rattle.pw_obis.specs.References.{IsCodeOfMeaning}
use Rattle.pw_record.specs.Told.{read_as, Tells, IsTold, TellNothing, TellOne, TellUnlike}
use Rattle.pw_record.specs.inner.Told.{AreTelling}
use Rattle.pw_obis.specs.inner.Given.{set_text}
use Rattle.pw_record.proofs.Members.{member-left, member-last, member-split}

tells-one : (meaning : Meaning) (set : SetText) (a b : List ℕ) → Tells meaning set a → Tells meaning set b → a ≡ b
tells-one meaning set a b x y = x.value_is ∙ ap (read_as meaning) (one_first_or_none set.values x.text y.text x.text_is y.text_is) ∙ sym y.value_is

-- the set tells nothing
abbrev pub Silent : Meaning → SetText → Type 0
Silent meaning set = (value : List ℕ) → Tells meaning set value → ⊥

pub no-code : (meaning : Meaning) (set : Set) → IsCodeOf set.address.now set.code → set.code ≡ None → Silent meaning (set_text set)
no-code meaning set h e value t = let none : IsCodeOf set.address.now None = subst (IsCodeOf set.address.now) e h in none t.code t.code_is

pub other-code : (meaning : Meaning) (set : Set) (code : Code) → IsCodeOf set.address.now set.code → set.code ≡ Some code → (IsCodeOfMeaning meaning code → ⊥) → Silent meaning (set_text set)
other-code meaning set code h e n value t =
    let some : IsCodeOf set.address.now (Some code) = subst (IsCodeOf set.address.now) e h in
    n (subst (IsCodeOfMeaning meaning) (one_code set.address.now t.code code t.code_is some) t.means)

told-left : (meaning : Meaning) (sets : List SetText) (set : SetText) (value : List ℕ) → IsTold meaning sets value → IsTold meaning (sets ++ set ∷ []) value
told-left meaning sets set value x = (x.0, member-left x.0 sets (set ∷ []) x.1, x.2)

told-last : (meaning : Meaning) (sets : List SetText) (set : SetText) (value : List ℕ) → Tells meaning set value → IsTold meaning (sets ++ set ∷ []) value
told-last meaning sets set value x = (set, member-last set sets, x)

told-split : (meaning : Meaning) (sets : List SetText) (set : SetText) (value : List ℕ) → IsTold meaning (sets ++ set ∷ []) value → IsTold meaning sets value ⊎ Tells meaning set value
told-split meaning sets set value x = ⊎_elim
    (λ (m : Member x.0 sets). inl (x.0, m, x.2))
    (λ (i : x.0 ≡ set). inr (subst (λ (s : SetText). Tells meaning s value) i x.2))
    (member-split x.0 set sets x.1)

nothing-skip : (meaning : Meaning) (sets : List SetText) (set : SetText) → Silent meaning set → TellNothing meaning sets → TellNothing meaning (sets ++ set ∷ [])
nothing-skip meaning sets set s n value x = ⊎_elim (λ y. n value y) (λ y. s value y) (told-split meaning sets set value x)

one-skip : (meaning : Meaning) (sets : List SetText) (set : SetText) (value : List ℕ) → Silent meaning set → TellOne meaning sets value → TellOne meaning (sets ++ set ∷ []) value
one-skip meaning sets set value s o = record {
  told = told-left meaning sets set value o.told;
  only = λ other x. ⊎_elim (λ y. o.only other y) (λ y. absurd (s other y)) (told-split meaning sets set other x);
}

unlike-more : (meaning : Meaning) (sets : List SetText) (set : SetText) → TellUnlike meaning sets → TellUnlike meaning (sets ++ set ∷ [])
unlike-more meaning sets set u = record {
  one = u.one;
  other = u.other;
  one_told = told-left meaning sets set u.one u.one_told;
  other_told = told-left meaning sets set u.other u.other_told;
  unlike = u.unlike;
}

pub skip : (meaning : Meaning) (sets : List SetText) (set : SetText) (told : Told) → Silent meaning set → AreTelling meaning sets told → AreTelling meaning (sets ++ set ∷ []) told
skip meaning sets set Nothing s x = nothing-skip meaning sets set s x
skip meaning sets set (One text) s x = one-skip meaning sets set (read_as meaning text.now) s x
skip meaning sets set Unlike s x = unlike-more meaning sets set x

tells-it : (meaning : Meaning) (set : Set) (code : Code) (text : List ℕ) → IsCodeOf set.address.now set.code → set.code ≡ Some code → IsCodeOfMeaning meaning code
    → IsFirstValue set.values.now text → Tells meaning (set_text set) (read_as meaning text)
tells-it meaning set code text h e m v = record {
  code = code;
  text = text;
  code_is = subst (IsCodeOf set.address.now) e h;
  means = m;
  text_is = v;
  value_is = refl;
}

-- the set tells, where none did
pub first-told : (meaning : Meaning) (sets : List SetText) (set : Set) (code : Code) (text : List ℕ) → IsCodeOf set.address.now set.code → set.code ≡ Some code → IsCodeOfMeaning meaning code
    → IsFirstValue set.values.now text → TellNothing meaning sets → TellOne meaning (sets ++ set_text set ∷ []) (read_as meaning text)
first-told meaning sets set code text h e m v n =
    let t : Tells meaning (set_text set) (read_as meaning text) = tells-it meaning set code text h e m v in
    record {
      told = told-last meaning sets (set_text set) (read_as meaning text) t;
      only = λ other x. ⊎_elim (λ y. absurd (n other y)) (λ y. tells-one meaning (set_text set) other (read_as meaning text) y t) (told-split meaning sets (set_text set) other x);
    }

-- it tells what the others did
pub told-again : (meaning : Meaning) (sets : List SetText) (set : Set) (code : Code) (text : List ℕ) (value : List ℕ) → IsCodeOf set.address.now set.code → set.code ≡ Some code → IsCodeOfMeaning meaning code
    → IsFirstValue set.values.now text → read_as meaning text ≡ value → TellOne meaning sets value → TellOne meaning (sets ++ set_text set ∷ []) value
told-again meaning sets set code text value h e m v i o =
    let t : Tells meaning (set_text set) (read_as meaning text) = tells-it meaning set code text h e m v in
    record {
      told = told-left meaning sets (set_text set) value o.told;
      only = λ other x. ⊎_elim (λ y. o.only other y) (λ y. tells-one meaning (set_text set) other (read_as meaning text) y t ∙ i) (told-split meaning sets (set_text set) other x);
    }

-- it tells another thing
pub told-unlike : (meaning : Meaning) (sets : List SetText) (set : Set) (code : Code) (text : List ℕ) (value : List ℕ) → IsCodeOf set.address.now set.code → set.code ≡ Some code → IsCodeOfMeaning meaning code
    → IsFirstValue set.values.now text → (read_as meaning text ≡ value → ⊥) → TellOne meaning sets value → TellUnlike meaning (sets ++ set_text set ∷ [])
told-unlike meaning sets set code text value h e m v n o = record {
  one = read_as meaning text;
  other = value;
  one_told = told-last meaning sets (set_text set) (read_as meaning text) (tells-it meaning set code text h e m v);
  other_told = told-left meaning sets (set_text set) value o.told;
  unlike = n;
}

pub still-unlike : (meaning : Meaning) (sets : List SetText) (set : Set) → TellUnlike meaning sets → TellUnlike meaning (sets ++ set_text set ∷ [])
still-unlike meaning sets set u = unlike-more meaning sets (set_text set) u

-- what isn't nothing is told
pub something : (meaning : Meaning) (sets : List SetText) (told : Told) → (told ≡ Nothing → ⊥) → AreTelling meaning sets told → (value : List ℕ) × IsTold meaning sets value
something meaning sets Nothing n x = absurd (n refl)
something meaning sets (One text) n x = (read_as meaning text.now, x.told)
something meaning sets Unlike n x = (x.one, x.one_told)
