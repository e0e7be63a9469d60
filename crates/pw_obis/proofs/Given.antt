-- A set that is given, among the sets of its block.
use Rattle.std.proofs.Common.{◌≡◌, ℕ, List, [], ◌∷◌, ◌++◌, sym, ap, ◌∙◌, append_assoc}
use Rattle.pw_obis.specs.declared.data_set.Set.{Set}
use Rattle.pw_obis.specs.Answers.{IsGiven}
use Rattle.pw_obis.specs.inner.Given.{set_text}
use Rattle.pw_obis.specs.Line.{SetText}

abbrev set_of : List ℕ → List ℕ → SetText
set_of address values = record { address = address; values = values }

given_text : (first : SetText) (set : Set) → IsGiven first set → first ≡ set_text set
given_text first set x = ap (λ a. set_of a first.values) x.address_is ∙ ap (set_of set.address.now) x.values_are

-- it stands behind those that are done
pub given_here : (all done left behind : List SetText) (first : SetText) (set : Set) → IsGiven first set → all ≡ done ++ left → left ≡ first ∷ behind → all ≡ done ++ set_text set ∷ behind
given_here all done left behind first set g e l =
    e ∙ ap (λ (x : List SetText). done ++ x) l ∙ ap (λ (x : SetText). done ++ x ∷ behind) (given_text first set g)

-- and is done with them
pub given_behind : (all done left behind : List SetText) (first : SetText) (set : Set) → IsGiven first set → all ≡ done ++ left → left ≡ first ∷ behind → all ≡ (done ++ set_text set ∷ []) ++ behind
given_behind all done left behind first set g e l = given_here all done left behind first set g e l ∙ sym (append_assoc done (set_text set ∷ []) behind)
