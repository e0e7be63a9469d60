-- A set without a code that is read prints nothing.
use Rattle.std.proofs.Common.{◌≡◌, ℕ, List, [], ◌++◌, Some, None, Ok, refl, sym, subst, inr}
use Rattle.std.proofs.lemmas.List.{append-nil}
use Rattle.pw_frame.specs.declared.frame.Kind.{Kind}
use Rattle.pw_obis.specs.declared.data_set.Set.{Set}
use Rattle.pw_obis.specs.declared.reference.Code.{Code}
use Rattle.pw_obis.specs.declared.reference.Register.{Register}
use Rattle.pw_obis.specs.Address.{IsCodeOf}
use Rattle.pw_obis.specs.References.{IsCodeOfRegister}
use Rattle.pw_obis.proofs.OneCode.{one_code}
use Rattle.pw_read.specs.Lines.{IsTextName, SetShows, Unread}
use Rattle.pw_obis.specs.inner.Given.{set_text}

-- nothing is written
abbrev Nothing : Kind → Set → List ℕ → Type 0
Nothing kind set text = (line : List ℕ) × SetShows kind (set_text set) (Ok line) × (text ≡ text ++ line)

unread : (kind : Kind) (set : Set) (text : List ℕ) → Unread kind (set_text set) [] → Nothing kind set text
unread kind set text x = ([], inr (inr x), sym (append-nil text))

pub no_code : (kind : Kind) (set : Set) (text : List ℕ) → IsCodeOf set.address.now set.code → set.code ≡ None → Nothing kind set text
no_code kind set text h e =
    let none : IsCodeOf set.address.now None = subst (IsCodeOf set.address.now) e h in
    unread kind set text (record { no_name = λ code name x n. none code x; no_register = λ code register x r. none code x; line_is = refl })

pub no_meaning : (kind : Kind) (set : Set) (code : Code) (text : List ℕ) → IsCodeOf set.address.now set.code → set.code ≡ Some code
    → ((name : List ℕ) → IsTextName kind code name → ⊥) → ((register : Register) → IsCodeOfRegister register code → ⊥) → Nothing kind set text
no_meaning kind set code text h e no_name no_register =
    let some : IsCodeOf set.address.now (Some code) = subst (IsCodeOf set.address.now) e h in
    unread kind set text (record {
      no_name = λ other name x n. no_name name (subst (λ (o : Code). IsTextName kind o name) (one_code set.address.now other code x some) n);
      no_register = λ other register x r. no_register register (subst (IsCodeOfRegister register) (one_code set.address.now other code x some) r);
      line_is = refl;
    })
