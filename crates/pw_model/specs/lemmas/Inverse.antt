-- A reference gives its fields back. The model of `Reference` names it.
use Rattle.std.specs.Prelude.{◌≡◌, length, take}
use Rattle.std.proofs.Common.{sym}
use Rattle.pw_model.specs.References.{IsReference, padded}
use Rattle.pw_model.specs.declared.reference.Reference.TheInside.{Inside}

abbrev inside : Inside → Inside
inside a = record { text = padded (take a.size a.text); size = length (take a.size a.text) }

pub inverse-padded : (a : Inside) → IsReference (take a.size a.text) × (a.size ≡ length (take a.size a.text)) × (a.text ≡ padded (take a.size a.text)) → inside a ≡ a
inverse-padded a h = λ i. record { text = sym h.2 i; size = sym h.1 i }
