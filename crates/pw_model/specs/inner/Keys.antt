-- When a key that is compared has a reference. It serves the proofs of `src/compare.rt`.
use Rattle.pw_model.specs.declared.records.Key.{Key}
use Rattle.pw_model.specs.declared.records.Key.TheVariants as key
use Rattle.pw_model.specs.declared.records.Named.TheVariants as named
use Rattle.pw_model.specs.References.{IsReference}

-- where the key is of a top-up, or of the withdrawal of one, its reference is one
abbrev pub HasReference : Key → Type 0
HasReference (key.TopUp r) = IsReference r
HasReference (key.Withdrawal (named.TopUp r a c t)) = IsReference r
HasReference _ = Unit {0}
