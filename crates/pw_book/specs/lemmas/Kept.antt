-- A fact that every book keeps has one proof at most. The facts that each book keeps name it.
use Rattle.std.specs.Prelude.{Some, None, List}
use Rattle.std.proofs.Props.{props}
use mathlib.Core.HLevel.{Π_prop, ⊥_prop}
use Rattle.pw_tariff.specs.Office.{OfficeRules}
use Rattle.pw_model.specs.declared.records.Key.{Key}
use Rattle.pw_model.specs.declared.records.Key.TheVariants as key
use Rattle.pw_model.specs.declared.records.Named.TheVariants as named
use Rattle.pw_model.specs.declared.records.Content.{Content}
use Rattle.pw_model.specs.declared.records.Content.TheVariants as content
use Rattle.pw_model.specs.declared.records.Entry.{Entry}
use Rattle.pw_model.specs.Office.{AllOfOffice, IsOf}
use Rattle.pw_model.specs.Shelf.{IsTrueContent, ShelfContent}

IsOf-prop : (office : OfficeRules) (k : Key) (c : Content) → IsProp (IsOf office k c)
IsOf-prop office (key.Reading m r t) (content.Reading w) = Prim.hlevel props
IsOf-prop office (key.Reading m r t) (content.Assignment o) = ⊥_prop
IsOf-prop office (key.Reading m r t) (content.TopUp a c u) = ⊥_prop
IsOf-prop office (key.Reading m r t) content.Withdrawal = ⊥_prop
IsOf-prop office (key.Assignment m t) (content.Reading w) = ⊥_prop
IsOf-prop office (key.Assignment m t) (content.Assignment None) = Prim.hlevel props
IsOf-prop office (key.Assignment m t) (content.Assignment (Some a)) = Prim.hlevel props
IsOf-prop office (key.Assignment m t) (content.TopUp a c u) = ⊥_prop
IsOf-prop office (key.Assignment m t) content.Withdrawal = ⊥_prop
IsOf-prop office (key.TopUp r) (content.Reading w) = ⊥_prop
IsOf-prop office (key.TopUp r) (content.Assignment o) = ⊥_prop
IsOf-prop office (key.TopUp r) (content.TopUp a c u) = Prim.hlevel props
IsOf-prop office (key.TopUp r) content.Withdrawal = ⊥_prop
IsOf-prop office (key.Withdrawal n) (content.Reading w) = ⊥_prop
IsOf-prop office (key.Withdrawal n) (content.Assignment o) = ⊥_prop
IsOf-prop office (key.Withdrawal n) (content.TopUp a c u) = ⊥_prop
IsOf-prop office (key.Withdrawal (named.Reading m r t w)) content.Withdrawal = Prim.hlevel props
IsOf-prop office (key.Withdrawal (named.Assignment m t None)) content.Withdrawal = Prim.hlevel props
IsOf-prop office (key.Withdrawal (named.Assignment m t (Some a))) content.Withdrawal = Prim.hlevel props
IsOf-prop office (key.Withdrawal (named.TopUp r a c t)) content.Withdrawal = Prim.hlevel props

pub AllOfOffice-prop : (office : OfficeRules) (records : List Entry) → IsProp (AllOfOffice office records)
AllOfOffice-prop office records = Π_prop λ e. Π_prop λ m. IsOf-prop office e.key e.content

pub IsTrueContent-prop : (office : OfficeRules) (c : ShelfContent) → IsProp (IsTrueContent office c)
IsTrueContent-prop office c = Prim.hlevel props
