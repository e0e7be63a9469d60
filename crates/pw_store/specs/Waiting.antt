-- Points that wait to be written: what a store holds while they do.
-- (Definitions of this project.)
use Rattle.std.specs.Prelude.{◌≡◌, ℕ, Bool, false, Option, Some, List, [], ◌∷◌, length}
use Rattle.pw_obis.specs.declared.reference.Register.{Register}
use Rattle.pw_model.specs.Shelf.{ShelfContent}
use Rattle.pw_shelf.specs.Changes.{points_with}
use Rattle.pw_store.specs.declared.waiting.WaitingPoint.{WaitingPoint}

-- what is told of each point
abbrev pub Points : Type 0
Points = ℕ → Register → ℕ → Option ℕ

-- with one that waits, in place of what is told at its key
abbrev pub with_one : Points → WaitingPoint → Points
with_one points p = points_with points p.meter.0 p.register p.instant (Some p.wh)

-- with those that wait, one behind another
abbrev pub points_over : List WaitingPoint → Points → Points
points_over [] points = points
points_over (p ∷ waiting) points = points_over waiting (with_one points p)

-- a content with them
abbrev pub with_waiting : List WaitingPoint → ShelfContent → ShelfContent
with_waiting waiting c = record c { point = points_over waiting c.point }

-- outside an upload none waits
abbrev pub NoneWaits : Bool → List WaitingPoint → Type 0
NoneWaits begun waiting = begun ≡ false → length waiting ≡ 0
