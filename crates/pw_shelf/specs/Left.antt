-- What a crash may leave, before and after a call.
-- (Definitions of this project.)
use Rattle.std.specs.Prelude.{◌≡◌, ◌⊎◌}
use Rattle.pw_model.specs.Shelf.{ShelfContent}

-- what could be left before
abbrev pub LeavesNoMore : (ShelfContent → Type 0) → (ShelfContent → Type 0) → Type 0
LeavesNoMore old new = (c : ShelfContent) → new c → old c

-- what could be left before, or this content
abbrev pub LeavesNoMoreOr : ShelfContent → (ShelfContent → Type 0) → (ShelfContent → Type 0) → Type 0
LeavesNoMoreOr d old new = (c : ShelfContent) → new c → old c ⊎ (c ≡ d)

-- this content alone
abbrev pub LeavesOnly : ShelfContent → (ShelfContent → Type 0) → Type 0
LeavesOnly d new = (c : ShelfContent) → new c → c ≡ d
