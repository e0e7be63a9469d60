-- Changes that a word says.
use Rattle.std.proofs.Common.{take, ℕ, ◌+◌, ◌<◌, List, length, get_or}
use Rattle.pw_model.proofs.Places.{at-some, taken-each}
use Rattle.pw_moving.specs.declared.change.Change.{Change}
use Rattle.pw_moving.specs.declared.change.Respelling.{Respelling}
use Rattle.pw_moving.specs.Renaming.{Offices}
use Rattle.pw_moving.specs.Changes.{AreChanges}
use Rattle.pw_moving.specs.Adopting.{IsMet, IsSaid}
use Rattle.pw_moving.specs.inner.Comparing.{AreUnsaid}
use Rattle.pw_moving.proofs.Weekly.{change-there}

-- a change of the list is what the word says
pub met : (word : Respelling) (o : Offices) (changes : List Change) (i : ℕ) (d : Change) → AreChanges o changes →
    i < length changes → IsSaid word o (get_or changes i d) → IsMet o word
met word o changes i d are l said = (get_or changes i d, change-there o changes i d are l, said)

-- one more of them isn't
pub unsaid-more : (word : Respelling) (o : Offices) (changes : List Change) (i : ℕ) (d : Change) → i < length changes →
    AreUnsaid word o (take i changes) → (IsSaid word o (get_or changes i d) → ⊥) →
    AreUnsaid word o (take (i + 1) changes)
unsaid-more word o changes i d l h n =
    taken-each (λ c. IsSaid word o c → ⊥) changes i (get_or changes i d) (at-some changes i d l) h n

-- none is
pub unmet : (word : Respelling) (o : Offices) (changes : List Change) → AreChanges o changes → AreUnsaid word o changes →
    IsMet o word → ⊥
unmet word o changes are h m = h m.0 ((are.members m.0).1 m.1) m.2
