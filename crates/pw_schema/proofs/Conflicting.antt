-- Texts in some order speak of a conflict where those of the file do.
use Rattle.std.proofs.Common.{Vec, List, Ok, Err, Result, IfOk}
use Rattle.std.specs.List.{AllByRecursion}
use Rattle.std.proofs.lemmas.List.Sorted.{IsPermutation-sym}
use Rattle.sqlite.specs.Order.{Row}
use Rattle.sqlite.specs.Tree.{Trees}
use Rattle.sqlite_trees.proofs.ListLemmas.{all-permutation}
use Rattle.pw_schema.specs.Conflicts.{AreWithoutConflict, IsWithoutConflict}
use Rattle.pw_schema.specs.inner.Listed.{ShowsTexts}

pub from_shown : (db : Trees) (rows : List Row) → ShowsTexts db rows → AllByRecursion IsWithoutConflict rows → AreWithoutConflict db
from_shown db rows shows all = all-permutation IsWithoutConflict rows _ (IsPermutation-sym _ rows shows) all

pub to_shown : (db : Trees) (rows : List Row) → ShowsTexts db rows → AreWithoutConflict db → AllByRecursion IsWithoutConflict rows
to_shown db rows shows all = all-permutation IsWithoutConflict _ rows shows all

pub if_ok : {E Z : Type 0} (P Q : List Row → Type 0) → ((rows : List Row) → P rows → Q rows) → (r : Result (Vec Row Z) E) → IfOk r (λ rows. P rows.items) → IfOk r (λ rows. Q rows.items)
if_ok P Q f (Ok rows) h = f rows.items h
if_ok P Q f (Err e) h = tt
