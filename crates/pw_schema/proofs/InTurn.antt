-- Rows that are read one by one.
use Rattle.std.proofs.Common.{◌≡◌, ◌<◌, ◌+◌, ℕ, List, [], ◌∷◌, ◌++◌, map, length, take, drop, get_or, Option, Some, None, Bool, true, IsTrue, sym, ap, subst, ◌∙◌, IfSome}
use Rattle.std.proofs.lemmas.List.{map-append, take_more, take-append-drop}
use Rattle.std.specs.declared.cmp.Ordering.TheVariants.{Less}
use Rattle.sqlite.specs.Order.{Row}
use Rattle.pw_model.specs.declared.records.Entry.{Entry}
use Rattle.pw_model.specs.Same.{entry_order}
use Rattle.pw_model.specs.Lists.{IsInOrder}
use Rattle.pw_model.proofs.EntryOrder.{entry-total}
use Rattle.pw_schema.specs.declared.kind.RecordKind.{RecordKind}
use Rattle.pw_schema.specs.Judges.{IsLast}
use Rattle.pw_schema.specs.Rows.{told, Tells, ReadsRows}
use Rattle.pw_schema.proofs.Pushed.{all_push, behind_push}

pub read_push : (k : RecordKind) (rows : List Row) (found : List Entry) (last : Option Entry) (row : Row) (e : Entry) → ReadsRows k rows found → IsLast last found → Tells k row → e ≡ told k row → IfSome last (λ l. entry_order l e ≡ Less) → ReadsRows k (rows ++ row ∷ []) (found ++ e ∷ [])
read_push k rows found last row e so is kind one behind = record {
  are = ap (λ xs. xs ++ e ∷ []) so.are ∙ ap (λ x. map (told k) rows ++ x ∷ []) one ∙ sym (map-append (told k) rows (row ∷ []));
  kinds = all_push (Tells k) row rows so.kinds kind;
  rising = behind_push entry_order entry-total.trans last found e so.rising is behind;
}

pub turned : {X : Type 0} (xs : List X) (i : ℕ) (x : X) → i < length xs → x ≡ get_or xs i x → take (i + 1) xs ≡ take i xs ++ x ∷ []
turned xs i x lt is = take_more xs i x lt ∙ ap (λ y. take i xs ++ y ∷ []) (sym is)

pub behind_if : {T : Type 0} (b : Bool) → (IsTrue b → T) → b ≡ true → T
behind_if b h e = h e

next_behind : (front : List Entry) (l e : Entry) (tail : List Entry) → IsInOrder entry_order (((front ++ l ∷ []) ++ e ∷ []) ++ tail) → entry_order l e ≡ Less
next_behind [] l e tail r = r.0.0
next_behind (x ∷ front) l e tail r = next_behind front l e tail r.1

-- of rows in order each tells what stands behind the last of those read before
pub behind_last : (k : RecordKind) (rows : List Row) (i : ℕ) (row : Row) (found : List Entry) (last : Option Entry) → i < length rows → row ≡ get_or rows i row → ReadsRows k (take i rows) found → IsLast last found → IsInOrder entry_order (map (told k) rows) → IfSome last (λ l. entry_order l (told k row) ≡ Less)
behind_last k rows i row found None lt is reads ends rising = tt
behind_last k rows i row found (Some l) lt is reads ends rising =
    let rest : List Row = drop (i + 1) rows in
    let front : List Entry = ends.0 in
    let read : map (told k) (take (i + 1) rows) ≡ (front ++ l ∷ []) ++ told k row ∷ [] = ap (map (told k)) (turned rows i row lt is) ∙ map-append (told k) (take i rows) (row ∷ []) ∙ ap (λ xs. xs ++ told k row ∷ []) (sym reads.are ∙ ends.1) in
    let all : map (told k) rows ≡ ((front ++ l ∷ []) ++ told k row ∷ []) ++ map (told k) rest = ap (map (told k)) (sym (take-append-drop (i + 1) rows)) ∙ map-append (told k) (take (i + 1) rows) rest ∙ ap (λ xs. xs ++ map (told k) rest) read in
    next_behind front l (told k row) (map (told k) rest) (subst (IsInOrder entry_order) all rising)
