-- Rows that a judge takes one by one.
use Rattle.std.proofs.Common.{◌≡◌, List, [], ◌∷◌, ◌++◌, map, Option, Some, None, IfSome, IfNone, refl, sym, subst, ◌∙◌, inl, inr, Equal}
use Rattle.std.specs.List.{AllByRecursion}
use Rattle.std.specs.declared.cmp.Ordering.TheVariants.{Less}
use Rattle.sqlite.specs.Order.{Row}
use Rattle.pw_tariff.specs.Office.{OfficeRules}
use Rattle.pw_model.specs.declared.records.Entry.{Entry}
use Rattle.pw_model.specs.Same.{entry_order}
use Rattle.pw_model.specs.Counting.{Member, EachOnce}
use Rattle.pw_model.proofs.EntryOrder.{entries-tie}
use Rattle.pw_schema.specs.declared.kind.RecordKind.{RecordKind}
use Rattle.pw_schema.specs.Judges.{IsLast}
use Rattle.pw_schema.specs.Judging.{AreRecords}
use Rattle.pw_schema.specs.Rows.{told, ReadsRows}

pub all_mid : {X : Type 0} (P : X → Type 0) (x : X) (xs ys : List X) → AllByRecursion P (xs ++ x ∷ ys) → P x
all_mid P x [] ys all = all.0
all_mid P x (y ∷ xs) ys all = all_mid P x xs ys all.1

member_mid : {X Y : Type 0} (f : X → Y) (x : X) (xs ys : List X) → Member (f x) (map f (xs ++ x ∷ ys))
member_mid f x [] ys = inl refl
member_mid f x (y ∷ xs) ys = inr (member_mid f x xs ys)

-- what stands before an item of a list without doubles isn't the item
pub once_mid : {X Y : Type 0} (f : X → Y) (x : X) (xs ys : List X) → EachOnce (map f (xs ++ x ∷ ys)) → Member (f x) (map f xs) → ⊥
once_mid f x [] ys once m = m
once_mid f x (y ∷ xs) ys once (inl e) = once.0 (subst (λ z. Member z (map f (xs ++ x ∷ ys))) e (member_mid f x xs ys))
once_mid f x (y ∷ xs) ys once (inr m) = once_mid f x xs ys once.1 m

member_last : {X : Type 0} (x : X) (xs : List X) → Member x (xs ++ x ∷ [])
member_last x [] = inl refl
member_last x (y ∷ ys) = inr (member_last x ys)

-- the last that was read stands there again
pub read_twice : (office : OfficeRules) (k : RecordKind) (rows tail : List Row) (row : Row) (found : List Entry) (last : Option Entry) (entry : Entry) → ReadsRows k rows found → IsLast last found → entry ≡ told k row
    → IfSome last (λ l. entry_order l entry ≡ Equal) → IfNone last (Equal ≡ Less) → AreRecords office k (rows ++ row ∷ tail) → ⊥
read_twice office k rows tail row found None entry reads ends one tie none records = cc
read_twice office k rows tail row found (Some last) entry reads ends one tie none records =
    let same : last ≡ told k row = entries-tie last entry tie ∙ one in
    let there : Member last found = subst (Member last) (sym ends.1) (member_last last ends.0) in
    once_mid (told k) row rows tail records.once (subst (λ e. Member e (map (told k) rows)) same (subst (Member last) reads.are there))
