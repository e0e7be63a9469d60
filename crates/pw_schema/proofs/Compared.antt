-- Rows that a judge compares with a list, one by one.
use Rattle.std.proofs.Common.{◌≡◌, ℕ, List, [], ◌∷◌, ◌++◌, map, filter, append_assoc, Bor, Option, option_map, Some, None, IfSome, refl, sym, ap, subst, ◌∙◌}
use Rattle.std.proofs.lemmas.List.{append_cancel_left}
use Rattle.std.proofs.lemmas.List.Elements.{filter-append}
use Rattle.std.specs.Option.{option_copied}
use Rattle.std.specs.declared.cmp.Ordering.TheVariants.{Less}
use Rattle.sqlite.specs.Order.{Row}
use Rattle.pw_tariff.specs.Office.{office_of}
use Rattle.pw_model.specs.declared.records.Entry.{Entry}
use Rattle.pw_model.specs.declared.records.TotalKey.{TotalKey}
use Rattle.pw_model.specs.Lists.{IsInOrder}
use Rattle.pw_model.specs.Same.{key_numbers, key_order, total_numbers, total_order}
use Rattle.pw_model.proofs.Same.{key-numbers-one}
use Rattle.pw_schema.specs.declared.kept.KeptEntries.{KeptEntries}
use Rattle.pw_schema.specs.declared.kept.KeptTotals.{KeptTotals}
use Rattle.pw_schema.specs.Judges.{HasCompared, HasSummed, IsRest, is_above_zero}
use Rattle.pw_schema.specs.Judging.{IsRecord, IsTotal, by_key, by_total, told_total}
use Rattle.pw_schema.specs.Rows.{told}
use Rattle.pw_schema.proofs.Pushed.{all_push}
use Rattle.pw_schema.proofs.Keyed.{key_push, some_mapped, told_on}
use Rattle.pw_schema.proofs.TotalKeys.{totals_one}

-- what is left behind these and then those
pub rest_on : {X : Type 0} (all mid rest : Option (List X)) (front back : List X) → IsRest all front mid → IsRest mid back rest → IsRest all (front ++ back) rest
rest_on {X = X} None mid rest front back a b = go mid a b
  where
    go : (m : Option (List X)) → m ≡ None → IsRest m back rest → rest ≡ None
    go None e h = h
    go (Some xs) e h = cc
rest_on (Some xs) None rest front back a b = subst (IsRest (Some xs) (front ++ back)) (sym b) (λ tail is. a (back ++ tail) (is ∙ append_assoc front back tail))
rest_on (Some xs) (Some ys) (Some zs) front back a b = a ∙ ap (λ l. front ++ l) b ∙ sym (append_assoc front back zs)
rest_on (Some xs) (Some ys) None front back a b = λ tail is. b tail (append_cancel_left front ys (back ++ tail) (sym a ∙ is ∙ append_assoc front back tail))

-- one more row of points or starts
pub compares : (first old : KeptEntries) (rows : List Row) (row : Row) (e : Entry) (rest : Option (Bor (List Entry))) → HasCompared first rows old → e ≡ told old.kind row → IsRecord (office_of old.office.now) old.kind row
    → IfSome old.last (λ l. key_order l.key e.key ≡ Less) → IsRest (option_copied old.rest) (e ∷ []) (option_copied rest) → HasCompared first (rows ++ row ∷ []) (record old { last = Some e; rest = rest })
compares first old rows row e rest held one good low left =
    let found : List Entry = map (told old.kind) rows in
    let more : found ++ e ∷ [] ≡ map (told old.kind) (rows ++ row ∷ []) = ap (λ x. found ++ x ∷ []) one ∙ sym (told_on (told old.kind) rows row) in
    record {
      same_office = held.same_office;
      same_kind = held.same_kind;
      each = all_push (IsRecord (office_of old.office.now) old.kind) row rows held.each good;
      rising = subst (IsInOrder by_key) more (key_push (λ (x : Entry). x.key) key_numbers key-numbers-one (option_map (λ (x : Entry). x.key) old.last) found e held.rising held.behind (some_mapped (λ (x : Entry). x.key) old.last _ low));
      behind = (found, e, refl, sym more);
      left = subst (λ xs. IsRest (option_copied first.rest) xs (option_copied rest)) more (rest_on (option_copied first.rest) (option_copied old.rest) (option_copied rest) found (e ∷ []) held.left left);
    }

-- one more row of totals
pub sums_up : (first old : KeptTotals) (rows : List Row) (row : Row) (t : TotalKey × ℕ) (rest : Option (Bor (List (TotalKey × ℕ)))) → HasSummed first rows old → t ≡ told_total old.kind row → IsTotal (office_of old.office.now) old.kind row
    → IfSome old.last (λ l. total_order l t.0 ≡ Less) → IsRest (option_copied old.rest) (filter is_above_zero (t ∷ [])) (option_copied rest) → HasSummed first (rows ++ row ∷ []) (record old { last = Some t.0; rest = rest })
sums_up first old rows row t rest held one good low left =
    let found : List (TotalKey × ℕ) = map (told_total old.kind) rows in
    let more : found ++ t ∷ [] ≡ map (told_total old.kind) (rows ++ row ∷ []) = ap (λ x. found ++ x ∷ []) one ∙ sym (told_on (told_total old.kind) rows row) in
    record {
      same_office = held.same_office;
      same_kind = held.same_kind;
      each = all_push (IsTotal (office_of old.office.now) old.kind) row rows held.each good;
      rising = subst (IsInOrder by_total) more (key_push (λ (x : TotalKey × ℕ). x.0) total_numbers totals_one old.last found t held.rising held.behind low);
      behind = (found, t, refl, sym more);
      left = subst (λ xs. IsRest (option_copied first.rest) xs (option_copied rest)) (sym (filter-append is_above_zero found (t ∷ [])) ∙ ap (filter is_above_zero) more)
          (rest_on (option_copied first.rest) (option_copied old.rest) (option_copied rest) (filter is_above_zero found) (filter is_above_zero (t ∷ [])) held.left left);
    }
