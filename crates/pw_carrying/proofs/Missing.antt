-- Entries that aren't held.
use Rattle.std.proofs.Common.{◌≡◌, not, List, ap, sym, subst, ◌∙◌, inl, inr}
use Rattle.std.proofs.lemmas.Bool.{cases_Bool, true≢false}
use Rattle.pw_model.specs.declared.records.Entry.{Entry}
use Rattle.pw_model.specs.Counting.{Member}
use Rattle.pw_model.specs.Payments.{stands_in}
use Rattle.pw_model.specs.Same.{same_entry}
use Rattle.pw_model.proofs.Filtered.{filtered-member, member-filtered}
use Rattle.pw_book.specs.Posting.{fresh_of}
use Rattle.pw_book.proofs.NotHeld.{is_fresh, stands}
use Rattle.pw_carrying.specs.Lacking.{AreLacking}

pub are-lacking : (records entries found : List Entry) → found ≡ fresh_of records entries → AreLacking records entries found
are-lacking records entries found h = record {
  order = h;
  members = λ e. (
    λ m. (
        let P : List Entry → Type 0 = λ l. Member e l in
        let k = filtered-member (is_fresh records) entries e (subst P h m) in
        (k.0, λ n. true≢false (sym k.1 ∙ ap not ((stands records e).1 n)))),
    λ p. (
        let P : List Entry → Type 0 = λ l. Member e l in
        elim (cases_Bool (stands_in same_entry e records)) [
          | inl t ↦ absurd (p.1 ((stands records e).0 t))
          | inr f ↦ subst P (sym h) (member-filtered (is_fresh records) entries e p.0 (ap not f))
        ]),
  );
}
