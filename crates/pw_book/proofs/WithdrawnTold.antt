-- Whether a record is withdrawn, by what is told at the key of its withdrawal.
use Rattle.std.proofs.Common.{◌≡◌, true, Some, None, List, refl, sym, ◌∙◌, subst}
use Rattle.std.proofs.lemmas.Bool.{true≢false}
use Rattle.std.specs.Cmp.{both_ways}
use Rattle.pw_model.specs.declared.records.Key.{Key}
use Rattle.pw_model.specs.declared.records.Key.TheVariants as key
use Rattle.pw_model.specs.declared.records.Named.{Named}
use Rattle.pw_model.specs.declared.records.Contents.{Contents}
use Rattle.pw_model.specs.declared.records.Contents.TheVariants.{Nothing, One, Several}
use Rattle.pw_model.specs.declared.records.Entry.{Entry}
use Rattle.pw_model.specs.Counting.{Member, named_of, is_withdrawn, standing, contents_at}
use Rattle.pw_model.specs.Payments.{keys, stands_in}
use Rattle.pw_model.specs.Same.{same_key}
use Rattle.pw_model.proofs.Answers.{key-to, key-back}
use Rattle.pw_model.proofs.Counting.{entry, Tells, tells, standing-member, standing-part}
use Rattle.pw_model.proofs.Once.{stands-decides}
use Rattle.pw_model.proofs.Same.{same_key-decides}
use Rattle.pw_model.proofs.Standing.{unnamed, withdrawn-keys}
use Rattle.pw_book.specs.inner.Withdrawn.{is_something}

-- a record with the key of a withdrawal stands
stands-itself : (s : List Entry) (n : Named) (f : Entry) → Member f s → f.key ≡ key.Withdrawal n → Member (entry (key.Withdrawal n) f.content) (standing s)
stands-itself s n f m q =
    let P : Key → Type 0 = λ k. None ≡ named_of k f.content in
    let Q : Key → Type 0 = λ k. Member (entry k f.content) (standing s) in
    subst Q q (standing-member s f m (sym (unnamed s f (subst P (sym q) refl))))

something-told : (s : List Entry) (n : Named) (r : Contents) → Tells (standing s) (key.Withdrawal n) r → is_something r ≡ true → Member (key.Withdrawal n) (keys s)
something-told s n Nothing h t = absurd (true≢false (sym t))
something-told s n (One c) h t = key-back (entry (key.Withdrawal n) c) s (standing-part s (entry (key.Withdrawal n) c) h.0)
something-told s n Several h t = key-back (entry (key.Withdrawal n) h.0) s (standing-part s (entry (key.Withdrawal n) h.0) h.2)

told-something : (s : List Entry) (n : Named) (r : Contents) → Tells (standing s) (key.Withdrawal n) r → Member (key.Withdrawal n) (keys s) → is_something r ≡ true
told-something s n Nothing h m = absurd (let f = key-to (key.Withdrawal n) s m in h f.0.content (stands-itself s n f.0 f.1.0 f.1.1))
told-something s n (One c) h m = refl
told-something s n Several h m = refl

pub withdrawn-told : (s : List Entry) (e : Entry) (n : Named) → Some n ≡ named_of e.key e.content → is_something (contents_at s (key.Withdrawal n)) ≡ is_withdrawn s e
withdrawn-told s e n h =
    let k : Key = key.Withdrawal n in
    let d = stands-decides same_key same_key-decides (λ v. 0) k (keys s) in
    both_ways (is_something (contents_at s k)) (stands_in same_key k (keys s))
    (λ t. d.1 (something-told s n (contents_at s k) (tells s k) t))
    (λ t. told-something s n (contents_at s k) (tells s k) (d.0 t))
    ∙ withdrawn-keys s e n h
