-- The exchanges of one connection, and which of them is the last.
use Rattle.std.proofs.Common.{◌≡◌, ◌≢◌, ◌==◌, ℕ, List, [], ◌∷◌, ◌++◌, Bool, true, false, refl, sym, ap, ◌∙◌, arith, Option}
use Rattle.std.specs.Prelude.{cond, ◌||◌}
use Rattle.std.specs.List.{AllByRecursion}
use Rattle.std.proofs.lemmas.Bool.{true≢false}
use Rattle.std.proofs.lemmas.Grind.{flat_map-append}
use Rattle.std.proofs.lemmas.List.{append-nil}
use Rattle.std.proofs.lemmas.List.Elements.{filter-append}
use Rattle.std.proofs.lemmas.List.Folds.{list_any-append}
use Rattle.pw_serve.specs.Exchanges.{Asked, Whole, Refused, Exchange, asked_bytes, bytes_of, exchanges_of, is_at_end, is_last, reply_bytes}
use Rattle.pw_serve.specs.Served.{AreInTurn, IsAllOf}
use Rattle.pw_serve.specs.inner.Peers.{closes_behind}
use Rattle.pw_serve.specs.inner.Turns.{IsBy}

same_test : (k n : ℕ) → n ≡ k → (k == n) ≡ true
same_test k n e = grind (arith, e)

other_test : (j k n : ℕ) → j ≢ k → n ≡ k → (j == n) ≡ false
other_test j k n d e = grind (arith, d, e)

kept : (k : ℕ) (es : List Exchange) → AllByRecursion (IsBy k) es → exchanges_of k es ≡ es
kept k [] m = refl
kept k (e ∷ es) m =
    ap (λ (b : Bool). cond b (e ∷ exchanges_of k es) (exchanges_of k es)) (same_test k e.who m.0)
    ∙ ap (λ (t : List Exchange). e ∷ t) (kept k es m.1)

left_out : (j k : ℕ) (es : List Exchange) → j ≢ k → AllByRecursion (IsBy k) es → exchanges_of j es ≡ []
left_out j k [] d m = refl
left_out j k (e ∷ es) d m =
    ap (λ (b : Bool). cond b (e ∷ exchanges_of j es) (exchanges_of j es)) (other_test j k e.who d m.0) ∙ left_out j k es d m.1

pub own-more : (k : ℕ) (order es : List Exchange) → AllByRecursion (IsBy k) es → exchanges_of k (order ++ es) ≡ exchanges_of k order ++ es
own-more k order es m = filter-append (λ (e : Exchange). k == e.who) order es ∙ ap (λ (t : List Exchange). exchanges_of k order ++ t) (kept k es m)

pub own-other : (j k : ℕ) (order es : List Exchange) → j ≢ k → AllByRecursion (IsBy k) es → exchanges_of j (order ++ es) ≡ exchanges_of j order
own-other j k order es d m =
    filter-append (λ (e : Exchange). j == e.who) order es ∙ ap (λ (t : List Exchange). exchanges_of j order ++ t) (left_out j k es d m) ∙ append-nil (exchanges_of j order)

-- ---- one exchange more
pub asked-more : (own : List Exchange) (e : Exchange) → asked_bytes (own ++ e ∷ []) ≡ asked_bytes own ++ bytes_of e.asked
asked-more own e = flat_map-append (λ (e : Exchange). bytes_of e.asked) own (e ∷ []) ∙ ap (λ (t : List ℕ). asked_bytes own ++ t) (append-nil (bytes_of e.asked))

pub replies-more : (own : List Exchange) (e : Exchange) → reply_bytes (own ++ e ∷ []) ≡ reply_bytes own ++ e.reply
replies-more own e = flat_map-append (λ (e : Exchange). e.reply) own (e ∷ []) ∙ ap (λ (t : List ℕ). reply_bytes own ++ t) (append-nil e.reply)

-- ---- the last one
or_false : (a b : Bool) → (a || b) ≡ false → (a ≡ false) × (b ≡ false)
or_false true b h = absurd (true≢false h)
or_false false b h = (refl, h)

or_nothing : (b : Bool) → (b || false) ≡ b
or_nothing true = refl
or_nothing false = refl

last_at_end : (a : Asked) → is_at_end a ≡ true → is_last a ≡ true
last_at_end (Whole bytes closes) h = absurd (true≢false (sym h))
last_at_end (Refused bytes ended) h = refl

pub closes-more : (own : List Exchange) (e : Exchange) → closes_behind own ≡ false → closes_behind (own ++ e ∷ []) ≡ is_last e.asked
closes-more own e h =
    list_any-append (λ (e : Exchange). is_last e.asked) own (e ∷ [])
    ∙ ap (λ (b : Bool). b || (is_last e.asked || false)) h ∙ or_nothing (is_last e.asked)

pub turn-still : (stream : Option (List ℕ)) (got rest : List ℕ) (own : List Exchange) → closes_behind own ≡ false → AreInTurn stream got rest own
turn-still stream got rest [] h = tt
turn-still stream got rest (e ∷ []) h = λ end. absurd (true≢false (sym (last_at_end e.asked end) ∙ (or_false (is_last e.asked) false h).0))
turn-still stream got rest (e ∷ f ∷ es) h =
    let p = or_false (is_last e.asked) (closes_behind (f ∷ es)) h in
    (p.0, turn-still stream got rest (f ∷ es) p.1)

pub turn-last : (stream : Option (List ℕ)) (got rest : List ℕ) (own : List Exchange) (e : Exchange) → closes_behind own ≡ false → (is_at_end e.asked ≡ true → (rest ≡ []) × IsAllOf stream got) → AreInTurn stream got rest (own ++ e ∷ [])
turn-last stream got rest [] e h end = end
turn-last stream got rest (f ∷ []) e h end = ((or_false (is_last f.asked) false h).0, end)
turn-last stream got rest (f ∷ g ∷ own) e h end =
    let p = or_false (is_last f.asked) (closes_behind (g ∷ own)) h in
    (p.0, turn-last stream got rest (g ∷ own) e p.1 end)
