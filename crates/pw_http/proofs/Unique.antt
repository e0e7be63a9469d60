-- A stream has one list of requests, however it is read.
use Rattle.std.proofs.Common.{◌≡◌, ◌≢◌, ◌<◌, ◌≤◌, ◌⊎◌, ℕ, List, [], ◌∷◌, ◌++◌, length, Option, Some, None, Bool, true, false, All, refl, sym, ap, ◌∙◌, append_assoc, arith, length-append, inl, inr}
use Rattle.std.specs.List.{flat_map}
use Rattle.httparse.specs.Grammar.{RequestHead, print_request}
use Rattle.httparse.proofs.GrammarLemmas.{request_unique}
use Rattle.pw_http.specs.Heads.{IsHead, HasNoHead}
use Rattle.pw_http.specs.declared.audience.Audience.{Audience}
use Rattle.pw_http.specs.Requests.{Request, Asked, Whole, Faulty, Stands, is_last, Ends, Requests, GoesOn, IsWhole, Refuses, request_bytes, is_coded, is_let_in, body_length, longest_body}
use Rattle.std.specs.Prelude.{if◌then◌else◌, nat_lt}
use Rattle.std.proofs.lemmas.List.Elements.{All-head, All-tail}
use Rattle.pw_http.specs.declared.requests.Refusal.{Refusal}
use Rattle.pw_http.specs.declared.requests.Refusal.TheVariants.{BadHead, NotForThisServer, NotSupported, BodyTooLarge, BadBody}
use Rattle.pw_http.proofs.Asks.{bytes_some}

same_head : (left : List ℕ) (h k : RequestHead) (r q : List ℕ) → IsHead left h r → IsHead left k q → (h ≡ k) × (r ≡ q)
same_head left h k r q x y = request_unique left h k r q x.reads y.reads

-- the bytes, and where they are cut, say the two parts
split_same : (a b c d : List ℕ) → length a ≡ length b → a ++ c ≡ b ++ d → (a ≡ b) × (c ≡ d)
split_same [] [] c d n e = (refl, e)
split_same [] (y ∷ b) c d n e = absurd (omega (arith, n))
split_same (x ∷ a) [] c d n e = absurd (omega (arith, n))
split_same (x ∷ a) (y ∷ b) c d n e =
    let tail : a ++ c ≡ b ++ d = cc in
    let parts = split_same a b c d (omega (arith, n)) tail in
    let first : x ≡ y = cc in
    let rest : a ≡ b = parts.0 in
    let both : x ∷ a ≡ y ∷ b = cc in
    (both, parts.1)

large_is : (n : ℕ) → longest_body < n → nat_lt longest_body n ≡ true
large_is n h = grind (arith, h)

small_is : (n : ℕ) → n ≤ longest_body → nat_lt longest_body n ≡ false
small_is n h = grind (arith, h)

module _ (audience : Audience) where
  head_at : (left : List ℕ) (r : Request) (rest : List ℕ) → IsWhole audience r → left ≡ request_bytes r ++ rest → IsHead left r.head (r.body ++ rest)
  head_at left r rest w e = record { reads = (w.head, e ∙ append_assoc (print_request r.head) r.body rest); size = w.size; fields = w.fields }

  -- two whole requests at one place are one
  pub whole_unique : (left : List ℕ) (r q : Request) (s t : List ℕ) → IsWhole audience r → IsWhole audience q → left ≡ request_bytes r ++ s → left ≡ request_bytes q ++ t → (r ≡ q) × (s ≡ t)
  whole_unique left r q s t x y e f =
      let heads = same_head left r.head q.head (r.body ++ s) (q.body ++ t) (head_at left r s x e) (head_at left q t y f) in
      let said : Some (length r.body) ≡ Some (length q.body) = sym x.said ∙ ap body_length heads.0 ∙ y.said in
      let size : length r.body ≡ length q.body = cc in
      let parts = split_same r.body q.body s t size heads.1 in
      (ap (λ (h : RequestHead). record { head = h; body = r.body }) heads.0 ∙ ap (λ (b : List ℕ). record { head = q.head; body = b }) parts.0, parts.1)

  -- what is refused is no whole request
  pub whole_not_refused : (left : List ℕ) (r : Request) (s : List ℕ) (why : Refusal) → IsWhole audience r → left ≡ request_bytes r ++ s → Refuses audience left why → ⊥
  whole_not_refused left r s BadHead x e (inl none) = none r.head (r.body ++ s) (head_at left r s x e)
  whole_not_refused left r s BadHead x e (inr y) =
      let same = same_head left r.head y.0 (r.body ++ s) y.1 (head_at left r s x e) y.2 in
      let no : Some (length r.body) ≡ None = sym x.said ∙ ap body_length same.0 ∙ y.5 in cc
  whole_not_refused left r s NotForThisServer x e y =
      let same = same_head left r.head y.0 (r.body ++ s) y.1 (head_at left r s x e) y.2 in
      let no : true ≡ false = sym x.let_in ∙ ap (is_let_in audience) same.0 ∙ y.3 in cc
  whole_not_refused left r s NotSupported x e y =
      let same = same_head left r.head y.0 (r.body ++ s) y.1 (head_at left r s x e) y.2 in
      let no : false ≡ true = sym x.plain ∙ ap is_coded same.0 ∙ y.4 in cc
  whole_not_refused left r s BodyTooLarge x e y =
      let same = same_head left r.head y.0 (r.body ++ s) y.1 (head_at left r s x e) y.3 in
      let said : Some (length r.body) ≡ Some y.2 = sym x.said ∙ ap body_length same.0 ∙ y.6 in
      let size : length r.body ≡ y.2 = cc in
      omega (arith, x.fits, y.7)
  whole_not_refused left r s BadBody x e y =
      let same = same_head left r.head y.0 (r.body ++ s) y.1 (head_at left r s x e) y.3 in
      let said : Some (length r.body) ≡ Some y.2 = sym x.said ∙ ap body_length same.0 ∙ y.6 in
      let size : length r.body ≡ y.2 = cc in
      omega (arith, y.8, ap length same.1, length-append r.body s)

  -- the refusal that a head's fields say, where no whole request follows
  abbrev refusal_by : Bool → Bool → Option ℕ → Refusal
  refusal_by false coded said = NotForThisServer
  refusal_by true true said = NotSupported
  refusal_by true false None = BadHead
  refusal_by true false (Some n) = if nat_lt longest_body n then BodyTooLarge else BadBody

  abbrev Classified : List ℕ → Refusal → Type 0
  Classified left why = (HasNoHead left × (why ≡ BadHead)) ⊎ ((h : RequestHead) × (rest : List ℕ) × IsHead left h rest × (why ≡ refusal_by (is_let_in audience h) (is_coded h) (body_length h)))

  classify : (left : List ℕ) (why : Refusal) → Refuses audience left why → Classified left why
  classify left BadHead (inl none) = inl (none, refl)
  classify left BadHead (inr y) = inr (y.0, y.1, y.2, rw (y.3, y.4, y.5) refl)
  classify left NotForThisServer y = inr (y.0, y.1, y.2, rw y.3 refl)
  classify left NotSupported y = inr (y.0, y.1, y.2, rw (y.3, y.4) refl)
  classify left BodyTooLarge y = inr (y.0, y.1, y.3, rw (y.4, y.5, y.6, large_is y.2 y.7) refl)
  classify left BadBody y = inr (y.0, y.1, y.3, rw (y.4, y.5, y.6, small_is y.2 y.7) refl)

  classified_same : (left : List ℕ) (a b : Refusal) → Classified left a → Classified left b → a ≡ b
  classified_same left a b (inl x) (inl y) = x.1 ∙ sym y.1
  classified_same left a b (inl x) (inr y) = absurd (x.0 y.0 y.1 y.2)
  classified_same left a b (inr x) (inl y) = absurd (y.0 x.0 x.1 x.2)
  classified_same left a b (inr x) (inr y) = x.3 ∙ ap (λ (h : RequestHead). refusal_by (is_let_in audience h) (is_coded h) (body_length h)) (same_head left x.0 y.0 x.1 y.1 x.2 y.2).0 ∙ sym y.3

  stands_unique : (left : List ℕ) (a b : Asked) → Stands audience left a → Stands audience left b → a ≡ b
  stands_unique left (Whole r) (Whole q) x y = ap (λ (u : Request). Whole u) (whole_unique left r q x.0 y.0 x.1 y.1 x.2 y.2).0
  stands_unique left (Whole r) (Faulty why) x y = absurd (whole_not_refused left r x.0 why x.1 x.2 y.1)
  stands_unique left (Faulty why) (Whole q) x y = absurd (whole_not_refused left q y.0 why y.1 y.2 x.1)
  stands_unique left (Faulty a) (Faulty b) x y = ap (λ (u : Refusal). Faulty u) (classified_same left a b (classify left a x.1) (classify left b y.1))

  something : (left : List ℕ) (a : Asked) → Stands audience left a → left ≢ []
  something left (Whole r) x e = omega (arith, bytes_some r, ap length x.2, ap length e, length-append (request_bytes r) x.0)
  something left (Faulty why) x e = x.0 e

  ends_unique : (left : List ℕ) (a b : Option Asked) → Ends audience left a → Ends audience left b → a ≡ b
  ends_unique left None None x y = refl
  ends_unique left None (Some b) x y = absurd (something left b y.0 x)
  ends_unique left (Some a) None x y = absurd (something left a x.0 y)
  ends_unique left (Some a) (Some b) x y = ap (λ (u : Asked). Some u) (stands_unique left a b x.0 y.0)

  -- where the conversation ends, no request stands after which it goes on
  end_not_on : (left : List ℕ) (a : Option Asked) (q : Request) (rest : List ℕ) → Ends audience left a → GoesOn audience q → left ≡ request_bytes q ++ rest → ⊥
  end_not_on left None q rest x goes e = something left (Whole q) (rest, goes.0, e) x
  end_not_on left (Some a) q rest x goes e =
      let same : a ≡ Whole q = stands_unique left a (Whole q) x.0 (rest, goes.0, e) in
      let no : true ≡ false = sym x.1 ∙ ap is_last same ∙ goes.1 in cc

  same_requests : (left : List ℕ) (rs qs : List Request) (s t : List ℕ) (a b : Option Asked) → All (GoesOn audience) rs → All (GoesOn audience) qs → left ≡ flat_map request_bytes rs ++ s → left ≡ flat_map request_bytes qs ++ t → Ends audience s a → Ends audience t b → (rs ≡ qs) × (a ≡ b)
  same_requests left [] [] s t a b x y e f m n = (refl, ends_unique t a b (rw (sym e ∙ f) at m) n)
  same_requests left [] (q ∷ qs) s t a b x y e f m n = absurd (end_not_on s a q (flat_map request_bytes qs ++ t) m (All-head (GoesOn audience) q qs y) (sym e ∙ f ∙ append_assoc (request_bytes q) (flat_map request_bytes qs) t))
  same_requests left (r ∷ rs) [] s t a b x y e f m n = absurd (end_not_on t b r (flat_map request_bytes rs ++ s) n (All-head (GoesOn audience) r rs x) (sym f ∙ e ∙ append_assoc (request_bytes r) (flat_map request_bytes rs) s))
  same_requests left (r ∷ rs) (q ∷ qs) s t a b x y e f m n =
      let here = whole_unique left r q (flat_map request_bytes rs ++ s) (flat_map request_bytes qs ++ t) (All-head (GoesOn audience) r rs x).0 (All-head (GoesOn audience) q qs y).0
      (e ∙ append_assoc (request_bytes r) (flat_map request_bytes rs) s) (f ∙ append_assoc (request_bytes q) (flat_map request_bytes qs) t) in
      let on = same_requests (flat_map request_bytes rs ++ s) rs qs s t a b (All-tail (GoesOn audience) r rs x) (All-tail (GoesOn audience) q qs y) refl here.1 m n in
      let first : r ≡ q = here.0 in
      let rest : rs ≡ qs = on.0 in
      let both : r ∷ rs ≡ q ∷ qs = cc in
      (both, on.1)

  -- a stream has one list of requests and one end
  pub one_reading : (stream : List ℕ) (rs qs : List Request) (a b : Option Asked) → Requests audience stream rs a → Requests audience stream qs b → (rs ≡ qs) × (a ≡ b)
  one_reading stream rs qs a b x y = same_requests stream rs qs x.rest y.rest a b x.begins.each y.begins.each x.begins.bytes y.begins.bytes x.ends y.ends
