-- One reply, whatever follows the bytes received.
use Rattle.std.proofs.Common.{◌≡◌, ◌<◌, ℕ, List, [], ◌++◌, length, take, drop, Option, Bool, true, false, refl, ap, ◌∙◌, append_assoc, arith, length-drop, subst}
use Rattle.std.specs.Io.KnownBytes.{Appends}
use Rattle.pw_http.specs.declared.fault.WireFault.TheVariants.{Write}
use Rattle.pw_http.specs.declared.audience.Audience.{Audience}
use Rattle.pw_http.specs.declared.requests.Places.{Places}
use Rattle.pw_http.specs.declared.requests.Refusal.{Refusal}
use Rattle.pw_http.specs.Replies.{Reply, refusal_reply, reply_bytes}
use Rattle.pw_http.specs.Requests.{Request, Whole, Faulty, GoesOn, Stands, closes, is_last, request_bytes}
use Rattle.pw_http.specs.Runs.{Asking, Step, asking_of}
use Rattle.pw_http.specs.inner.Received.{IsWholeAt}
use Rattle.pw_http.specs.inner.Turns.{Replies, asking_at}

module _ (audience : Audience) {S : Type 0} (serves : S → Asking → Reply → S → Type 0) where
  pub whole_step : (old : S) (buf : List ℕ) (new : S) (w : Places) (q : Request) (reply : Reply) → IsWholeAt audience buf w q → serves old (asking_at buf w) reply new → Step serves old (Whole q) reply new
  whole_step old buf new w q reply x served =
      let e : asking_at buf w ≡ asking_of q = λ i. record { method = x.method i; target = x.target i; body = x.body i } in
      subst (λ (asked : Asking). serves old asked reply new) e served

  pub refused_last : (old : S) (buf : List ℕ) (ended : Bool) (known after : Option (List ℕ)) (why : Refusal) → ((left : List ℕ) → (ended ≡ true → left ≡ []) → Stands audience (buf ++ left) (Faulty why)) → Appends known after (reply_bytes true (refusal_reply why))
      → (p : Replies audience serves old buf ended old) × (is_last p.asked ≡ true) × Appends known after (reply_bytes true p.reply)
  refused_last old buf ended known after why stands written =
      let p : Replies audience serves old buf ended old = record { asked = Faulty why; stands = stands; reply = refusal_reply why; step = (refl, refl) } in
      (p, refl, written)

  pub refused_cut : (old : S) (buf : List ℕ) (ended : Bool) (known after : Option (List ℕ)) (why : Refusal) (n : ℕ) → ((left : List ℕ) → (ended ≡ true → left ≡ []) → Stands audience (buf ++ left) (Faulty why)) → Appends known after (take n (reply_bytes true (refusal_reply why)))
      → (p : Replies audience serves old buf ended old) × (m : ℕ) × Appends known after (take m (reply_bytes (is_last p.asked) p.reply)) × (Write ≡ Write)
  refused_cut old buf ended known after why n stands written =
      let p : Replies audience serves old buf ended old = record { asked = Faulty why; stands = stands; reply = refusal_reply why; step = (refl, refl) } in
      (p, n, written, refl)

  whole_stands : (buf : List ℕ) (ended : Bool) (w : Places) (q : Request) → IsWholeAt audience buf w q → (left : List ℕ) → Stands audience (buf ++ left) (Whole q)
  whole_stands buf ended w q x left = (drop w.len buf ++ left, x.whole, ap (λ (t : List ℕ). t ++ left) x.bytes ∙ append_assoc (request_bytes q) (drop w.len buf) left)

  pub whole_last : (old : S) (buf : List ℕ) (ended : Bool) (known after : Option (List ℕ)) (new : S) (w : Places) (q : Request) (reply : Reply) → IsWholeAt audience buf w q → serves old (asking_at buf w) reply new → w.closes ≡ true → Appends known after (reply_bytes w.closes reply)
      → (p : Replies audience serves old buf ended new) × (is_last p.asked ≡ true) × Appends known after (reply_bytes true p.reply)
  whole_last old buf ended known after new w q reply x served closing written =
      let p : Replies audience serves old buf ended new = record { asked = Whole q; stands = λ left _. whole_stands buf ended w q x left; reply = reply; step = whole_step old buf new w q reply x served } in
      (p, x.closes_is ∙ closing, rw closing at written)

  pub whole_cut : (old : S) (buf : List ℕ) (ended : Bool) (known after : Option (List ℕ)) (new : S) (w : Places) (q : Request) (reply : Reply) (n : ℕ) → IsWholeAt audience buf w q → serves old (asking_at buf w) reply new → Appends known after (take n (reply_bytes w.closes reply))
      → (p : Replies audience serves old buf ended new) × (m : ℕ) × Appends known after (take m (reply_bytes (is_last p.asked) p.reply)) × (Write ≡ Write)
  whole_cut old buf ended known after new w q reply n x served written =
      let p : Replies audience serves old buf ended new = record { asked = Whole q; stands = λ left _. whole_stands buf ended w q x left; reply = reply; step = whole_step old buf new w q reply x served } in
      let cut : Appends known after (take n (reply_bytes (closes q.head) reply)) = rw x.closes_is written in
      (p, n, cut, refl)

  pub whole_replied : (old : S) (buf rest : List ℕ) (known after : Option (List ℕ)) (new : S) (w : Places) (q : Request) (reply : Reply) → IsWholeAt audience buf w q → serves old (asking_at buf w) reply new → w.closes ≡ false → Appends known after (reply_bytes w.closes reply) → rest ≡ drop w.len buf
      → (r : Request) × (u : Reply) × GoesOn audience r × (buf ≡ request_bytes r ++ rest) × Step serves old (Whole r) u new × Appends known after (reply_bytes false u) × (length rest < length buf)
  whole_replied old buf rest known after new w q reply x served closing written e =
      (q, reply, (x.whole, x.closes_is ∙ closing), rw e x.bytes, whole_step old buf new w q reply x served, rw closing at written, omega (arith, ap length e, length-drop w.len buf, x.within, x.some))
