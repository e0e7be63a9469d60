-- A stream read to its end.
use Rattle.std.proofs.Common.{◌≡◌, ◌++◌, ◌∷◌, [], ℕ, List, Option, Some, None, drop, true, false, refl, sym, ap, ◌∙◌, append_assoc, arith}
use Rattle.std.specs.List.{flat_map}
use Rattle.std.proofs.lemmas.Grind.{flat_map-append}
use Rattle.std.proofs.lemmas.List.{append-nil}
use Rattle.std.proofs.lemmas.List.Elements.{All-append, All-nil}
use Rattle.pw_http.specs.declared.audience.Audience.{Audience}
use Rattle.pw_http.specs.declared.requests.Places.{Places}
use Rattle.pw_http.specs.Laws.{HasOneReading}
use Rattle.pw_http.specs.declared.requests.Refusal.{Refusal}
use Rattle.pw_http.specs.Requests.{Request, Asked, Whole, Faulty, Begins, Ends, GoesOn, Requests, Stands, request_bytes}
use Rattle.pw_http.specs.inner.Received.{IsWholeAt}
use Rattle.pw_http.proofs.Unique.{one_reading}

module _ (audience : Audience) where
  pub begin : (stream : List ℕ) → Begins audience stream [] stream
  begin stream = record { bytes = refl; each = All-nil (GoesOn audience) }

  pub reading : (stream rest : List ℕ) (rs : List Request) (last : Option Asked) → Begins audience stream rs rest → Ends audience rest last → HasOneReading audience stream
  reading stream rest rs last begins ends =
      let are : Requests audience stream rs last = record { rest = rest; begins = begins; ends = ends } in
      record { requests = rs; last = last; are = are; only = λ qs end other. one_reading audience stream qs rs end last other are }

  -- nothing is left
  pub read-nothing : (stream rest : List ℕ) (rs : List Request) → Begins audience stream rs rest → rest ≡ [] → HasOneReading audience stream
  read-nothing stream rest rs begins e = reading stream rest rs None begins e

  pub read-refused : (stream rest : List ℕ) (rs : List Request) (why : Refusal) → Begins audience stream rs rest → Stands audience (rest ++ []) (Faulty why) → HasOneReading audience stream
  read-refused stream rest rs why begins stands = reading stream rest rs (Some (Faulty why)) begins (rw append-nil at stands, refl)

  pub read-last : (stream rest : List ℕ) (rs : List Request) (w : Places) (q : Request) → Begins audience stream rs rest → IsWholeAt audience rest w q → w.closes ≡ true → HasOneReading audience stream
  read-last stream rest rs w q begins x closing = reading stream rest rs (Some (Whole q)) begins ((drop w.len rest, x.whole, x.bytes), x.closes_is ∙ closing)

  -- a request more
  pub read-on : (stream rest : List ℕ) (rs : List Request) (w : Places) (q : Request) → Begins audience stream rs rest → IsWholeAt audience rest w q → w.closes ≡ false → Begins audience stream (rs ++ q ∷ []) (drop w.len rest)
  read-on stream rest rs w q begins x closing = record {
    bytes =
        begins.bytes
        ∙ ap (λ (t : List ℕ). flat_map request_bytes rs ++ t) x.bytes
        ∙ sym (append_assoc (flat_map request_bytes rs) (request_bytes q) (drop w.len rest))
        ∙ ap (λ (t : List ℕ). t ++ drop w.len rest) (sym (flat_map-append request_bytes rs (q ∷ []) ∙ ap (λ (t : List ℕ). flat_map request_bytes rs ++ t) (append-nil (request_bytes q))));
    each = All-append (GoesOn audience) rs (q ∷ []) begins.each (grind (arith, x.whole, x.closes_is ∙ closing));
  }
