-- By how many headers who is let in is judged.
use Rattle.std.proofs.Common.{◌≡◌, ◌≢◌, ℕ, List, [], ◌∷◌, length, false, true, refl, arith}
use Rattle.pw_http.specs.declared.audience.Origin.{Origin}
use Rattle.pw_http.specs.Audience.{is_known_host, is_known_page, lets_in_by}
use Rattle.pw_http.specs.inner.Fields.{first_value}

pub none-told : (origins : List Origin) (hs ps : List (List ℕ × List ℕ)) → length hs ≡ 0 → length ps ≡ 0 → lets_in_by origins hs ps ≡ true
none-told origins [] [] m n = refl
none-told origins [] (p ∷ ps) m n = absurd (omega (arith, n))
none-told origins (h ∷ hs) ps m n = absurd (omega (arith, m))

pub host-told : (origins : List Origin) (hs ps : List (List ℕ × List ℕ)) → length hs ≡ 1 → length ps ≡ 0 → lets_in_by origins hs ps ≡ is_known_host origins (first_value hs)
host-told origins [] ps m n = absurd (omega (arith, m))
host-told origins (h ∷ []) [] m n = refl
host-told origins (h ∷ []) (p ∷ ps) m n = absurd (omega (arith, n))
host-told origins (h ∷ g ∷ hs) ps m n = absurd (omega (arith, m))

pub both-told : (origins : List Origin) (hs ps : List (List ℕ × List ℕ)) → length hs ≡ 1 → length ps ≡ 1 → lets_in_by origins hs ps ≡ is_known_page origins (first_value hs) (first_value ps)
both-told origins [] ps m n = absurd (omega (arith, m))
both-told origins (h ∷ []) [] m n = absurd (omega (arith, n))
both-told origins (h ∷ []) (p ∷ []) m n = refl
both-told origins (h ∷ []) (p ∷ q ∷ ps) m n = absurd (omega (arith, n))
both-told origins (h ∷ g ∷ hs) ps m n = absurd (omega (arith, m))

pub page-alone : (origins : List Origin) (hs ps : List (List ℕ × List ℕ)) → length hs ≡ 0 → length ps ≢ 0 → lets_in_by origins hs ps ≡ false
page-alone origins [] [] m n = absurd (n refl)
page-alone origins [] (p ∷ ps) m n = refl
page-alone origins (h ∷ hs) ps m n = absurd (omega (arith, m))

pub pages-told : (origins : List Origin) (hs ps : List (List ℕ × List ℕ)) → length hs ≡ 1 → length ps ≢ 0 → length ps ≢ 1 → lets_in_by origins hs ps ≡ false
pages-told origins [] ps m n k = absurd (omega (arith, m))
pages-told origins (h ∷ []) [] m n k = absurd (n refl)
pages-told origins (h ∷ []) (p ∷ []) m n k = absurd (k refl)
pages-told origins (h ∷ []) (p ∷ q ∷ ps) m n k = refl
pages-told origins (h ∷ g ∷ hs) ps m n k = absurd (omega (arith, m))

pub hosts-told : (origins : List Origin) (hs ps : List (List ℕ × List ℕ)) → length hs ≢ 0 → length hs ≢ 1 → lets_in_by origins hs ps ≡ false
hosts-told origins [] ps m n = absurd (m refl)
hosts-told origins (h ∷ []) ps m n = absurd (n refl)
hosts-told origins (h ∷ g ∷ hs) ps m n = refl
