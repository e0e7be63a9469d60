-- Who is let in. A browser says in `Host` which server it means, and in `Origin` which page asks.
-- (RFC 9110, 7.2: Host. RFC 6454, 7: Origin. RFC 3986, 3.2: host and port. Who is let in is this project's choice.)
use Rattle.std.specs.Prelude.{true, false, ◌≡◌, ◌==◌, ◌||◌, ◌&&◌, ℕ, List, Bool, [], ◌∷◌, length, take, drop, codes, Option, Some, None, nat_le}
use Rattle.std.specs.List.{list_any, list_all}
use Rattle.std.specs.Char.{is_ascii_digit, is_ascii_alphanumeric}
use Rattle.pw_http.specs.Heads.{same_name, values_of}
use Rattle.pw_http.specs.declared.audience.Audience.{Audience}
use Rattle.pw_http.specs.declared.audience.Audience.TheVariants.{Everybody, Here}
use Rattle.pw_http.specs.declared.audience.Origin.{Origin}
use Rattle.pw_http.specs.declared.audience.Scheme.{Scheme}
use Rattle.pw_http.specs.declared.audience.Scheme.TheVariants.{Http, Https}

-- ---- this machine
-- a text begins with another, in any letter case
abbrev pub begins_with : List ℕ → List ℕ → Bool
begins_with front text = same_name (take (length front) text) front

-- nothing, or a colon with digits, if any
abbrev pub is_port : List ℕ → Bool
is_port [] = true
is_port (b ∷ digits) = (b == 58) && list_all is_ascii_digit digits

-- a name with any port
abbrev pub names : List ℕ → List ℕ → Bool
names name host = begins_with name host && is_port (drop (length name) host)

abbrev pub is_here : List ℕ → Bool
is_here host = names (codes "127.0.0.1") host || (names (codes "localhost") host || names (codes "[::1]") host)

-- ---- pages
abbrev pub scheme_text : Scheme → List ℕ
scheme_text Http = codes "http://"
scheme_text Https = codes "https://"

-- the text of an origin says this scheme and this host, with its port
abbrev pub is_page_of : Scheme → List ℕ → List ℕ → Bool
is_page_of scheme host text = begins_with (scheme_text scheme) text && same_name (drop (length (scheme_text scheme)) text) host

-- a letter, a digit, or one of `-.:[]_`
abbrev pub is_host_byte : ℕ → Bool
is_host_byte b = is_ascii_alphanumeric b || ((b == 45) || ((b == 46) || ((b == 58) || ((b == 91) || ((b == 93) || (b == 95))))))

-- a host with its port, if any: one byte or more
abbrev pub is_host : List ℕ → Bool
is_host text = nat_le 1 (length text) && list_all is_host_byte text

-- the scheme of a URL that is an origin: `http://` or `https://` with a host, and nothing behind it
abbrev pub is_url_of : Scheme → List ℕ → Bool
is_url_of scheme url = begins_with (scheme_text scheme) url && is_host (drop (length (scheme_text scheme)) url)

abbrev pub IsUrlOf : Option Origin → List ℕ → Type 0
IsUrlOf (Some o) url = (is_url_of o.scheme url ≡ true) × (o.host.now ≡ drop (length (scheme_text o.scheme)) url)
IsUrlOf None url = (is_url_of Http url ≡ false) × (is_url_of Https url ≡ false)

-- ---- who is let in
-- without an origin: a Host of this machine, or of one of the pages
abbrev pub is_host_of : List ℕ → Origin → Bool
is_host_of host o = same_name host o.host.now

abbrev pub is_known_host : List Origin → List ℕ → Bool
is_known_host origins host = is_here host || list_any (is_host_of host) origins

-- a page that is one of these, at its own Host or at one of this machine
abbrev pub is_let_by : List ℕ → List ℕ → Origin → Bool
is_let_by host page o = is_page_of o.scheme o.host.now page && (is_here host || is_host_of host o)

-- with an origin: a page of this machine, at its own Host; or one of these
abbrev pub is_known_page : List Origin → List ℕ → List ℕ → Bool
is_known_page origins host page = (is_here host && is_page_of Http host page) || list_any (is_let_by host page) origins

-- by the headers `Host` and `Origin`: neither is told twice, and no origin without a Host
abbrev pub lets_in_by : List Origin → List (List ℕ × List ℕ) → List (List ℕ × List ℕ) → Bool
lets_in_by origins [] [] = true
lets_in_by origins [] (page ∷ pages) = false
lets_in_by origins (host ∷ []) [] = is_known_host origins host.1
lets_in_by origins (host ∷ []) (page ∷ []) = is_known_page origins host.1 page.1
lets_in_by origins (host ∷ []) (page ∷ other ∷ pages) = false
lets_in_by origins (host ∷ other ∷ hosts) pages = false

abbrev pub lets_in : Audience → List (List ℕ × List ℕ) → Bool
lets_in Everybody headers = true
lets_in (Here origins) headers = lets_in_by origins.now (values_of (codes "host") headers) (values_of (codes "origin") headers)
