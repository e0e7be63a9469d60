-- Which route a path reaches.
use Rattle.std.proofs.Common.{◌++◌, ◌∷◌, [], ◌-◌, ◌<◌, ◌≡◌, ◌∙◌, ap, cond, zero, suc, ℕ, ◌+◌, List, Bool, false, true, true≢false, Some, None, codes, refl, length, drop, take, arith, Option, length-append, append_assoc, subst, sym}
use Rattle.std.specs.Prelude.{◌==◌, ◌&&◌, ltb, nat_eq, option_map}
use Rattle.std.specs.Cmp.Lexicographic.{pointwise}
use Rattle.std.proofs.lemmas.Bool.{and_parts}
use Rattle.std.proofs.lemmas.Bool.Decides.{nat_tests}
use Rattle.std.proofs.Math.Seq.{drop-append_seam, take-append-add, take-append_seam}
use Rattle.matchit.proofs.OnLiterals.{matchit_on_literals}
use Rattle.matchit.specs.Rows.{RowsOf, param_token, catch_all_token}
use Rattle.matchit.specs.Seek.{cuts, has_slash, segment, seek, step, param_step, or_else, first, longest_suffix, with_suffix, own}
use Rattle.matchit.specs.Router.{RouteOf}
use Rattle.pw_http.specs.Routes.{account_in, meter_in, route_table, route_at, row_value, up_to_slash as up-to-slash}
use Rattle.pw_http.specs.Laws.{PathsReachRoutes, ReachesMonth}
use Rattle.pw_http.proofs.Slashes.{first-word, rest-behind, whole-word}
use Rattle.pw_http.specs.declared.routes.Route.{Route}
use Rattle.pw_http.specs.declared.routes.Route.TheVariants.{Telegrams, Readouts, Assignments, TopUps, Withdrawals, Account, Month, MeterReadings, Table, File}
use Rattle.pw_page.specs.declared.File.TheVariants as file
use Rattle.pw_report.specs.declared.page.MonthPage.{MonthPage}
use Rattle.pw_report.specs.declared.page.MonthPage.TheVariants as month
use Rattle.pw_report.specs.declared.page.Table.TheVariants as table

abbrev Row : Type 0
Row = RowsOf (RouteOf Route)

none_step : (p : List ℕ) → (param_step {K = RouteOf Route} [] p).1 ≡ []
unfolding param_step
none_step p = elim (has_slash p) as (λ v. (cond {A = ℕ × Row} v (0, []) (length p, [])).1 ≡ []) [ true ↦ refl | false ↦ refl ]

seek_none : (k : ℕ) (p : List ℕ) → seek {K = RouteOf Route} k [] p ≡ None
unfolding seek
seek_none k [] = refl
seek_none (suc k) (b ∷ p) = seek_none k p
seek_none zero (b ∷ p) = simp (seek_none 0 p, none_step (b ∷ p), seek_none (((param_step {K = RouteOf Route} [] (b ∷ p)).0) - 1) p)

-- no row goes on with a parameter or a catch-all, or has one where the bytes lead
abbrev is_free : List ℕ → Row → Bool
is_free [] rs = true
is_free (b ∷ w) rs = (length (step param_token rs) == 0) && ((length (step catch_all_token rs) == 0) && is_free w (step b rs))

abbrev along : List ℕ → Row → Row
along [] rs = rs
along (b ∷ w) rs = along w (step b rs)

no_rows : (rs : Row) → (length rs == 0) ≡ true → rs ≡ []
no_rows [] h = refl
no_rows (r ∷ rs) h = absurd (grind (arith, nat_tests, h))

one_byte : (b : ℕ) (rs : Row) (p : List ℕ) → step param_token rs ≡ [] → step catch_all_token rs ≡ [] → seek 0 rs (b ∷ p) ≡ seek 0 (step b rs) p
unfolding seek
one_byte b rs p h k = simp (h, k, none_step (b ∷ p), seek_none ((param_step {K = RouteOf Route} [] (b ∷ p)).0 - 1) p, or_none (seek 0 (step b rs) p))
  where
    or_none : (o : Option (RouteOf Route)) → or_else o None ≡ o
    or_none None = refl
    or_none (Some r) = refl

free_walk : (w : List ℕ) (rs : Row) (p : List ℕ) → is_free w rs ≡ true → first rs (w ++ p) ≡ first (along w rs) p
free_walk [] rs p h = refl
free_walk (b ∷ w) rs p h =
    let parts = and_parts (length (step param_token rs) == 0) _ h in
    let more = and_parts (length (step catch_all_token rs) == 0) _ parts.1 in
    one_byte b rs (w ++ p) (no_rows (step param_token rs) parts.0) (no_rows (step catch_all_token rs) more.0) ∙ free_walk w (step b rs) p more.1

all_of_it : (n : ℕ) (r : RouteOf Route) (p : List ℕ) → n ≡ length p → seek n (([], r) ∷ []) p ≡ Some r
unfolding seek
all_of_it n r [] e = refl
all_of_it zero r (b ∷ p) e = absurd (omega (arith, e))
all_of_it (suc n) r (b ∷ p) e = all_of_it n r p (omega (arith, e))

-- a route that ends with a parameter
param_last : (r : RouteOf Route) (b : ℕ) (rest : List ℕ) → b < 256 → has_slash (b ∷ rest) ≡ false → first ((256 ∷ [], r) ∷ []) (b ∷ rest) ≡ Some r
unfolding seek param_step
param_last r b rest small plain =
    let apart : (256 == b) ≡ false = grind (arith, nat_tests, small) in
    let whole : length (b ∷ rest) - 1 ≡ length rest = omega arith in
    rw (apart, seek_none 0 rest, plain) (ap (λ o. or_else o None) (all_of_it (length (b ∷ rest) - 1) r rest whole))

-- ---- a meter's readings
abbrev meter_route : RouteOf Route
meter_route = record { pattern = codes "/export/readings/" ++ 256 ∷ []; text = codes "/export/readings/{meter}"; names = (18, 23) ∷ []; value = MeterReadings }

is_free_export : is_free (codes "/export/readings/") route_table ≡ true
unfolding route_table matchit_on_literals
is_free_export = refl

along_export : along (codes "/export/readings/") route_table ≡ (256 ∷ [], meter_route) ∷ []
unfolding route_table matchit_on_literals
along_export = refl

at_each_export : (b : ℕ) (rest : List ℕ) → b < 256 → has_slash (b ∷ rest) ≡ false → route_at (codes "/export/readings/" ++ b ∷ rest) ≡ Some MeterReadings
at_each_export b rest small plain =
    ap (λ o. option_map row_value o) (free_walk (codes "/export/readings/") route_table (b ∷ rest) is_free_export ∙ (ap (λ rs. first rs (b ∷ rest)) along_export ∙ param_last meter_route b rest small plain))

-- ---- a meter's readouts
abbrev tail_route : RouteOf Route
tail_route = record { pattern = codes "/meters/" ++ 256 ∷ codes "/readouts"; text = codes "/meters/{meter}/readouts"; names = (9, 14) ∷ []; value = Readouts }

is_free_meter : is_free (codes "/meters/") route_table ≡ true
unfolding route_table matchit_on_literals
is_free_meter = refl

along_meter : along (codes "/meters/") route_table ≡ (256 ∷ codes "/readouts", tail_route) ∷ []
unfolding route_table matchit_on_literals
along_meter = refl

up_to_slash : (w p : List ℕ) → has_slash w ≡ false → segment (w ++ 47 ∷ p) ≡ w ++ 47 ∷ []
up_to_slash [] p h = refl
up_to_slash (b ∷ w) p h = by (b == 47) h (up_to_slash w p)
  where
    by : (v : Bool) → cond v true (has_slash w) ≡ false → (has_slash w ≡ false → segment (w ++ 47 ∷ p) ≡ w ++ 47 ∷ []) → cond v (b ∷ []) (b ∷ segment (w ++ 47 ∷ p)) ≡ b ∷ w ++ 47 ∷ []
    by true k f = absurd (true≢false k)
    by false k f = ap (λ (t : List ℕ). b ∷ t) (f k)

skipped : (w : List ℕ) (rs : Row) (p : List ℕ) (n : ℕ) → n ≡ length w → seek n rs (w ++ p) ≡ seek 0 rs p
unfolding seek
skipped [] rs p n e = rw e refl
skipped (b ∷ w) rs p zero e = absurd (omega (arith, e))
skipped (b ∷ w) rs p (suc n) e = skipped w rs p n (omega (arith, e))

at_tail : seek 0 ((codes "/readouts", tail_route) ∷ []) (codes "/readouts") ≡ Some tail_route
unfolding seek matchit_on_literals
at_tail = refl

ends : (b : ℕ) (w : List ℕ) → cuts (b ∷ w ++ 47 ∷ []) (47 ∷ []) ≡ true
ends b w =
    let n : length (b ∷ w ++ 47 ∷ []) - 1 ≡ length (b ∷ w) = omega (arith, length-append w (47 ∷ [])) in
    let d : drop (length (b ∷ w ++ 47 ∷ []) - 1) (b ∷ w ++ 47 ∷ []) ≡ 47 ∷ [] = ap (λ (k : ℕ). drop k (b ∷ w ++ 47 ∷ [])) n ∙ drop-append_seam (b ∷ w) (47 ∷ []) in
    let more : 1 < length (b ∷ w ++ 47 ∷ []) = omega (arith, length-append w (47 ∷ [])) in
    let l : ltb 1 (length (b ∷ w ++ 47 ∷ [])) ≡ true = grind (arith, nat_tests, more) in
    rw (l, d) refl

abbrev tail_rows : Row
tail_rows = (codes "/readouts", tail_route) ∷ []

tail_step : (b : ℕ) (w : List ℕ) → has_slash (b ∷ w) ≡ false → param_step tail_rows (b ∷ w ++ codes "/readouts") ≡ (length (b ∷ w), tail_rows)
unfolding param_step
tail_step b w plain =
    let seg : segment (b ∷ w ++ codes "/readouts") ≡ b ∷ w ++ 47 ∷ [] = up_to_slash (b ∷ w) (codes "readouts") plain in
    rw (seg, ends b w) (ap (λ (n : ℕ). (n, tail_rows)) (omega (arith, length-append w (47 ∷ []))))

param_middle : (b : ℕ) (w : List ℕ) → b < 256 → has_slash (b ∷ w) ≡ false → first ((256 ∷ codes "/readouts", tail_route) ∷ []) (b ∷ w ++ codes "/readouts") ≡ Some tail_route
unfolding seek
param_middle b w small plain =
    let apart : (256 == b) ≡ false = grind (arith, nat_tests, small) in
    rw (apart, seek_none 0 (w ++ codes "/readouts"), tail_step b w plain, skipped w tail_rows (codes "/readouts") (length (b ∷ w) - 1) (omega arith), at_tail) refl

at_each_meter : (b : ℕ) (w : List ℕ) → b < 256 → has_slash (b ∷ w) ≡ false → route_at (codes "/meters/" ++ b ∷ w ++ codes "/readouts") ≡ Some Readouts
at_each_meter b w small plain =
    ap (λ o. option_map row_value o) (free_walk (codes "/meters/") route_table (b ∷ w ++ codes "/readouts") is_free_meter ∙ (ap (λ rs. first rs (b ∷ w ++ codes "/readouts")) along_meter ∙ param_middle b w small plain))

meter_is : (id : List ℕ) → meter_in (codes "/meters/" ++ id ++ codes "/readouts") ≡ id
meter_is id =
    let t : List ℕ = codes "/meters/" ++ id ++ codes "/readouts" in
    let e : length t - length (codes "/readouts") ≡ length (codes "/meters/") + length id = omega (arith, length-append id (codes "/readouts")) in
    let front : take (length (codes "/meters/") + length id) t ≡ codes "/meters/" ++ id =
    take-append-add (codes "/meters/") (id ++ codes "/readouts") (length id) ∙ ap (λ (u : List ℕ). codes "/meters/" ++ u) (take-append_seam id (codes "/readouts")) in
    ap (λ (n : ℕ). drop (length (codes "/meters/")) (take n t)) e ∙ ap (drop (length (codes "/meters/"))) front

-- ---- an account, and its months
abbrev account_route : RouteOf Route
account_route = record { pattern = codes "/accounts/" ++ 256 ∷ []; text = codes "/accounts/{account}"; names = (11, 18) ∷ []; value = Account }

abbrev bill_route : RouteOf Route
bill_route = record { pattern = codes "/accounts/" ++ 256 ∷ 47 ∷ 256 ∷ []; text = codes "/accounts/{account}/{month}"; names = (11, 18) ∷ (21, 26) ∷ []; value = Month month.Bill }

abbrev days_route : RouteOf Route
days_route = record { pattern = codes "/accounts/" ++ 256 ∷ 47 ∷ 256 ∷ codes "/days"; text = codes "/accounts/{account}/{month}/days"; names = (11, 18) ∷ (21, 26) ∷ []; value = Month month.Days }

abbrev why_route : RouteOf Route
why_route = record { pattern = codes "/accounts/" ++ 256 ∷ 47 ∷ 256 ∷ codes "/why"; text = codes "/accounts/{account}/{month}/why"; names = (11, 18) ∷ (21, 26) ∷ []; value = Month month.Why }

-- what goes on behind `/accounts/`, behind an account, behind its slash, and behind a month
abbrev account_rows : Row
account_rows = (256 ∷ 47 ∷ 256 ∷ codes "/days", days_route) ∷ (256 ∷ 47 ∷ 256 ∷ codes "/why", why_route) ∷ (256 ∷ 47 ∷ 256 ∷ [], bill_route) ∷ (256 ∷ [], account_route) ∷ []

abbrev account_ends : Row
account_ends = (47 ∷ 256 ∷ codes "/days", days_route) ∷ (47 ∷ 256 ∷ codes "/why", why_route) ∷ (47 ∷ 256 ∷ [], bill_route) ∷ ([], account_route) ∷ []

abbrev slash_rows : Row
slash_rows = (47 ∷ 256 ∷ codes "/days", days_route) ∷ (47 ∷ 256 ∷ codes "/why", why_route) ∷ (47 ∷ 256 ∷ [], bill_route) ∷ []

abbrev month_rows : Row
month_rows = (256 ∷ codes "/days", days_route) ∷ (256 ∷ codes "/why", why_route) ∷ (256 ∷ [], bill_route) ∷ []

abbrev month_ends : Row
month_ends = (codes "/days", days_route) ∷ (codes "/why", why_route) ∷ ([], bill_route) ∷ []

abbrev page_rows : Row
page_rows = (codes "/days", days_route) ∷ (codes "/why", why_route) ∷ []

is_free_account : is_free (codes "/accounts/") route_table ≡ true
unfolding route_table matchit_on_literals
is_free_account = refl

along_account : along (codes "/accounts/") route_table ≡ account_rows
unfolding route_table matchit_on_literals
along_account = refl

-- behind all bytes of a path: the route that ends there
own_at : (n : ℕ) (rs : Row) (p : List ℕ) → n ≡ length p → seek n rs p ≡ own rs
unfolding seek
own_at n rs [] e = refl
own_at zero rs (b ∷ p) e = absurd (omega (arith, e))
own_at (suc n) rs (b ∷ p) e = own_at n rs p (omega (arith, e))

-- rows that all go on with a parameter, and the rows that go on behind it
record GoOn (rs ends : Row) (b : ℕ) : Type 0 where
  bytes : step b rs ≡ []
  param : step param_token rs ≡ ends
  rest : step catch_all_token rs ≡ []

by_param : (rs ends : Row) (b : ℕ) (p : List ℕ) → GoOn rs ends b →
    first rs (b ∷ p) ≡ or_else (seek ((param_step ends (b ∷ p)).0 - 1) (param_step ends (b ∷ p)).1 p) None
unfolding seek
by_param rs ends b p g = rw (g.bytes, g.param, g.rest, seek_none 0 p) refl

accounts_go_on : (b : ℕ) → b < 256 → GoOn account_rows account_ends b
accounts_go_on b small =
    let apart : (256 == b) ≡ false = grind (arith, nat_tests, small) in
    record { bytes = rw apart refl; param = refl; rest = refl }

months_go_on : (b : ℕ) → b < 256 → GoOn month_rows month_ends b
months_go_on b small =
    let apart : (256 == b) ≡ false = grind (arith, nat_tests, small) in
    record { bytes = rw apart refl; param = refl; rest = refl }

-- ---- a word that is the last one
whole_segment : (w : List ℕ) → has_slash w ≡ false → segment w ≡ w
whole_segment [] h = refl
whole_segment (b ∷ w) h = by (b == 47) h (whole_segment w)
  where
    by : (v : Bool) → cond v true (has_slash w) ≡ false → (has_slash w ≡ false → segment w ≡ w) → cond v (b ∷ []) (b ∷ segment w) ≡ b ∷ w
    by true k f = absurd (true≢false k)
    by false k f = ap (λ (t : List ℕ). b ∷ t) (f k)

plain_rest : (b : ℕ) (w : List ℕ) → has_slash (b ∷ w) ≡ false → ((b == 47) ≡ false) × (has_slash w ≡ false)
plain_rest b w h = by (b == 47) h
  where
    by : (v : Bool) → cond v true (has_slash w) ≡ false → (v ≡ false) × (has_slash w ≡ false)
    by true k = absurd (true≢false k)
    by false k = (refl, k)

last_plain : (b : ℕ) (w : List ℕ) → has_slash (b ∷ w) ≡ false → pointwise nat_eq (47 ∷ []) (drop (length w) (b ∷ w)) ≡ false
last_plain b [] h =
    let other : (b == 47) ≡ false = (plain_rest b [] h).0 in
    let apart : nat_eq 47 b ≡ false = grind (arith, nat_tests, other) in
    rw apart refl
last_plain b (c ∷ w) h = last_plain c w (plain_rest b (c ∷ w) h).1

no_cut : (b : ℕ) (w : List ℕ) → has_slash (b ∷ w) ≡ false → cuts (b ∷ w) (47 ∷ []) ≡ false
no_cut b w h =
    let n : length (b ∷ w) - 1 ≡ length w = omega arith in
    let e : pointwise nat_eq (47 ∷ []) (drop (length (b ∷ w) - 1) (b ∷ w)) ≡ false = ap (λ (k : ℕ). pointwise nat_eq (47 ∷ []) (drop k (b ∷ w))) n ∙ last_plain b w h in
    rw e (none (ltb 1 (length (b ∷ w))))
  where
    none : (v : Bool) → (v && false) ≡ false
    none true = refl
    none false = refl

whole_step : (ends : Row) (b : ℕ) (w : List ℕ) → has_slash (b ∷ w) ≡ false → longest_suffix (b ∷ w) ends ≡ [] → param_step ends (b ∷ w) ≡ (length (b ∷ w), ends)
unfolding param_step
whole_step ends b w plain none = rw (whole_segment (b ∷ w) plain, none, plain) refl

last_word : (rs ends : Row) (r : RouteOf Route) (b : ℕ) (w : List ℕ) → GoOn rs ends b → has_slash (b ∷ w) ≡ false → longest_suffix (b ∷ w) ends ≡ [] → own ends ≡ Some r → first rs (b ∷ w) ≡ Some r
last_word rs ends r b w g plain none it =
    let whole : length (b ∷ w) - 1 ≡ length w = omega arith in
    by_param rs ends b w g ∙ rw (whole_step ends b w plain none) (ap (λ o. or_else o None) (own_at (length (b ∷ w) - 1) ends w whole ∙ it))

-- ---- a word with a slash behind it
or_none : (o : Option (RouteOf Route)) → or_else o None ≡ o
or_none None = refl
or_none (Some r) = refl

cut_step : (ends more : Row) (b : ℕ) (w q : List ℕ) → has_slash (b ∷ w) ≡ false → longest_suffix (b ∷ w ++ 47 ∷ []) ends ≡ 47 ∷ [] → with_suffix (47 ∷ []) ends ≡ more →
    param_step ends (b ∷ w ++ 47 ∷ q) ≡ (length (b ∷ w), more)
unfolding param_step
cut_step ends more b w q plain long kept =
    let seg : segment (b ∷ w ++ 47 ∷ q) ≡ b ∷ w ++ 47 ∷ [] = up_to_slash (b ∷ w) q plain in
    rw (seg, long, kept) (ap (λ (n : ℕ). (n, more)) (omega (arith, length-append w (47 ∷ []))))

more_words : (rs ends more : Row) (b : ℕ) (w q : List ℕ) → GoOn rs ends b → has_slash (b ∷ w) ≡ false → longest_suffix (b ∷ w ++ 47 ∷ []) ends ≡ 47 ∷ [] → with_suffix (47 ∷ []) ends ≡ more →
    first rs (b ∷ w ++ 47 ∷ q) ≡ first more (47 ∷ q)
more_words rs ends more b w q g plain long kept =
    by_param rs ends b (w ++ 47 ∷ q) g
    ∙ rw (cut_step ends more b w q plain long kept) (or_none (seek (length (b ∷ w) - 1) more (w ++ 47 ∷ q)) ∙ skipped w more (47 ∷ q) (length (b ∷ w) - 1) (omega arith))

-- ---- which words an account's paths have
account_long : (b : ℕ) (w : List ℕ) → has_slash (b ∷ w) ≡ false → longest_suffix (b ∷ w) account_ends ≡ []
account_long b w plain = rw (no_cut b w plain) refl

month_long : (b : ℕ) (w : List ℕ) → has_slash (b ∷ w) ≡ false → longest_suffix (b ∷ w) month_ends ≡ []
month_long b w plain = rw (no_cut b w plain) refl

account_cut : (b : ℕ) (w : List ℕ) → longest_suffix (b ∷ w ++ 47 ∷ []) account_ends ≡ 47 ∷ []
account_cut b w = rw (ends b w) refl

month_cut : (b : ℕ) (w : List ℕ) → longest_suffix (b ∷ w ++ 47 ∷ []) month_ends ≡ 47 ∷ []
month_cut b w = rw (ends b w) refl

from_accounts : (p : List ℕ) → route_at (codes "/accounts/" ++ p) ≡ option_map row_value (first account_rows p)
from_accounts p = ap (λ o. option_map row_value o) (free_walk (codes "/accounts/") route_table p is_free_account ∙ ap (λ rs. first rs p) along_account)

at_each_account : (b : ℕ) (rest : List ℕ) → b < 256 → has_slash (b ∷ rest) ≡ false → route_at (codes "/accounts/" ++ b ∷ rest) ≡ Some Account
at_each_account b rest small plain =
    from_accounts (b ∷ rest) ∙ ap (λ o. option_map row_value o) (last_word account_rows account_ends account_route b rest (accounts_go_on b small) plain (account_long b rest plain) refl)

behind_account : (b : ℕ) (w q : List ℕ) → b < 256 → has_slash (b ∷ w) ≡ false → first account_rows (b ∷ w ++ 47 ∷ q) ≡ first month_rows q
behind_account b w q small plain =
    more_words account_rows account_ends slash_rows b w q (accounts_go_on b small) plain (account_cut b w) refl ∙ one_byte 47 slash_rows q refl refl

behind_month : (c : ℕ) (w q : List ℕ) → c < 256 → has_slash (c ∷ w) ≡ false → first month_rows (c ∷ w ++ 47 ∷ q) ≡ first page_rows (47 ∷ q)
behind_month c w q small plain = more_words month_rows month_ends page_rows c w q (months_go_on c small) plain (month_cut c w) refl

at_days : first page_rows (codes "/days") ≡ Some days_route
unfolding seek matchit_on_literals
at_days = refl

at_why : first page_rows (codes "/why") ≡ Some why_route
unfolding seek matchit_on_literals
at_why = refl

-- the parts of such a path, told as words behind one another
account_of_path : (b : ℕ) (w q : List ℕ) → has_slash (b ∷ w) ≡ false → account_in (codes "/accounts/" ++ (b ∷ w ++ 47 ∷ q)) ≡ b ∷ w
account_of_path b w q plain = first-word (b ∷ w) q plain

bill_reached : (b : ℕ) (rest : List ℕ) (c : ℕ) (more : List ℕ) → b < 256 → has_slash (b ∷ rest) ≡ false → c < 256 → has_slash (c ∷ more) ≡ false →
    ReachesMonth month.Bill (b ∷ rest) (c ∷ more) (codes "/accounts/" ++ (b ∷ rest ++ 47 ∷ c ∷ more))
bill_reached b rest c more small plain few bare = record {
  route = from_accounts (b ∷ rest ++ 47 ∷ c ∷ more)
      ∙ ap (λ o. option_map row_value o) (behind_account b rest (c ∷ more) small plain ∙ last_word month_rows month_ends bill_route c more (months_go_on c few) bare (month_long c more bare) refl);
  account_is = account_of_path b rest (c ∷ more) plain;
  month_is = ap up-to-slash (rest-behind (b ∷ rest) (c ∷ more) plain) ∙ whole-word (c ∷ more) bare;
}

-- a page behind a month
page_reached : (what : MonthPage) (r : RouteOf Route) (page : List ℕ) → row_value r ≡ Month what → first page_rows (47 ∷ page) ≡ Some r →
    (b : ℕ) (rest : List ℕ) (c : ℕ) (more : List ℕ) → b < 256 → has_slash (b ∷ rest) ≡ false → c < 256 → has_slash (c ∷ more) ≡ false →
    ReachesMonth what (b ∷ rest) (c ∷ more) (codes "/accounts/" ++ (b ∷ rest ++ 47 ∷ (c ∷ more ++ 47 ∷ page)))
page_reached what r page value it b rest c more small plain few bare = record {
  route = from_accounts (b ∷ rest ++ 47 ∷ (c ∷ more ++ 47 ∷ page))
      ∙ ap (λ o. option_map row_value o) (behind_account b rest (c ∷ more ++ 47 ∷ page) small plain ∙ (behind_month c more page few bare ∙ it))
      ∙ ap (λ v. Some v) value;
  account_is = account_of_path b rest (c ∷ more ++ 47 ∷ page) plain;
  month_is = ap up-to-slash (rest-behind (b ∷ rest) (c ∷ more ++ 47 ∷ page) plain) ∙ first-word (c ∷ more) page bare;
}

at_telegrams : route_at (codes "/telegrams") ≡ Some Telegrams
unfolding route_table matchit_on_literals
at_telegrams = refl

at_assignments : route_at (codes "/assignments") ≡ Some Assignments
unfolding route_table matchit_on_literals
at_assignments = refl

at_top_ups : route_at (codes "/topups") ≡ Some TopUps
unfolding route_table matchit_on_literals
at_top_ups = refl

at_withdrawals : route_at (codes "/withdrawals") ≡ Some Withdrawals
unfolding route_table matchit_on_literals
at_withdrawals = refl

at_accounts : route_at (codes "/accounts") ≡ Some (Table table.Accounts)
unfolding route_table matchit_on_literals
at_accounts = refl

at_falls : route_at (codes "/falls") ≡ Some (Table table.Falls)
unfolding route_table matchit_on_literals
at_falls = refl

at_disputes : route_at (codes "/disputes") ≡ Some (Table table.Disputes)
unfolding route_table matchit_on_literals
at_disputes = refl

at_readings : route_at (codes "/export/readings") ≡ Some (Table table.Readings)
unfolding route_table matchit_on_literals
at_readings = refl

at_energy : route_at (codes "/export/energy") ≡ Some (Table table.Energies)
unfolding route_table matchit_on_literals
at_energy = refl

at_all_assignments : route_at (codes "/export/assignments") ≡ Some (Table table.Assignments)
unfolding route_table matchit_on_literals
at_all_assignments = refl

at_all_top_ups : route_at (codes "/export/topups") ≡ Some (Table table.TopUps)
unfolding route_table matchit_on_literals
at_all_top_ups = refl

at_all_withdrawals : route_at (codes "/export/withdrawals") ≡ Some (Table table.Withdrawals)
unfolding route_table matchit_on_literals
at_all_withdrawals = refl

at_page : route_at (codes "/") ≡ Some (File file.Page)
unfolding route_table matchit_on_literals
at_page = refl

at_script : route_at (codes "/page.js") ≡ Some (File file.Script)
unfolding route_table matchit_on_literals
at_script = refl

at_style : route_at (codes "/page.css") ≡ Some (File file.Style)
unfolding route_table matchit_on_literals
at_style = refl

-- `++` and `∷` as the law writes them
three-parts : (b : ℕ) (rest q : List ℕ) → codes "/accounts/" ++ b ∷ rest ++ codes "/" ++ q ≡ codes "/accounts/" ++ (b ∷ rest ++ 47 ∷ q)
three-parts b rest q = ap (λ (t : List ℕ). codes "/accounts/" ++ t) (append_assoc (b ∷ rest) (47 ∷ []) q)

four-parts : (b : ℕ) (rest q page : List ℕ) → codes "/accounts/" ++ b ∷ rest ++ codes "/" ++ q ++ page ≡ codes "/accounts/" ++ (b ∷ rest ++ 47 ∷ (q ++ page))
four-parts b rest q page =
    ap (λ (t : List ℕ). codes "/accounts/" ++ t) (append_assoc (b ∷ rest ++ 47 ∷ []) q page ∙ append_assoc (b ∷ rest) (47 ∷ []) (q ++ page))

bill-reached : (b : ℕ) (rest : List ℕ) (c : ℕ) (more : List ℕ) → b < 256 → has_slash (b ∷ rest) ≡ false → c < 256 → has_slash (c ∷ more) ≡ false →
    ReachesMonth month.Bill (b ∷ rest) (c ∷ more) (codes "/accounts/" ++ b ∷ rest ++ codes "/" ++ c ∷ more)
bill-reached b rest c more small plain few bare =
    let P : List ℕ → Type 0 = λ path. ReachesMonth month.Bill (b ∷ rest) (c ∷ more) path in
    subst P (sym (three-parts b rest (c ∷ more))) (bill_reached b rest c more small plain few bare)

days-reached : (b : ℕ) (rest : List ℕ) (c : ℕ) (more : List ℕ) → b < 256 → has_slash (b ∷ rest) ≡ false → c < 256 → has_slash (c ∷ more) ≡ false →
    ReachesMonth month.Days (b ∷ rest) (c ∷ more) (codes "/accounts/" ++ b ∷ rest ++ codes "/" ++ c ∷ more ++ codes "/days")
days-reached b rest c more small plain few bare =
    let P : List ℕ → Type 0 = λ path. ReachesMonth month.Days (b ∷ rest) (c ∷ more) path in
    subst P (sym (four-parts b rest (c ∷ more) (codes "/days"))) (page_reached month.Days days_route (codes "days") refl at_days b rest c more small plain few bare)

why-reached : (b : ℕ) (rest : List ℕ) (c : ℕ) (more : List ℕ) → b < 256 → has_slash (b ∷ rest) ≡ false → c < 256 → has_slash (c ∷ more) ≡ false →
    ReachesMonth month.Why (b ∷ rest) (c ∷ more) (codes "/accounts/" ++ b ∷ rest ++ codes "/" ++ c ∷ more ++ codes "/why")
why-reached b rest c more small plain few bare =
    let P : List ℕ → Type 0 = λ path. ReachesMonth month.Why (b ∷ rest) (c ∷ more) path in
    subst P (sym (four-parts b rest (c ∷ more) (codes "/why"))) (page_reached month.Why why_route (codes "why") refl at_why b rest c more small plain few bare)

pub paths-reach : PathsReachRoutes
paths-reach = record {
  telegrams = at_telegrams;
  readouts = λ b w small plain. (at_each_meter b w small plain, meter_is (b ∷ w));
  assignments = at_assignments;
  top_ups = at_top_ups;
  withdrawals = at_withdrawals;
  accounts = at_accounts;
  account = λ b w small plain. (at_each_account b w small plain, whole-word (b ∷ w) plain);
  bill = bill-reached;
  days = days-reached;
  why = why-reached;
  falls = at_falls;
  disputes = at_disputes;
  readings = at_readings;
  readings_of = λ b w small plain. (at_each_export b w small plain, refl);
  energies = at_energy;
  all_assignments = at_all_assignments;
  all_top_ups = at_all_top_ups;
  all_withdrawals = at_all_withdrawals;
  page = at_page;
  script = at_script;
  style = at_style;
}
