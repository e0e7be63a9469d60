use Rattle.std.proofs.Common.{◌∙◌, sym, ap, length, codes, map, ℕ, List}
use Rattle.std.specs.Prelude.{◌≢◌}
use Rattle.httparse.specs.Spans.{header_bytes}
use Rattle.pw_http.specs.Audience.{is_known_host, is_known_page}
use Rattle.pw_http.specs.Heads.{values_of}
use Rattle.pw_http.specs.inner.Fields.{first_value}
use Rattle.pw_http.proofs.Values.{host-told, both-told, page-alone, pages-told, hosts-told}
use Rattle.pw_http.proofs.audience.is_let_in.Goals as goal

pub returns-in-1-eq0 : goal.returns-in-1-eq0
returns-in-1-eq0 c =
    let hs = values_of (codes "host") (map (header_bytes c.args.buf.now) c.args.spans.now) in
    let ps = values_of (codes "origin") (map (header_bytes c.args.buf.now) c.args.spans.now) in
    let told = host-told c.in-Here.origins.now hs ps (sym c.count_of.ensures ∙ c.in-1-eq0.is-0) (sym c.count_of-2.ensures ∙ c.in-1-eq0.is-1) in
    rw c.in-Here.is (c.is_known_host.ensures ∙ ap (is_known_host c.in-Here.origins.now) c.value_of-host.ensures ∙ sym told)

pub returns-in-1-eq1 : goal.returns-in-1-eq1
returns-in-1-eq1 c =
    let hs = values_of (codes "host") (map (header_bytes c.args.buf.now) c.args.spans.now) in
    let ps = values_of (codes "origin") (map (header_bytes c.args.buf.now) c.args.spans.now) in
    let told = both-told c.in-Here.origins.now hs ps (sym c.count_of.ensures ∙ c.in-1-eq1.is-0) (sym c.count_of-2.ensures ∙ c.in-1-eq1.is-1) in
    let host = ap (λ (h : List ℕ). is_known_page c.in-Here.origins.now h c.value_of-page.result.now) c.value_of-host.ensures in
    rw c.in-Here.is (c.is_known_page.ensures ∙ host ∙ ap (is_known_page c.in-Here.origins.now (first_value hs)) c.value_of-page.ensures ∙ sym told)

pub returns-in_default-2 : goal.returns-in_default-2
returns-in_default-2 c =
    let hs = values_of (codes "host") (map (header_bytes c.args.buf.now) c.args.spans.now) in
    let ps = values_of (codes "origin") (map (header_bytes c.args.buf.now) c.args.spans.now) in
    let some : length ps ≢ 0 = λ e. c.in_default-2.is-1.1 (c.count_of-2.ensures ∙ e) in
    rw c.in-Here.is (sym (page-alone c.in-Here.origins.now hs ps (sym c.count_of.ensures ∙ c.in_default-2.is-0) some))

pub returns-in_default-2-2 : goal.returns-in_default-2-2
returns-in_default-2-2 c =
    let hs = values_of (codes "host") (map (header_bytes c.args.buf.now) c.args.spans.now) in
    let ps = values_of (codes "origin") (map (header_bytes c.args.buf.now) c.args.spans.now) in
    let some : length ps ≢ 0 = λ e. c.in_default-2.is-1.0.1 (c.count_of-2.ensures ∙ e) in
    let more : length ps ≢ 1 = λ e. c.in_default-2.is-1.1 (c.count_of-2.ensures ∙ e) in
    rw c.in-Here.is (sym (pages-told c.in-Here.origins.now hs ps (sym c.count_of.ensures ∙ c.in_default-2.is-0) some more))

pub returns-in_default-2-3 : goal.returns-in_default-2-3
returns-in_default-2-3 c =
    let hs = values_of (codes "host") (map (header_bytes c.args.buf.now) c.args.spans.now) in
    let ps = values_of (codes "origin") (map (header_bytes c.args.buf.now) c.args.spans.now) in
    let some : length hs ≢ 0 = λ e. c.in_default-2.is-0.0.1 (c.count_of.ensures ∙ e) in
    let more : length hs ≢ 1 = λ e. c.in_default-2.is-0.1 (c.count_of.ensures ∙ e) in
    rw c.in-Here.is (sym (hosts-told c.in-Here.origins.now hs ps some more))
