use Rattle.std.proofs.Common.{◌≡◌, ◌≢◌, ◌<◌, ℕ, List, length, take, drop, sym, ◌∙◌, arith, false}
use Rattle.std.specs.Prelude.{◌==◌}
use Rattle.std.proofs.lemmas.List.{take-append-drop}
use Rattle.pw_http.proofs.Asks.{coded_is, close_is, length_is, let_in_is, ready, stands_outside, stands_coded, stands_unsaid, stands_large, stands_short, stands_bad, waits_for_body, nothing_yet}
use Rattle.pw_http.proofs.requests.ask_next.Goals as goal

not_zero : (n : ℕ) → n ≢ 0 → (n == 0) ≡ false
not_zero n h = grind (arith, h)

some_if : (buf : List ℕ) → (length buf == 0) ≡ false → 0 < length buf
some_if buf h = grind (arith, h)

pub returns-then-not-is_let_in-clause-next : goal.returns-then-not-is_let_in-clause-next
returns-then-not-is_let_in-clause-next c =
    let buf = c.args.buf.now in
    let k = c.min.result in
    let x = c.in-Head.ensures.outcome in
    λ left _. stands_outside c.args.audience buf (take k buf) (drop k buf) _ c.in-Head.head (sym (take-append-drop k buf)) x (let_in_is c.args.audience _ _ _ x c.is_let_in.result c.is_let_in.ensures ∙ c.if-not-is_let_in.true) left

pub returns-then-has_named-clause-next : goal.returns-then-has_named-clause-next
returns-then-has_named-clause-next c =
    let buf = c.args.buf.now in
    let k = c.min.result in
    let x = c.in-Head.ensures.outcome in
    λ left _. stands_coded c.args.audience buf (take k buf) (drop k buf) _ c.in-Head.head (sym (take-append-drop k buf)) x (let_in_is c.args.audience _ _ _ x c.is_let_in.result c.is_let_in.ensures ∙ c.if-not-is_let_in.false) (coded_is _ _ _ x c.has_named.result c.has_named.ensures ∙ c.if-has_named.true) left

pub returns-in_default-clause-next : goal.returns-in_default-clause-next
returns-in_default-clause-next c =
    let buf = c.args.buf.now in
    let k = c.min.result in
    let x = c.in-Head.ensures.outcome in
    λ left _. stands_unsaid c.args.audience buf (take k buf) (drop k buf) _ c.in-Head.head (sym (take-append-drop k buf)) x
    (let_in_is c.args.audience _ _ _ x c.is_let_in.result c.is_let_in.ensures ∙ c.if-not-is_let_in.false) (coded_is _ _ _ x c.has_named.result c.has_named.ensures ∙ c.if-has_named.false) (length_is _ _ _ x c.said_length.result c.said_length.ensures ∙ c.in_default.is) left

pub returns-then-length-clause-next : goal.returns-then-length-clause-next
returns-then-length-clause-next c =
    let buf = c.args.buf.now in
    let k = c.min.result in
    let x = c.in-Head.ensures.outcome in
    λ left _. stands_large c.args.audience buf (take k buf) (drop k buf) _ c.in-Head.head c.in-Some.length (sym (take-append-drop k buf)) x
    (let_in_is c.args.audience _ _ _ x c.is_let_in.result c.is_let_in.ensures ∙ c.if-not-is_let_in.false) (coded_is _ _ _ x c.has_named.result c.has_named.ensures ∙ c.if-has_named.false) (length_is _ _ _ x _ c.in-Some.ensures) (omega (arith, c.if-length.true)) left

pub returns-then-head-eq0-clause-next : goal.returns-then-head-eq0-clause-next
returns-then-head-eq0-clause-next c =
    let buf = c.args.buf.now in
    let k = c.min.result in
    let x = c.in-Head.ensures.outcome in
    ready c.args.audience buf (take k buf) (drop k buf) _ c.in-Head.head c.in-Some.length _ (sym (take-append-drop k buf)) x
    (let_in_is c.args.audience _ _ _ x c.is_let_in.result c.is_let_in.ensures ∙ c.if-not-is_let_in.false) (coded_is _ _ _ x c.has_named.result c.has_named.ensures ∙ c.if-has_named.false) (length_is _ _ _ x _ c.in-Some.ensures) (omega (arith, c.if-length.false)) (omega (arith, c.if-len-buf.true))
    (grind (arith, x.at.version, c.if-head-eq0.true))

pub returns-else-head-eq0-clause-next : goal.returns-else-head-eq0-clause-next
returns-else-head-eq0-clause-next c =
    let buf = c.args.buf.now in
    let k = c.min.result in
    let x = c.in-Head.ensures.outcome in
    let close = close_is _ _ _ x c.has_close.result c.has_close.ensures in
    ready c.args.audience buf (take k buf) (drop k buf) _ c.in-Head.head c.in-Some.length _ (sym (take-append-drop k buf)) x
    (let_in_is c.args.audience _ _ _ x c.is_let_in.result c.is_let_in.ensures ∙ c.if-not-is_let_in.false) (coded_is _ _ _ x c.has_named.result c.has_named.ensures ∙ c.if-has_named.false) (length_is _ _ _ x _ c.in-Some.ensures) (omega (arith, c.if-length.false)) (omega (arith, c.if-len-buf.true))
    (rw (← x.at.version, not_zero c.in-Head.head.version c.if-head-eq0.false) close)

pub returns-in-Bad-clause-next : goal.returns-in-Bad-clause-next
returns-in-Bad-clause-next c =
    let buf = c.args.buf.now in
    let k = c.min.result in
    λ left _. stands_bad c.args.audience buf (take k buf) (drop k buf) (sym (take-append-drop k buf)) c.in-Bad.ensures.outcome (some_if buf (sym c.is_empty.ensures ∙ c.if-is_empty.false)) left

pub returns-then-ended-3-clause-next : goal.returns-then-ended-3-clause-next
returns-then-ended-3-clause-next c =
    let buf = c.args.buf.now in
    let k = c.min.result in
    let x = c.in-Head.ensures.outcome in
    λ left none. stands_short c.args.audience buf (take k buf) (drop k buf) _ c.in-Head.head c.in-Some.length (sym (take-append-drop k buf)) x
    (let_in_is c.args.audience _ _ _ x c.is_let_in.result c.is_let_in.ensures ∙ c.if-not-is_let_in.false) (coded_is _ _ _ x c.has_named.result c.has_named.ensures ∙ c.if-has_named.false) (length_is _ _ _ x _ c.in-Some.ensures) (omega (arith, c.if-length.false)) (omega (arith, c.if-len-buf.false)) left (none c.if-ended-3.true)

pub returns-else-ended-3-clause-next : goal.returns-else-ended-3-clause-next
returns-else-ended-3-clause-next c =
    let buf = c.args.buf.now in
    let k = c.min.result in
    let x = c.in-Head.ensures.outcome in
    let w = waits_for_body c.args.audience buf (take k buf) (drop k buf) _ c.in-Head.head c.in-Some.length (sym (take-append-drop k buf)) x (let_in_is c.args.audience _ _ _ x c.is_let_in.result c.is_let_in.ensures ∙ c.if-not-is_let_in.false) (coded_is _ _ _ x c.has_named.result c.has_named.ensures ∙ c.if-has_named.false) (length_is _ _ _ x _ c.in-Some.ensures) (omega (arith, c.if-length.false)) (omega (arith, c.if-len-buf.false)) in
    (w.0, c.if-ended-3.false, w.1)

pub returns-else-ended-clause-next : goal.returns-else-ended-clause-next
returns-else-ended-clause-next c =
    let empty : length c.args.buf.now ≡ 0 = grind (arith, c.is_empty.ensures, c.if-is_empty.true) in
    let w = nothing_yet c.args.audience c.args.buf.now empty in
    (w.0, c.if-ended.false, w.1)
