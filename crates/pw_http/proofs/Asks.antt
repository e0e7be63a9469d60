-- What a look at the first bytes received says of all that is left.
use Rattle.std.proofs.Common.{inl, inr, ◌≡◌, ◌≢◌, ◌<◌, ◌≤◌, ℕ, ◌+◌, ◌-◌, List, [], ◌++◌, length, take, drop, map, codes, Option, Some, None, Bool, true, false, refl, sym, ap, ◌∙◌, append_assoc, arith, length-append, length-drop, min, subst}
use Rattle.std.specs.List.{slice_range, list_any}
use Rattle.std.proofs.lemmas.List.{take-append-le, drop-append-le, length-take, nil_from_length, take_all}
use Rattle.std.proofs.lemmas.List.Folds.{drop_split}
use Rattle.httparse.specs.declared.spans.Span.{Span}
use Rattle.httparse.specs.declared.spans.HeaderSpan.{HeaderSpan}
use Rattle.httparse.specs.declared.spans.RequestSpans.{RequestSpans}
use Rattle.httparse.specs.Grammar.{RequestHead, ReadsRequest, print_request}
use Rattle.httparse.specs.Spans.{header_bytes, span_bytes, IsWithin}
use Rattle.httparse.proofs.GrammarLemmas.{request_unique, ReadsRequest-append}
use Rattle.httparse.proofs.RunLemmas.{length-slice_range}
use Rattle.pw_http.specs.Heads.{IsHead, HasNoHead, headers_of, is_named, values_of}
use Rattle.pw_http.specs.declared.audience.Audience.{Audience}
use Rattle.pw_http.specs.Audience.{lets_in}
use Rattle.pw_http.specs.inner.Received.{IsHeadAt, IsWholeAt, MayHaveHead, Waits}
use Rattle.pw_http.specs.Heads.{longest_head}
use Rattle.pw_http.specs.declared.requests.TheConstants.{ROOM}
use Rattle.pw_http.specs.Requests.{Request, Faulty, Stands, IsWhole, HasNoWhole, request_bytes, is_coded, body_length, closes, asks_close, is_let_in, length_said, longest_body}
use Rattle.pw_http.specs.declared.requests.Refusal.TheVariants.{BadHead, NotForThisServer, NotSupported, BodyTooLarge, BadBody}

-- a head has bytes
pub print_some : (h : RequestHead) → 0 < length (print_request h)
unfolding print_request
print_some h = simp length-append (omega arith)

pub bytes_some : (r : Request) → 0 < length (request_bytes r)
bytes_some r = omega (arith, print_some r.head, length-append (print_request r.head) r.body)

pub nonempty_more : (buf left : List ℕ) → 0 < length buf → buf ++ left ≢ []
nonempty_more buf left some e = omega (arith, ap length e, length-append buf left)

-- a head stands, whatever follows
pub head_more : (buf : List ℕ) (h : RequestHead) (rest more : List ℕ) → IsHead buf h rest → IsHead (buf ++ more) h (rest ++ more)
head_more buf h rest more x = record { reads = ReadsRequest-append buf h rest more x.reads; size = x.size; fields = x.fields }

-- the head in the first bytes is the head of all the bytes
pub head_of_all : (buf front back : List ℕ) (hs : List HeaderSpan) (r : RequestSpans) → buf ≡ front ++ back → (x : IsHeadAt front hs r) → IsHead buf x.head (drop r.len buf)
head_of_all buf front back hs r e x =
    let fits : r.len ≤ length front = x.within.section.len_fits in
    rw (e, drop-append-le r.len front back fits) (head_more front x.head (drop r.len front) back x.is_head)

pub coded_is : (front : List ℕ) (hs : List HeaderSpan) (r : RequestSpans) (x : IsHeadAt front hs r) (b : Bool) → b ≡ list_any (is_named (codes "transfer-encoding")) (map (header_bytes front) (take r.headers hs)) → is_coded x.head ≡ b
coded_is front hs r x b e = sym (e ∙ ap (list_any (is_named (codes "transfer-encoding"))) x.at.fields)

pub close_is : (front : List ℕ) (hs : List HeaderSpan) (r : RequestSpans) (x : IsHeadAt front hs r) (b : Bool) → b ≡ list_any asks_close (map (header_bytes front) (take r.headers hs)) → list_any asks_close (headers_of x.head) ≡ b
close_is front hs r x b e = sym (e ∙ ap (list_any asks_close) x.at.fields)

pub length_is : (front : List ℕ) (hs : List HeaderSpan) (r : RequestSpans) (x : IsHeadAt front hs r) (b : Option ℕ) → b ≡ length_said (values_of (codes "content-length") (map (header_bytes front) (take r.headers hs))) → body_length x.head ≡ b
length_is front hs r x b e = sym (e ∙ ap (λ (fs : List (List ℕ × List ℕ)). length_said (values_of (codes "content-length") fs)) x.at.fields)

slice-append : (front back : List ℕ) (s : Span) → IsWithin (length front) s → span_bytes (front ++ back) s ≡ span_bytes front s
slice-append front back s w =
    let start : s.start ≤ length front = omega (arith, w.0, w.1) in
    let room : s.end - s.start ≤ length (drop s.start front) = omega (arith, w.0, w.1, length-drop s.start front) in
    rw (drop-append-le s.start front back start, take-append-le (s.end - s.start) (drop s.start front) back room) refl

-- a head at the front makes what is left some bytes
some_bytes : (buf : List ℕ) (h : RequestHead) (rest : List ℕ) → IsHead buf h rest → 0 < length buf
some_bytes buf h rest x = omega (arith, print_some h, ap length x.reads.1, length-append (print_request h) rest)

module _ (audience : Audience) where
  -- nothing is no whole request
  pub none_in_nothing : HasNoWhole audience []
  none_in_nothing r rest w e = omega (arith, bytes_some r, ap length e, length-append (request_bytes r) rest)

  whole_reads : (buf : List ℕ) (r : Request) (rest : List ℕ) → IsWhole audience r → buf ≡ request_bytes r ++ rest → ReadsRequest buf r.head (r.body ++ rest)
  whole_reads buf r rest w e = (w.head, e ∙ append_assoc (print_request r.head) r.body rest)

  -- with no head there is no whole request
  pub none_without_head : (buf : List ℕ) → HasNoHead buf → HasNoWhole audience buf
  none_without_head buf none r rest w e = none r.head (r.body ++ rest) (record { reads = whole_reads buf r rest w e; size = w.size; fields = w.fields })

  -- a head whose body has not wholly come is no whole request
  pub none_yet : (buf : List ℕ) (h : RequestHead) (rest : List ℕ) (n : ℕ) → IsHead buf h rest → body_length h ≡ Some n → length rest < n → HasNoWhole audience buf
  none_yet buf h rest n found said short r more w e =
      let same = request_unique buf h r.head rest (r.body ++ more) found.reads (whole_reads buf r more w e) in
      let lengths : Some n ≡ Some (length r.body) = sym said ∙ ap body_length same.0 ∙ w.said in
      let n_is : n ≡ length r.body = cc in
      omega (arith, ap length same.1, length-append r.body more)

  -- a whole request stands at the front
  pub ready : (buf front back : List ℕ) (hs : List HeaderSpan) (r : RequestSpans) (n : ℕ) (closing : Bool) → buf ≡ front ++ back → (x : IsHeadAt front hs r)
      → is_let_in audience x.head ≡ true → is_coded x.head ≡ false → body_length x.head ≡ Some n → n ≤ longest_body → r.len + n ≤ length buf → closes x.head ≡ closing
      → (q : Request) × IsWholeAt audience buf (record { method = r.method; target = r.path; start = r.len; len = r.len + n; closes = closing }) q
  ready buf front back hs r n closing e x lets plain said fits room closed =
      let body = slice_range buf r.len (r.len + n) in
      let all = head_of_all buf front back hs r e x in
      let size : length body ≡ n = length-slice_range buf r.len (r.len + n) (omega arith) room ∙ omega arith in
      let len_fits : r.len ≤ length front = x.within.section.len_fits in
      let method : IsWithin (length front) r.method = (x.within.method.0, omega (arith, x.within.method.1)) in
      let path : IsWithin (length front) r.path = (x.within.path.0, omega (arith, x.within.path.1)) in
      let front_fits : length front ≤ length buf = omega (arith, ap length e, length-append front back) in (
        record { head = x.head; body = body },
        record {
          whole = record { head = all.reads.0; size = x.is_head.size; fields = x.is_head.fields; let_in = lets; plain = plain; said = said ∙ ap (λ (m : ℕ). Some m) (sym size); fits = rw size fits };
          closes_is = closed;
          bytes = all.reads.1 ∙ ap (λ (t : List ℕ). print_request x.head ++ t) (drop_split buf r.len (r.len + n) (omega arith)) ∙ sym (append_assoc (print_request x.head) body (drop (r.len + n) buf));
          method = rw (e, slice-append front back r.method method) x.at.method;
          target = rw (e, slice-append front back r.path path) x.at.path;
          body = refl;
          method_within = (method.0, omega (arith, method.1));
          target_within = (path.0, omega (arith, path.1));
          order = omega arith;
          within = room;
          some = omega (arith, x.at.len, print_some x.head);
        },
      )

  pub let_in_is : (front : List ℕ) (hs : List HeaderSpan) (r : RequestSpans) (x : IsHeadAt front hs r) (b : Bool) → b ≡ lets_in audience (map (header_bytes front) (take r.headers hs)) → is_let_in audience x.head ≡ b
  let_in_is front hs r x b e = sym (e ∙ ap (lets_in audience) x.at.fields)

  pub stands_outside : (buf front back : List ℕ) (hs : List HeaderSpan) (r : RequestSpans) → buf ≡ front ++ back → (x : IsHeadAt front hs r) → is_let_in audience x.head ≡ false → (left : List ℕ) → Stands audience (buf ++ left) (Faulty NotForThisServer)
  stands_outside buf front back hs r e x lets left =
      let all = head_of_all buf front back hs r e x in
      (nonempty_more buf left (some_bytes buf x.head (drop r.len buf) all), (x.head, drop r.len buf ++ left, head_more buf x.head (drop r.len buf) left all, lets))

  pub stands_coded : (buf front back : List ℕ) (hs : List HeaderSpan) (r : RequestSpans) → buf ≡ front ++ back → (x : IsHeadAt front hs r) → is_let_in audience x.head ≡ true → is_coded x.head ≡ true → (left : List ℕ) → Stands audience (buf ++ left) (Faulty NotSupported)
  stands_coded buf front back hs r e x lets coded left =
      let all = head_of_all buf front back hs r e x in
      (nonempty_more buf left (some_bytes buf x.head (drop r.len buf) all), (x.head, drop r.len buf ++ left, head_more buf x.head (drop r.len buf) left all, lets, coded))

  pub stands_unsaid : (buf front back : List ℕ) (hs : List HeaderSpan) (r : RequestSpans) → buf ≡ front ++ back → (x : IsHeadAt front hs r) → is_let_in audience x.head ≡ true → is_coded x.head ≡ false → body_length x.head ≡ None → (left : List ℕ) → Stands audience (buf ++ left) (Faulty BadHead)
  stands_unsaid buf front back hs r e x lets plain said left =
      let all = head_of_all buf front back hs r e x in
      (nonempty_more buf left (some_bytes buf x.head (drop r.len buf) all), inr (x.head, drop r.len buf ++ left, head_more buf x.head (drop r.len buf) left all, lets, plain, said))

  pub stands_large : (buf front back : List ℕ) (hs : List HeaderSpan) (r : RequestSpans) (n : ℕ) → buf ≡ front ++ back → (x : IsHeadAt front hs r) → is_let_in audience x.head ≡ true → is_coded x.head ≡ false → body_length x.head ≡ Some n → longest_body < n → (left : List ℕ) → Stands audience (buf ++ left) (Faulty BodyTooLarge)
  stands_large buf front back hs r n e x lets plain said large left =
      let all = head_of_all buf front back hs r e x in
      (nonempty_more buf left (some_bytes buf x.head (drop r.len buf) all), (x.head, drop r.len buf ++ left, n, head_more buf x.head (drop r.len buf) left all, lets, plain, said, large))

  pub stands_short : (buf front back : List ℕ) (hs : List HeaderSpan) (r : RequestSpans) (n : ℕ) → buf ≡ front ++ back → (x : IsHeadAt front hs r) → is_let_in audience x.head ≡ true → is_coded x.head ≡ false → body_length x.head ≡ Some n → n ≤ longest_body → length buf < r.len + n → (left : List ℕ) → left ≡ [] → Stands audience (buf ++ left) (Faulty BadBody)
  stands_short buf front back hs r n e x lets plain said fits short left none =
      let all = head_of_all buf front back hs r e x in
      let size : length (drop r.len buf ++ left) < n = omega (arith, length-append (drop r.len buf) left, length-drop r.len buf, ap length none, x.at.len, ap length e, length-append front back, x.within.section.len_fits) in
      (nonempty_more buf left (some_bytes buf x.head (drop r.len buf) all), (x.head, drop r.len buf ++ left, n, head_more buf x.head (drop r.len buf) left all, lets, plain, said, fits, size))

  pub stands_bad : (buf front back : List ℕ) → buf ≡ front ++ back → ((more : List ℕ) → HasNoHead (front ++ more)) → 0 < length buf → (left : List ℕ) → Stands audience (buf ++ left) (Faulty BadHead)
  stands_bad buf front back e none some left =
      (nonempty_more buf left some, inl (rw (e, append_assoc) (none (back ++ left))))

  -- a head stands, and its body hasn't wholly come
  pub waits_for_body : (buf front back : List ℕ) (hs : List HeaderSpan) (r : RequestSpans) (n : ℕ) → buf ≡ front ++ back → (x : IsHeadAt front hs r) → is_let_in audience x.head ≡ true → is_coded x.head ≡ false → body_length x.head ≡ Some n → n ≤ longest_body → length buf < r.len + n → Waits audience buf × (length buf < ROOM)
  waits_for_body buf front back hs r n e x lets plain said fits short =
      let all = head_of_all buf front back hs r e x in (
        inr (inr (record { head = x.head; rest = drop r.len buf; size = n; is_head = all; let_in = lets; plain = plain; said = said; fits = fits; short = omega (arith, length-drop r.len buf, ap length e, length-append front back, x.within.section.len_fits) })),
        omega (arith, x.at.len, x.is_head.size),
      )

  -- where the first bytes are fewer than the longest head, they are all
  pub all_of_them : (buf front back : List ℕ) (k : ℕ) → front ≡ take k buf → k ≡ min (length buf) longest_head → MayHaveHead front → Waits audience buf × (length buf < ROOM)
  all_of_them buf front back k e m h =
      let size : length front ≡ min k (length buf) = ap length e ∙ length-take k buf in
      let short = h.short in
      let few : length buf ≤ k = omega (arith, size, short, m) in
      let same : front ≡ buf = e ∙ take_all k buf few in
      (inr (inl (subst MayHaveHead same h)), omega (arith, ap length same, short))

  pub nothing_yet : (buf : List ℕ) → length buf ≡ 0 → Waits audience buf × (length buf < ROOM)
  nothing_yet buf empty = (inl (nil_from_length buf empty), omega (arith, empty))

-- where more bytes are waited for, no whole request stands, whoever is let in
pub none_while_waiting : (audience anybody : Audience) (buf : List ℕ) → Waits audience buf → HasNoWhole anybody buf
none_while_waiting audience anybody buf (inl e) = rw e (none_in_nothing anybody)
none_while_waiting audience anybody buf (inr (inl h)) = none_without_head anybody buf h.none
none_while_waiting audience anybody buf (inr (inr w)) = none_yet anybody buf w.head w.rest w.size w.is_head w.said w.short
