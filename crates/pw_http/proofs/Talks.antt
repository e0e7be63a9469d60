-- Conversations that go on.
use Rattle.std.proofs.Common.{◌≡◌, ℕ, ◌+◌, List, [], ◌∷◌, ◌++◌, take, Some, None, true, false, refl, sym, ap, ◌∙◌, append_assoc, arith, length-append}
use Rattle.std.specs.List.{flat_map}
use Rattle.std.proofs.lemmas.Grind.{flat_map-append}
use Rattle.std.proofs.lemmas.List.{append-nil}
use Rattle.std.proofs.lemmas.List.Elements.{All-append, All-nil}
use Rattle.pw_http.specs.declared.audience.Audience.{Audience}
use Rattle.pw_http.specs.Requests.{Request, Asked, Whole, Stands, is_last, Begins, GoesOn, request_bytes}
use Rattle.pw_http.specs.Replies.{Reply, reply_bytes}
use Rattle.pw_http.specs.Runs.{Asking, Step, Run, Told, Conversation, Cut, replies_text}

module _ (audience : Audience) {S : Type 0} (serves : S → Asking → Reply → S → Type 0) where
  -- a run goes on with another
  pub Run-then : (a b c : S) (rs qs : List Request) (us vs : List Reply) → Run serves a rs us b → Run serves b qs vs c → Run serves a (rs ++ qs) (us ++ vs) c
  Run-then a b c [] qs [] vs x y = rw (← x) y
  Run-then a b c [] qs (u ∷ us) vs x y = absurd x
  Run-then a b c (r ∷ rs) qs [] vs x y = absurd x
  Run-then a b c (r ∷ rs) qs (u ∷ us) vs x y = (x.0, x.1, Run-then x.0 b c rs qs us vs x.2 y)

  -- so does what a stream begins with
  pub Begins-then : (g r p s : List ℕ) (rs qs : List Request) → Begins audience g rs r → Begins audience (r ++ p) qs s → Begins audience (g ++ p) (rs ++ qs) s
  Begins-then g r p s rs qs x y = record {
    bytes =
        ap (λ (t : List ℕ). t ++ p) x.bytes
        ∙ append_assoc (flat_map request_bytes rs) r p
        ∙ ap (λ (t : List ℕ). flat_map request_bytes rs ++ t) y.bytes
        ∙ sym (append_assoc (flat_map request_bytes rs) (flat_map request_bytes qs) s)
        ∙ ap (λ (t : List ℕ). t ++ s) (sym (flat_map-append request_bytes rs qs));
    each = All-append (GoesOn audience) rs qs x.each y.each;
  }

  pub texts-then : (us vs : List Reply) → replies_text (us ++ vs) ≡ replies_text us ++ replies_text vs
  texts-then us vs = flat_map-append (reply_bytes false) us vs

  -- what was told goes on with what is told next, of the rest and more bytes
  pub Told-then : (a b c : S) (g r p s t u : List ℕ) (m n : ℕ) → Told audience serves a g t m b r → Told audience serves b (r ++ p) u n c s → Told audience serves a (g ++ p) (t ++ u) (m + n) c s
  Told-then a b c g r p s t u m n x y = record {
    requests = x.requests ++ y.requests;
    replies = x.replies ++ y.replies;
    begins = Begins-then g r p s x.requests y.requests x.begins y.begins;
    run = Run-then a b c x.requests y.requests x.replies y.replies x.run y.run;
    text_is = rw (x.text_is, y.text_is) (sym (texts-then x.replies y.replies));
    count_is = omega (arith, x.count_is, y.count_is, length-append x.replies y.replies);
  }

  -- a conversation over the rest and more bytes
  pub Told-ends : (a b c : S) (g r p t u : List ℕ) (m n : ℕ) → Told audience serves a g t m b r → Conversation audience serves b (r ++ p) u n c → Conversation audience serves a (g ++ p) (t ++ u) (m + n) c
  Told-ends a b c g r p t u m n x y = record {
    requests = x.requests ++ y.requests;
    last = y.last;
    are = record { rest = y.are.rest; begins = Begins-then g r p y.are.rest x.requests y.requests x.begins y.are.begins; ends = y.are.ends };
    replies = x.replies ++ y.replies;
    mid = y.mid;
    run = Run-then a b y.mid x.requests y.requests x.replies y.replies x.run y.run;
    end_text = y.end_text;
    end_count = y.end_count;
    ends = y.ends;
    text_is = rw (x.text_is, y.text_is, texts-then x.replies y.replies) (sym (append_assoc (replies_text x.replies) (replies_text y.replies) y.end_text));
    count_is = omega (arith, x.count_is, y.count_is, length-append x.replies y.replies);
  }

  pub Told-cut : (a b c : S) (g r p t u : List ℕ) (m : ℕ) → Told audience serves a g t m b r → Cut audience serves b (r ++ p) u c → Cut audience serves a (g ++ p) (t ++ u) c
  Told-cut a b c g r p t u m x y = record {
    before = t ++ y.before;
    count = m + y.count;
    mid = y.mid;
    rest = y.rest;
    told = Told-then a b y.mid g r p y.rest t y.before m y.count x y.told;
    asked = y.asked;
    stands = y.stands;
    reply = y.reply;
    step = y.step;
    taken = y.taken;
    text_is = ap (λ (w : List ℕ). t ++ w) y.text_is ∙ sym (append_assoc t y.before (take y.taken (reply_bytes (is_last y.asked) y.reply)));
  }

  -- nothing was told yet
  pub Told-nothing : (a : S) (g : List ℕ) → Told audience serves a g [] 0 a g
  Told-nothing a g = record { requests = []; replies = []; begins = record { bytes = refl; each = All-nil (GoesOn audience) }; run = refl; text_is = refl; count_is = refl }

  -- one request was answered
  pub Told-one : (a b : S) (g s : List ℕ) (r : Request) (reply : Reply) → (GoesOn audience) r → g ≡ request_bytes r ++ s → Step serves a (Whole r) reply b → Told audience serves a g (reply_bytes false reply) 1 b s
  Told-one a b g s r reply goes bytes step = record {
    requests = r ∷ [];
    replies = reply ∷ [];
    begins = record { bytes = bytes ∙ sym (append_assoc (request_bytes r) [] s); each = grind (arith, goes) };
    run = (b, step, refl);
    text_is = sym (append-nil (reply_bytes false reply));
    count_is = refl;
  }

  -- more bytes came
  pub Told-more : (a b : S) (g r p t : List ℕ) (m : ℕ) → Told audience serves a g t m b r → Told audience serves a (g ++ p) t m b (r ++ p)
  Told-more a b g r p t m x = record {
    requests = x.requests;
    replies = x.replies;
    begins = record { bytes = ap (λ (w : List ℕ). w ++ p) x.begins.bytes ∙ append_assoc (flat_map request_bytes x.requests) r p; each = x.begins.each };
    run = x.run;
    text_is = x.text_is;
    count_is = x.count_is;
  }

  -- a conversation of one last reply, and of none
  pub one-last : (a b : S) (g : List ℕ) (asked : Asked) (reply : Reply) → Stands audience g asked → is_last asked ≡ true → Step serves a asked reply b → Conversation audience serves a g (reply_bytes true reply) 1 b
  one-last a b g asked reply stands last step = record {
    requests = [];
    last = Some asked;
    are = record { rest = g; begins = record { bytes = refl; each = All-nil (GoesOn audience) }; ends = (stands, last) };
    replies = [];
    mid = a;
    run = refl;
    end_text = reply_bytes true reply;
    end_count = 1;
    ends = (reply, step, rw last refl, refl);
    text_is = refl;
    count_is = refl;
  }

  pub none-left : (a : S) → Conversation audience serves a [] [] 0 a
  none-left a = record {
    requests = [];
    last = None;
    are = record { rest = []; begins = record { bytes = refl; each = All-nil (GoesOn audience) }; ends = refl };
    replies = [];
    mid = a;
    run = refl;
    end_text = [];
    end_count = 0;
    ends = (refl, refl, refl);
    text_is = refl;
    count_is = refl;
  }

  -- a reply that was cut
  pub one-cut : (a b : S) (g : List ℕ) (asked : Asked) (reply : Reply) (n : ℕ) → Stands audience g asked → Step serves a asked reply b → Cut audience serves a g (take n (reply_bytes (is_last asked) reply)) b
  one-cut a b g asked reply n stands step = record {
    before = [];
    count = 0;
    mid = a;
    rest = g;
    told = Told-nothing a g;
    asked = asked;
    stands = stands;
    reply = reply;
    step = step;
    taken = n;
    text_is = refl;
  }

  -- what was told goes on by one reply, ends with one, or is cut in one
  pub Told-on : (a b c : S) (g r s t : List ℕ) (m : ℕ) (q : Request) (reply : Reply) → Told audience serves a g t m b r → (GoesOn audience) q → r ≡ request_bytes q ++ s → Step serves b (Whole q) reply c → Told audience serves a g (t ++ reply_bytes false reply) (m + 1) c s
  Told-on a b c g r s t m q reply x goes bytes step =
      let y : Told audience serves b (r ++ []) (reply_bytes false reply) 1 c s = Told-one b c (r ++ []) s q reply goes (append-nil r ∙ bytes) step in
      rw append-nil at (Told-then a b c g r [] s t (reply_bytes false reply) m 1 x y)

  pub Told-last : (a b c : S) (g r p t : List ℕ) (m : ℕ) (asked : Asked) (reply : Reply) → Told audience serves a g t m b r → Stands audience (r ++ p) asked → is_last asked ≡ true → Step serves b asked reply c → Conversation audience serves a (g ++ p) (t ++ reply_bytes true reply) (m + 1) c
  Told-last a b c g r p t m asked reply x stands last step = Told-ends a b c g r p t (reply_bytes true reply) m 1 x (one-last b c (r ++ p) asked reply stands last step)

  pub Told-cut_short : (a b c : S) (g r p t : List ℕ) (m : ℕ) (asked : Asked) (reply : Reply) (n : ℕ) → Told audience serves a g t m b r → Stands audience (r ++ p) asked → Step serves b asked reply c → Cut audience serves a (g ++ p) (t ++ take n (reply_bytes (is_last asked) reply)) c
  Told-cut_short a b c g r p t m asked reply n x stands step = Told-cut a b c g r p t (take n (reply_bytes (is_last asked) reply)) m x (one-cut b c (r ++ p) asked reply n stands step)
