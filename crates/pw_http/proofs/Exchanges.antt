-- A conversation as a chain of exchanges, and one whose steps do more than was asked.
use Rattle.std.proofs.Common.{ℕ, List, [], ◌∷◌, ◌++◌, Option, Some, None, refl}
use Rattle.pw_http.specs.declared.audience.Audience.{Audience}
use Rattle.pw_http.specs.Replies.{Reply}
use Rattle.pw_http.specs.Requests.{Request, Asked, Whole, Faulty}
use Rattle.pw_http.specs.Runs.{Asking, Chain, Conversation, Cut, EndsWith, Interrupted, Run, Step, Told, asking_of, cut_exchanges, exchanges, last_pair, pairs, told_exchanges}

module _ (audience : Audience) {S : Type 0} (serves : S → Asking → Reply → S → Type 0) where
  run-chain : (a b c : S) (rs : List Request) (us : List Reply) (es : List (Asked × Reply)) → Run serves a rs us b → Chain (Step serves) b es c → Chain (Step serves) a (pairs rs us ++ es) c
  run-chain a b c [] [] es x y = rw (← x) y
  run-chain a b c [] (u ∷ us) es x y = absurd x
  run-chain a b c (r ∷ rs) [] es x y = absurd x
  run-chain a b c (r ∷ rs) (u ∷ us) es x y = (x.0, x.1, run-chain x.0 b c rs us es x.2 y)

  run-alone : (a b : S) (rs : List Request) (us : List Reply) → Run serves a rs us b → Chain (Step serves) a (pairs rs us) b
  run-alone a b [] [] x = x
  run-alone a b [] (u ∷ us) x = absurd x
  run-alone a b (r ∷ rs) [] x = absurd x
  run-alone a b (r ∷ rs) (u ∷ us) x = (x.0, x.1, run-alone x.0 b rs us x.2)

  last-chain : (b c : S) (last : Option Asked) (text : List ℕ) (count : ℕ) (ends : EndsWith serves b last text count c) → Chain (Step serves) b (last_pair serves b c text count last ends) c
  last-chain b c None text count ends = ends.2
  last-chain b c (Some asked) text count ends = (c, ends.1, refl)

  pub chain-of : (a c : S) (stream text : List ℕ) (count : ℕ) (t : Conversation audience serves a stream text count c) → Chain (Step serves) a (exchanges audience serves t) c
  chain-of a c stream text count t =
      run-chain a t.mid c t.requests t.replies (last_pair serves t.mid c t.end_text t.end_count t.last t.ends) t.run (last-chain t.mid c t.last t.end_text t.end_count t.ends)

  pub chain-told : (a b : S) (got text : List ℕ) (count : ℕ) (rest : List ℕ) (t : Told audience serves a got text count b rest) → Chain (Step serves) a (told_exchanges audience serves t) b
  chain-told a b got text count rest t = run-alone a b t.requests t.replies t.run

  pub chain-cut : (a c : S) (stream text : List ℕ) (t : Cut audience serves a stream text c) → Chain (Step serves) a (cut_exchanges audience serves t) c
  chain-cut a c stream text t = run-chain a t.mid c t.told.requests t.told.replies ((t.asked, t.reply) ∷ []) t.told.run (c, t.step, refl)

-- where each answer is also one of the others, so is each run
module _ (audience : Audience) {S : Type 0} (serves others : S → Asking → Reply → S → Type 0) (f : (a : S) (asking : Asking) (reply : Reply) (b : S) → serves a asking reply b → others a asking reply b) where
  step-also : (a : S) (asked : Asked) (reply : Reply) (b : S) → Step serves a asked reply b → Step others a asked reply b
  step-also a (Whole r) reply b x = f a (asking_of r) reply b x
  step-also a (Faulty why) reply b x = x

  run-also : (a b : S) (rs : List Request) (us : List Reply) → Run serves a rs us b → Run others a rs us b
  run-also a b [] [] x = x
  run-also a b [] (u ∷ us) x = absurd x
  run-also a b (r ∷ rs) [] x = absurd x
  run-also a b (r ∷ rs) (u ∷ us) x = (x.0, step-also a (Whole r) u x.0 x.1, run-also x.0 b rs us x.2)

  ends-also : (b c : S) (last : Option Asked) (text : List ℕ) (count : ℕ) → EndsWith serves b last text count c → EndsWith others b last text count c
  ends-also b c None text count x = x
  ends-also b c (Some asked) text count x = (x.0, step-also b asked x.0 c x.1, x.2, x.3)

  pub told-also : (a b : S) (got text : List ℕ) (count : ℕ) (rest : List ℕ) → Told audience serves a got text count b rest → Told audience others a got text count b rest
  told-also a b got text count rest t = record {
    requests = t.requests;
    replies = t.replies;
    begins = t.begins;
    run = run-also a b t.requests t.replies t.run;
    text_is = t.text_is;
    count_is = t.count_is;
  }

  pub talk-also : (a c : S) (stream text : List ℕ) (count : ℕ) → Conversation audience serves a stream text count c → Conversation audience others a stream text count c
  talk-also a c stream text count t = record {
    requests = t.requests;
    last = t.last;
    are = t.are;
    replies = t.replies;
    mid = t.mid;
    run = run-also a t.mid t.requests t.replies t.run;
    end_text = t.end_text;
    end_count = t.end_count;
    ends = ends-also t.mid c t.last t.end_text t.end_count t.ends;
    text_is = t.text_is;
    count_is = t.count_is;
  }

  pub cut-also : (a c : S) (stream text : List ℕ) → Cut audience serves a stream text c → Cut audience others a stream text c
  cut-also a c stream text t = record {
    before = t.before;
    count = t.count;
    mid = t.mid;
    rest = t.rest;
    told = told-also a t.mid stream t.before t.count t.rest t.told;
    asked = t.asked;
    stands = t.stands;
    reply = t.reply;
    step = step-also t.mid t.asked t.reply c t.step;
    taken = t.taken;
    text_is = t.text_is;
  }

  pub interrupted-also : (unread left known after : Option (List ℕ)) (a b : S) → Interrupted audience serves unread left known after a b → Interrupted audience others unread left known after a b
  interrupted-also unread left known after a b t = record {
    got = t.got;
    text = t.text;
    count = t.count;
    rest = t.rest;
    consumed = t.consumed;
    written = t.written;
    told = told-also a b t.got t.text t.count t.rest t.told;
    no_other = t.no_other;
  }
