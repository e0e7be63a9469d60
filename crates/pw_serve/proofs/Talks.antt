-- The talk of one connection goes on.
use Rattle.std.proofs.Common.{◌≡◌, ℕ, List, [], ◌∷◌, ◌++◌, true, false, refl, sym, ap, ◌∙◌, append_assoc, subst}
use Rattle.std.proofs.lemmas.List.{append-nil}
use Rattle.std.specs.Io.KnownBytes.{Appends, Consumes, Keeps}
use Rattle.pw_serve.specs.Connections.{Connection}
use Rattle.pw_serve.specs.Exchanges.{Exchange, asked_bytes, bytes_of, is_at_end}
use Rattle.pw_serve.specs.Served.{IsAllOf, Talk}
use Rattle.pw_serve.specs.inner.Peers.{closes_behind}
use Rattle.pw_serve.proofs.Known.{Appends-kept, Appends-none, Appends-then, Consumes-kept, Consumes-none, Consumes-then}
use Rattle.pw_serve.proofs.Own.{asked-more, replies-more, turn-last, turn-still}

pub talk-new : (first now : Connection) → Keeps first.unread now.unread → Keeps first.told now.told → Talk first now [] [] []
talk-new first now x y = record {
  read = Consumes-none first.unread now.unread x;
  in_turn = tt;
  out = [];
  written = Appends-none first.told now.told y;
  replies_are = refl;
}

pub talk-kept : (first now behind : Connection) (own : List Exchange) (rest wait : List ℕ) → Talk first now own rest wait → Keeps now.unread behind.unread → Keeps now.told behind.told → Talk first behind own rest wait
talk-kept first now behind own rest wait t x y = record {
  read = Consumes-kept first.unread now.unread behind.unread (asked_bytes own ++ rest) t.read x;
  in_turn = t.in_turn;
  out = t.out;
  written = Appends-kept first.told now.told behind.told t.out t.written y;
  replies_are = t.replies_are;
}

-- bytes came
pub talk-came : (first now behind : Connection) (own : List Exchange) (rest wait piece : List ℕ) → Talk first now own rest wait → closes_behind own ≡ false → Consumes now.unread behind.unread piece → Keeps now.told behind.told → Talk first behind own (rest ++ piece) wait
talk-came first now behind own rest wait piece t still x y = record {
  read = subst (λ (b : List ℕ). Consumes first.unread behind.unread b) (append_assoc (asked_bytes own) rest piece) (Consumes-then first.unread now.unread behind.unread (asked_bytes own ++ rest) piece t.read x);
  in_turn = turn-still first.unread (asked_bytes own ++ (rest ++ piece)) (rest ++ piece) own still;
  out = t.out;
  written = Appends-kept first.told now.told behind.told t.out t.written y;
  replies_are = t.replies_are;
}

-- bytes were taken
pub talk-sent : (first now behind : Connection) (own : List Exchange) (rest sent left wait : List ℕ) → Talk first now own rest wait → wait ≡ sent ++ left → Keeps now.unread behind.unread → Appends now.told behind.told sent → Talk first behind own rest left
talk-sent first now behind own rest sent left wait t e x y = record {
  read = Consumes-kept first.unread now.unread behind.unread (asked_bytes own ++ rest) t.read x;
  in_turn = t.in_turn;
  out = t.out ++ sent;
  written = Appends-then first.told now.told behind.told t.out sent t.written y;
  replies_are = t.replies_are ∙ ap (λ (b : List ℕ). t.out ++ b) e ∙ sym (append_assoc t.out sent left);
}

-- the bytes of the exchanges and the rest are the same, one exchange later
pub bytes-more : (own : List Exchange) (e : Exchange) (rest more : List ℕ) → rest ≡ bytes_of e.asked ++ more → asked_bytes own ++ rest ≡ asked_bytes (own ++ e ∷ []) ++ more
bytes-more own e rest more h = ap (λ (b : List ℕ). asked_bytes own ++ b) h ∙ sym (append_assoc (asked_bytes own) (bytes_of e.asked) more) ∙ ap (λ (b : List ℕ). b ++ more) (sym (asked-more own e))

-- an exchange
pub talk-more : (first now : Connection) (own : List Exchange) (e : Exchange) (rest more : List ℕ) → Talk first now own rest [] → closes_behind own ≡ false → rest ≡ bytes_of e.asked ++ more → (is_at_end e.asked ≡ true → (more ≡ []) × IsAllOf first.unread (asked_bytes own ++ rest)) → Talk first now (own ++ e ∷ []) more e.reply
talk-more first now own e rest more t still h end =
    let b = bytes-more own e rest more h in
    record {
      read = subst (λ (b : List ℕ). Consumes first.unread now.unread b) b t.read;
      in_turn = turn-last first.unread (asked_bytes (own ++ e ∷ []) ++ more) more own e still (λ x. ((end x).0, subst (λ (b : List ℕ). IsAllOf first.unread b) b (end x).1));
      out = t.out;
      written = t.written;
      replies_are = replies-more own e ∙ ap (λ (b : List ℕ). b ++ e.reply) (t.replies_are ∙ append-nil t.out);
    }
