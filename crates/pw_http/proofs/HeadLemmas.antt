-- A head that fits in the bytes read so far stands in them, whatever follows.
use Rattle.std.proofs.Common.{◌≡◌, ◌≤◌, ℕ, List, length, drop, take, ◌++◌, ◌∙◌, sym, ap, arith}
use Rattle.std.proofs.Math.Seq.{take-append_seam}
use Rattle.std.proofs.lemmas.List.{take-append-le, take-append-drop}
use Rattle.httparse.specs.Grammar.{print_request, HasNoRequest}
use Rattle.pw_http.specs.Heads.{HasNoHead, longest_head}

pub front_fits : (text buf rest more : List ℕ) → text ++ rest ≡ buf ++ more → length text ≤ length buf → buf ≡ text ++ drop (length text) buf
front_fits text buf rest more e fits =
    let one : take (length text) buf ≡ text = sym (take-append-le (length text) buf more fits) ∙ (ap (take (length text)) (sym e) ∙ take-append_seam text rest) in
    sym (take-append-drop (length text) buf) ∙ ap (λ t. t ++ drop (length text) buf) one

-- no head stands in a full buffer, so none of at most that size can come
pub full_has_none : (buf : List ℕ) → HasNoRequest buf → longest_head ≤ length buf → (more : List ℕ) → HasNoHead (buf ++ more)
full_has_none buf none full more h rest found =
    let e : print_request h ++ rest ≡ buf ++ more = sym found.reads.1 in
    let size : length (print_request h) ≤ longest_head = found.size in
    let fits : length (print_request h) ≤ length buf = omega arith in
    none h (drop (length (print_request h)) buf) (found.reads.0, front_fits (print_request h) buf rest more e fits)
