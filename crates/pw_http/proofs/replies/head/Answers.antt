use Rattle.std.proofs.Common.{◌≡◌, ◌∙◌, List, ℕ, ◌++◌, ap, sym, append_assoc, codes}
use Rattle.std.specs.Prelude.{decimal}
use Rattle.pw_http.specs.Replies.{close_line, content_name, file_headers, reply_head, status_told}
use Rattle.pw_http.specs.inner.Fronts.{rest_of_head}
use Rattle.pw_http.proofs.replies.head.Goals as goal

-- eleven texts, one behind another
joined : (t1 t2 t3 t4 t5 t6 t7 t8 t9 t10 t11 b c d e f g h i j k : List ℕ) {a : List ℕ} → t1 ≡ a → t2 ≡ t1 ++ b → t3 ≡ t2 ++ c → t4 ≡ t3 ++ d → t5 ≡ t4 ++ e → t6 ≡ t5 ++ f → t7 ≡ t6 ++ g
    → t8 ≡ t7 ++ h → t9 ≡ t8 ++ i → t10 ≡ t9 ++ j → t11 ≡ t10 ++ k → t11 ≡ a ++ b ++ c ++ d ++ e ++ f ++ g ++ h ++ i ++ j ++ k
joined t1 t2 t3 t4 t5 t6 t7 t8 t9 t10 t11 b c d e f g h i j k f1 e2 e3 e4 e5 e6 e7 e8 e9 e10 e11 =
    let f2 = e2 ∙ ap (λ t. t ++ b) f1 in
    let f3 = e3 ∙ ap (λ t. t ++ c) f2 in
    let f4 = e4 ∙ ap (λ t. t ++ d) f3 in
    let f5 = e5 ∙ ap (λ t. t ++ e) f4 in
    let f6 = e6 ∙ ap (λ t. t ++ f) f5 in
    let f7 = e7 ∙ ap (λ t. t ++ g) f6 in
    let f8 = e8 ∙ ap (λ t. t ++ h) f7 in
    let f9 = e9 ∙ ap (λ t. t ++ i) f8 in
    let f10 = e10 ∙ ap (λ t. t ++ j) f9 in
    e11 ∙ ap (λ t. t ++ k) f10

pub returns : goal.returns
unfolding reply_head
returns c =
    let number : decimal c.number.result ≡ decimal (status_told c.args.status).0 = ap decimal c.number.ensures in
    let phrase = c.phrase.ensures.text in
    let content = c.content_text.ensures.text in
    let close = c.closing_line.ensures.text in
    let front : List ℕ =
    codes "HTTP/1.1 " ++ decimal (status_told c.args.status).0 ++ codes " " ++ (status_told c.args.status).1 ++ codes "\r\nContent-Type: " ++ content_name c.args.content
    ++ codes "\r\nContent-Length: " ++ decimal c.args.size ++ codes "\r\n" ++ close_line c.args.closing in
    let line : _ ≡ front ++ c.first_end.result.now =
    joined _ _ _ _ _ _ _ _ _ _ _ _ _ _ _ _ _ _ _ _ _ c.line_of-line.ensures.text c.push_number.ensures.text c.push_str.ensures.bytes c.push_str-2.ensures.bytes c.push_str-3.ensures.bytes c.push_str-4.ensures.bytes c.push_str-5.ensures.bytes c.push_number-2.ensures.text c.push_str-6.ensures.bytes c.push_str-7.ensures.bytes c.push_str-8.ensures.bytes
    ∙ (λ i. codes "HTTP/1.1 " ++ number i ++ codes " " ++ phrase i ++ codes "\r\nContent-Type: " ++ content i ++ codes "\r\nContent-Length: " ++ decimal c.args.size ++ codes "\r\n" ++ close i ++ c.first_end.result.now) in
    ap (λ (t : List ℕ). t ++ rest_of_head c.args.content) line
    ∙ append_assoc front c.first_end.result.now (rest_of_head c.args.content)
    ∙ ap (λ (t : List ℕ). front ++ t) c.first_end.ensures.text
    ∙ sym (append_assoc front (file_headers c.args.content) (codes "\r\n"))
