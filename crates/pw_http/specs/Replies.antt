-- The bytes of a reply. (RFC 9112; the phrases are those of RFC 9110, but 413, which `http` calls by its older name.)
use Rattle.std.specs.Prelude.{ℕ, List, Bool, [], ◌++◌, length, codes, decimal, if◌then◌else◌}
use Rattle.pw_page.specs.declared.File.TheVariants as file
use Rattle.pw_http.specs.declared.replies.ContentType.{ContentType}
use Rattle.pw_http.specs.declared.replies.ContentType.TheVariants.{Plain, Csv, File}
use Rattle.pw_http.specs.declared.replies.Status.{Status}
use Rattle.pw_http.specs.declared.replies.Status.TheVariants.{Fine, BadRequest, Forbidden, NotFound, MethodNotAllowed, PayloadTooLarge, NotImplemented, Unavailable, InsufficientStorage}
use Rattle.pw_http.specs.declared.requests.Refusal.{Refusal}
use Rattle.pw_http.specs.declared.requests.Refusal.TheVariants.{BadHead, NotForThisServer, NotSupported, BodyTooLarge, BadBody}

-- ---- the status
abbrev pub status_told : Status → ℕ × List ℕ
status_told Fine = (200, codes "OK")
status_told BadRequest = (400, codes "Bad Request")
status_told Forbidden = (403, codes "Forbidden")
status_told NotFound = (404, codes "Not Found")
status_told MethodNotAllowed = (405, codes "Method Not Allowed")
status_told PayloadTooLarge = (413, codes "Payload Too Large")
status_told NotImplemented = (501, codes "Not Implemented")
status_told Unavailable = (503, codes "Service Unavailable")
status_told InsufficientStorage = (507, codes "Insufficient Storage")

-- ---- the reply
abbrev pub content_name : ContentType → List ℕ
content_name Plain = codes "text/plain"
content_name Csv = codes "text/csv"
content_name (File file.Page) = codes "text/html; charset=utf-8"
content_name (File file.Script) = codes "text/javascript; charset=utf-8"
content_name (File file.Style) = codes "text/css; charset=utf-8"

pub record Reply : Type 0 where
  pub status : Status
  pub content : ContentType
  pub body : List ℕ

abbrev pub close_line : Bool → List ℕ
close_line closing = if closing then codes "Connection: close\r\n" else []

-- Of a file of the page alone. A browser takes for it what is of this server, shows it within no other page, and sends
-- its forms here; takes it for what it is told to be; and asks before it shows a copy that it kept.
-- (W3C, Content Security Policy Level 3; WHATWG, Fetch; RFC 9111, section 5.2.2.4)
abbrev pub file_headers : ContentType → List ℕ
file_headers (File file) =
    codes "Content-Security-Policy: default-src 'self'; frame-ancestors 'none'; base-uri 'none'; form-action 'self'\r\n"
    ++ codes "X-Content-Type-Options: nosniff\r\n"
    ++ codes "Cache-Control: no-cache\r\n"
file_headers _ = []

-- with the length of the body; the conversation may end after it
unfoldable pub reply_head : Status → ContentType → ℕ → Bool → List ℕ
reply_head status content size closing =
    codes "HTTP/1.1 " ++ decimal (status_told status).0 ++ codes " " ++ (status_told status).1
    ++ codes "\r\nContent-Type: " ++ content_name content
    ++ codes "\r\nContent-Length: " ++ decimal size
    ++ codes "\r\n" ++ close_line closing ++ file_headers content ++ codes "\r\n"

abbrev pub reply_bytes : Bool → Reply → List ℕ
reply_bytes closing r = reply_head r.status r.content (length r.body) closing ++ r.body

-- ---- the reply to what is no whole request
abbrev pub refusal_told : Refusal → Status × List ℕ
refusal_told BadHead = (BadRequest, codes "bad head\n")
refusal_told NotForThisServer = (Forbidden, codes "not for this server\n")
refusal_told NotSupported = (NotImplemented, codes "not supported\n")
refusal_told BodyTooLarge = (PayloadTooLarge, codes "body too large\n")
refusal_told BadBody = (BadRequest, codes "bad body\n")

abbrev pub refusal_status : Refusal → Status
refusal_status why = (refusal_told why).0

abbrev pub refusal_line : Refusal → List ℕ
refusal_line why = (refusal_told why).1

abbrev pub refusal_reply : Refusal → Reply
refusal_reply why = record { status = refusal_status why; content = Plain; body = refusal_line why }
