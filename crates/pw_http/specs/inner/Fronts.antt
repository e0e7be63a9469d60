-- The head of a reply in two parts, of which the first is a line. It serves `src/replies.rt` and `src/send.rt`.
use Rattle.std.specs.Prelude.{ℕ, List, [], ◌++◌, codes}
use Rattle.pw_http.specs.declared.replies.ContentType.{ContentType}
use Rattle.pw_http.specs.declared.replies.ContentType.TheVariants.{Plain, Csv, File}
use Rattle.pw_http.specs.Replies.{file_headers}

-- what the first part leaves: a head without headers of a file ends in it
abbrev pub rest_of_head : ContentType → List ℕ
rest_of_head Plain = []
rest_of_head Csv = []
rest_of_head (File file) = file_headers (File file) ++ codes "\r\n"
