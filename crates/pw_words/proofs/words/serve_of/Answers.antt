use Rattle.std.proofs.Common.{rules}
use Rattle.pw_words.proofs.words.serve_of.Goals as goal

pub returns : goal.returns
returns c = search rules
