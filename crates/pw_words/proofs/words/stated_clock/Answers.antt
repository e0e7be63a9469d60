use Rattle.std.proofs.Common.{refl}
use Rattle.pw_words.proofs.Few.{clock-stated, read-alone}
use Rattle.pw_words.proofs.words.stated_clock.Goals as goal

pub returns-in-len1-clause-some : goal.returns-in-len1-clause-some
returns-in-len1-clause-some c = read-alone c.args.words.now _ c.in-len1.len_at_least c.in-len1.len_below (c.if-is_word.ensures.0 refl)

pub returns-in-len3-clause-some : goal.returns-in-len3-clause-some
returns-in-len3-clause-some c =
    clock-stated c.args.words.now _ c.clock_named.result c.in-len3.len_at_least c.in-len3.len_below
    (c.if-is_word-2.ensures.0 refl) (c.if-is_word-3.ensures.0 refl) c.clock_named.ensures.some
