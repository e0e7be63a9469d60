use Rattle.pw_words.proofs.Few.{alone-pipe, pipe-alone}
use Rattle.pw_words.proofs.words.asks_to_pipe.Goals as goal

pub returns-in-len1 : goal.returns-in-len1
returns-in-len1 c = (
  λ h. pipe-alone c.args.words.now _ c.in-len1.len_at_least c.in-len1.len_below (c.is_word.ensures.0 h),
  λ h. c.is_word.ensures.1 (alone-pipe c.args.words.now _ c.in-len1.len_at_least c.in-len1.len_below h),
)
