use Rattle.hot_eval.proofs.Parts.{two_of-one, two_of-more}
use Rattle.hot_eval.proofs.sorts.two_of.Goals as goal

pub returns-in-len1 : goal.returns-in-len1
returns-in-len1 c = two_of-one _ c.in-len1.len_below

pub returns-in-len3-up : goal.returns-in-len3-up
returns-in-len3-up c = two_of-more _ c.in-len3-up.len_at_least
