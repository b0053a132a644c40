use Rattle.hot_functions.proofs.Lengths.{lone_one, lone_none, lone_more}
use Rattle.hot_functions.proofs.form.lone.Goals as goal

pub returns-in-empty : goal.returns-in-empty
returns-in-empty c = lone_none _ c.in-empty.len_below

pub returns-in-len1 : goal.returns-in-len1
returns-in-len1 c = lone_one _ c.member-item.result c.member-item.is c.in-len1.len_at_least c.in-len1.len_below

pub returns-in-len2-up : goal.returns-in-len2-up
returns-in-len2-up c = lone_more _ c.in-len2-up.len_at_least
