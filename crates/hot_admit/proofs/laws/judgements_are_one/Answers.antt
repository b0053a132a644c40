use Rattle.hot_admit.proofs.Judged.{judged_one}
use Rattle.hot_admit.proofs.laws.judgements_are_one.Goals as goal

pub returns : goal.returns
returns c t g = judged_one t g
