use Rattle.type_catalog.proofs.Untruncated.{change_again}
use Rattle.type_catalog.proofs.judge.Judge.change.Goals as goal

pub returns : goal.returns
returns g c = change_again _ _ _ _ c.told.ensures
