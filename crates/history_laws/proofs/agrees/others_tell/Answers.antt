use Rattle.history_laws.proofs.agrees.Others.{others_agree, others_release, others_tell}
use Rattle.history_laws.proofs.agrees.others_tell.Goals as goal

pub returns-clause-tells : goal.returns-clause-tells
returns-clause-tells c = others_tell

pub returns-clause-agrees : goal.returns-clause-agrees
returns-clause-agrees c = others_agree

pub returns-clause-released : goal.returns-clause-released
returns-clause-released c = others_release
