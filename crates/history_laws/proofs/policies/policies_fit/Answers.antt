use Rattle.history_laws.proofs.policies.Fits.{commands_fit_policies, moves_fit_policies, others_fit_policies}
use Rattle.history_laws.proofs.policies.policies_fit.Goals as goal

pub returns-clause-moves : goal.returns-clause-moves
returns-clause-moves c = moves_fit_policies

pub returns-clause-commands : goal.returns-clause-commands
returns-clause-commands c = commands_fit_policies

pub returns-clause-others : goal.returns-clause-others
returns-clause-others c = others_fit_policies
