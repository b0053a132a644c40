use Rattle.bound_laws.proofs.Falls.{providers_spend}
use Rattle.bound_laws.proofs.providers_spend_polls.Goals as goal

pub returns : goal.returns
returns c = providers_spend
