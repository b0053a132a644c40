use Rattle.history_laws.proofs.headline.Openings.{states_are_openings}
use Rattle.history_laws.proofs.headline.states_are_openings.Goals as goal

pub returns : goal.returns
returns c = states_are_openings
