use Rattle.history_examples.proofs.RolledBack.{not_an_update}
use Rattle.history_examples.proofs.no_engine_commands_an_update.Goals as goal

pub returns : goal.returns
returns c = not_an_update
