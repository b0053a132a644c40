use Rattle.step_relation.specs.Asks.{looks, polls}
use Rattle.step_ends.proofs.ActLemmas.{no_delete}
use Rattle.step_ends.proofs.calls.polled_by.Goals as goal

pub returns-in-Delete : goal.returns-in-Delete
returns-in-Delete c = looks c.in-Delete.is

pub returns-in-Init : goal.returns-in-Init
returns-in-Init c = polls (no_delete _ c.in-Init.is)
