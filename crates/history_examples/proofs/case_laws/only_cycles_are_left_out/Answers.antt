use Rattle.history_examples.proofs.Edges.{only_cycles_are_left_out}
use Rattle.history_examples.proofs.case_laws.only_cycles_are_left_out.Goals as goal

pub returns : goal.returns
returns c = only_cycles_are_left_out
