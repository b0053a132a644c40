use Rattle.next_laws.proofs.Layouts.{layout_one}
use Rattle.next_laws.proofs.a_layout_is_one.Goals as goal

pub returns : goal.returns
returns c = layout_one
