use Rattle.std.proofs.Common.{append_assoc}
use Rattle.std.proofs.lemmas.Result.{IfOk-equal}
use Rattle.state_images.proofs.writing.add_stacks.Goals as goal

pub returns : goal.returns
returns c = IfOk-equal c.add_pasts.result _ _ _ c.add_pasts.ensures
    (rw (
      c.in_ok-add_points.ensures,
      c.in_ok-add_graphs.ensures,
      c.in_ok-add_stack_records.ensures,
      c.stacks.ensures,
      c.aligned_graphs-graphs.ensures.all,
      c.pasts.ensures,
    ) (simp append_assoc))
