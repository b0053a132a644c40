use Rattle.std.proofs.Common.{◌∙◌, sym, ap}
use Rattle.hot_params.proofs.Counts.{count_nodes-of}
use Rattle.hot_params.specs.Sizes.{count_nodes}
use Rattle.hot_params.proofs.size.items_in.Goals as goal

pub returns : goal.returns
returns c = sym (count_nodes-of c.as_slice.result.now) ∙ ap count_nodes c.as_slice.ensures
