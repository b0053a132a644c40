use Rattle.std.proofs.Common.{◌∙◌, sym, ap}
use Rattle.hot_params.proofs.Counts.{count_members-of}
use Rattle.hot_params.specs.Sizes.{count_members}
use Rattle.hot_params.proofs.size.entries_in.Goals as goal

pub returns : goal.returns
returns c = sym (count_members-of c.as_slice.result.now) ∙ ap count_members c.as_slice.ensures.members
