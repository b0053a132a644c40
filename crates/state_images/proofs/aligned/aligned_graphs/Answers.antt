use Rattle.std.proofs.lemmas.List.Elements.{All-from_recursion}
use Rattle.state_images.specs.Formed.{IsAligned}
use Rattle.state_images.proofs.Forming.{made_aligned}
use Rattle.state_images.proofs.aligned.aligned_graphs.Goals as goal

pub returns-clause-aligned : goal.returns-clause-aligned
returns-clause-aligned c = All-from_recursion IsAligned c.args.s.now.state.graphs (made_aligned c.args.s.now.state c.requires)
