use Rattle.std.proofs.Common.{ap}
use Rattle.std.proofs.lemmas.Option.{slice_get-get_or}
use Rattle.longest_keys.specs.declared.trie.Node.{Node}
use Rattle.longest_keys.proofs.Lists.{one_at}
use Rattle.longest_keys.proofs.TrieLemmas.{parent_earlier}
use Rattle.longest_keys.proofs.trie.parent_of.Goals as goal

pub returns-clause-parent : goal.returns-clause-parent
returns-clause-parent c =
    λ n there. ap (λ (m : Node). m.parent) (one_at c.args.nodes.now c.args.at _ n (slice_get-get_or c.args.nodes.now c.args.at _ c.requires.within) there)

pub returns-clause-earlier : goal.returns-clause-earlier
returns-clause-earlier c = parent_earlier c.args.nodes.now c.args.at _ c.requires.trie c.requires.some (slice_get-get_or c.args.nodes.now c.args.at _ c.requires.within)
