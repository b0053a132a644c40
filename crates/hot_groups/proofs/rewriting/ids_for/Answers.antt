use Rattle.heat_value.specs.Meaning.{nodes_of}
use Rattle.hot_groups.proofs.Rewrites.{ids-more}
use Rattle.hot_groups.proofs.rewriting.ids_for.Goals as goal

pub returns-in-len2-up : goal.returns-in-len2-up
returns-in-len2-up c = ids-more (nodes_of c.args.roster.now) c.args.path.now c.in-len2-up.len_at_least
