use Rattle.heat_value.specs.Meaning.{data_of}
use Rattle.hot_groups.proofs.Rewrites.{id-more}
use Rattle.hot_groups.proofs.rewriting.one_for.Goals as goal

pub returns-in-len1-up : goal.returns-in-len1-up
returns-in-len1-up c =
    rw c.in-None.is (id-more (data_of c.args.name.now) c.args.path.now c.in-len1-up.len_at_least)
