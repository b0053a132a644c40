use Rattle.std.proofs.Common.{◌∙◌, ap}
use Rattle.heat_value.specs.Data.{put}
use Rattle.heat_value.specs.Meaning.{data_of}
use Rattle.hot_eval.specs.Gathered.{members_in}
use Rattle.hot_eval.proofs.Gathers.{put_entry}
use Rattle.hot_eval.proofs.gathered.Gathered.put.Goals as goal

pub returns : goal.returns
returns c =
    ap members_in c.in_ok-insert.ensures.entries
    ∙ put_entry c.self.inside.tree.entries c.args.key c.args.value
    ∙ ap (put c.args.key (data_of c.args.value)) c.self.view_is
