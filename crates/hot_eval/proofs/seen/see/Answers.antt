use Rattle.std.proofs.Common.{◌∙◌, not, ap}
use Rattle.heat_value.specs.Meaning.{data_of}
use Rattle.hot_eval.proofs.Seeing.{holds_more}
use Rattle.hot_eval.proofs.seen.see.Goals as goal

pub returns : goal.returns
returns c ns all = (
  c.in_ok-insert.ensures.added ∙ ap not (all (data_of c.args.value.now)),
  holds_more c.args.seen.now c.insert.new.self (data_of c.args.value.now) ns all c.in_ok-insert.ensures.updates,
)
