use Rattle.hot_env.proofs.Right.{applied-right}
use Rattle.hot_env.proofs.env.Env.template.Goals as goal

pub right-requires : goal.right-requires
right-requires c = rw c.in_ok-applied.ensures (rw c.fields.ensures.value (applied-right c.args.self.now c.args.template.now c.fields.ensures.right))
