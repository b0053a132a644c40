use Rattle.provider.proofs.Lives.{alive_after_poll}
use Rattle.scripted_cloud.proofs.asks.look.Goals as goal

pub returns : goal.returns
returns g c =
    alive_after_poll c.poll.result c.args.token.now _ _ c.requires c.poll.ensures.not_yet c.poll.ensures.ready c.poll.ensures.broken c.poll.ensures.failed c.poll.ensures.memory
