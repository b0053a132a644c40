use Rattle.std.proofs.Common.{◌∙◌, ap}
use Rattle.heat_value.specs.Data.{Members}
use Rattle.hot_eval.specs.Gathered.{members_in}
use Rattle.hot_eval.proofs.Gathers.{gathered_all, gathered_next, gathered_rises}
use Rattle.hot_eval.proofs.Steps.{in_front}
use Rattle.hot_eval.proofs.gathered.Gathered.finish.Goals as goal

pub loop-key-init : goal.loop-key-init
loop-key-init c =
    ap (λ (ms : Members). in_front ms (members_in c.into_iter-key-iterator.result)) c.new-map.ensures
    ∙ ap members_in c.into_iter-key-iterator.ensures.into_iter_gives.0 ∙ c.self.view_is

pub loop-key-preserved : goal.loop-key-preserved
loop-key-preserved c =
    gathered_next c.args.self c.loop-key.map c.put.new.self c.in-Some.key c.in-Some.value c.loop-key.key-iterator
    c.next.new.self (gathered_rises c.args.self c.self.inside.tree.entries c.self.view_is
    c.into_iter-key-iterator.ensures.into_iter_gives.5) c.in-Some.ensures.steps c.in_ok-put.ensures.ok c.loop-key.invariant

pub returns : goal.returns
returns c = gathered_all c.args.self c.loop-key.map c.loop-key.key-iterator c.in-None.ensures.steps.0 c.loop-key.invariant
