-- Each turn adds the edges of one fan more.
use Rattle.std.proofs.Common.{ℕ, List, ◌++◌, sym, ap, ◌∙◌}
use Rattle.traversal_graph.specs.Fans.{fan_edges}
use Rattle.traversal_graph.proofs.FanLemmas.{all_edges-more}
use Rattle.traversal_graph.proofs.fans.all_edges.Goals as goal

pub loop-fan-preserved : goal.loop-fan-preserved
loop-fan-preserved c =
    c.in_ok-add_edges.ensures ∙ ap (λ (l : List (ℕ × ℕ)). l ++ fan_edges c.fan-item.result) c.loop-fan.invariant
    ∙ sym (all_edges-more c.args.fans.now c.loop-fan.fan-index c.fan-item.result c.loop-fan-test.true c.fan-item.is)
