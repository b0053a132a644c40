-- Each turn takes the last of the order, and gives a lower rank than was given.
use Rattle.std.proofs.Common.{◌≡◌, ◌∙◌, ℕ, length, replicate, ap, rules}
use Rattle.dep_graph.proofs.RankLemmas.{no_ranks}
use Rattle.dep_graph.proofs.ranking.ranks.Goals as goal

pub loop-node-init : goal.loop-node-init
loop-node-init c =
    let none : c.in_ok-ranks.ranks.items ≡ replicate (length c.args.graph.now) 0 =
    c.in_ok-ranks.ensures.items_if_clones_equal (λ y same. search rules)
    ∙ ap (λ (n : ℕ). replicate n 0) c.size.ensures.size in
    rw none record { within = c.in_ok-order.ensures; ranks = no_ranks _ _ _ }
