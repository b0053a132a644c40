use Rattle.std.proofs.lemmas.Bool.{OnTrue_at, OnFalse_at, OnTrue_from, OnFalse_from}
use Rattle.step_reads.proofs.ReadyLemmas.{alone_ready, ready_alone}
use Rattle.step_reads.proofs.nodes.is_ready.Goals as goal

pub returns-clause-yes : goal.returns-clause-yes
returns-clause-yes c =
    OnTrue_from c.in_ok-is_ready_with.field-0 _
    (λ t. ready_alone c.args.graph.now c.args.node (OnTrue_at t c.in_ok-is_ready_with.ensures.yes))

pub returns-clause-no_ : goal.returns-clause-no_
returns-clause-no_ c =
    OnFalse_from c.in_ok-is_ready_with.field-0 _ (λ t ready. OnFalse_at t c.in_ok-is_ready_with.ensures.no_
    (alone_ready c.args.graph.now c.args.node ready))
