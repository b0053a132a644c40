use Rattle.std.proofs.Common.{◌∙◌, List, ℕ, ap, length}
use Rattle.std.proofs.lemmas.Result.{IfOk-weaker}
use Rattle.core_state.proofs.FreshPoints.{fresh_alone}
use Rattle.core_state.proofs.graph.fresh_points.Goals as goal

pub returns : goal.returns
returns c = IfOk-weaker c.new.result _ _ (λ points is.
    is ∙ fresh_alone c.args.stack.now 0 c.as_slice.result.now c.args.graph.now.nodes
    (ap (λ (all : List (List ℕ)). length all) c.as_slice.ensures ∙ c.in_ok-preds.ensures.size)) c.new.ensures
