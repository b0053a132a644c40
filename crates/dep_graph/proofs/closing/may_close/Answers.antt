-- Where no edge leads on, or none comes, there is no path between two different nodes.
use Rattle.std.proofs.Common.{◌≡◌, ℕ, Bool, false, not, eqb, sym, ◌∙◌}
use Rattle.std.proofs.lemmas.Bool.{OnFalse_from, eqb-true, not-false}
use Rattle.dep_graph.specs.Paths.{HasPath}
use Rattle.dep_graph.specs.Edges.{HasEdge}
use Rattle.dep_graph.proofs.ClosingLemmas.{no_way_on, no_way_back}
use Rattle.dep_graph.proofs.closing.may_close.Goals as goal

is_zero : (n : ℕ) (empty : Bool) → empty ≡ eqb n 0 → not empty ≡ false → n ≡ 0
is_zero n empty e f = eqb-true n 0 (sym e ∙ not-false empty f)

pub returns-then-not-is_empty : goal.returns-then-not-is_empty
returns-then-not-is_empty c =
    OnFalse_from _ (HasPath (HasEdge c.args.graph.now) c.args.after c.args.before → ⊥)
    (λ f. no_way_back _ _ _ c.preds.result.now c.if-after-before.false c.preds.ensures.exact
    (is_zero _ _ c.is_empty-then-not-is_empty.ensures f))

pub returns-else-not-is_empty : goal.returns-else-not-is_empty
returns-else-not-is_empty c =
    OnFalse_from _ (HasPath (HasEdge c.args.graph.now) c.args.after c.args.before → ⊥)
    (λ f. no_way_on _ _ _ c.succs.result.now c.if-after-before.false c.succs.ensures.exact
    (is_zero _ _ c.is_empty.ensures f))
