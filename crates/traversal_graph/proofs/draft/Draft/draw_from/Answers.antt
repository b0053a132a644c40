-- The marks say whether the edge closes a cycle.
use Rattle.std.proofs.Common.{sym, ◌∙◌}
use Rattle.std.proofs.lemmas.Bool.{false≢true}
use Rattle.dep_graph.specs.Edges.{HasEdge}
use Rattle.dep_graph.specs.Paths.{HasPath}
use Rattle.dep_graph.proofs.ClosingLemmas.{reaching_same}
use Rattle.traversal_graph.proofs.DrawLemmas.{Draws-same, Draws-opened}
use Rattle.traversal_graph.proofs.draft.Draft.draw_from.Goals as goal

pub returns-then-has-clause-draws : goal.returns-then-has-clause-draws
returns-then-has-clause-draws c =
    Draws-same _ _ _ c.requires.draft (c.requires.reaching.0 (c.has.ensures.0 c.if-has.true))

-- no path leads back
open_ : (c : goal.In_ok-push) → ¬ HasPath (HasEdge c.args.self.now.graph) c.args.after c.args.before
open_ c h = false≢true (sym c.if-has.false ∙ c.has.ensures.1 (c.requires.reaching.1 h))

pub returns-clause-draws : goal.returns-clause-draws
returns-clause-draws c = Draws-opened _ _ _ _ _ c.requires.draft (open_ c) c.in_ok-add_edge.ensures.ok c.in_ok-push.ensures.ok

pub returns-clause-same : goal.returns-clause-same
returns-clause-same c = reaching_same _ _ _ _ c.in_ok-add_edge.ensures.ok
