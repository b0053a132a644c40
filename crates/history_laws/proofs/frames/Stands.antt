-- Each graph stays that of a stack in the table.
use Rattle.std.proofs.Common.{List, inl, inr, refl, subst, sym}
use Rattle.std.proofs.lemmas.Slice.Eq.{bytes_eq-Decides}
use Rattle.std.specs.Prelude.{IsSome, List, [], bytes_eq, map, ℕ, ◌∷◌}
use Rattle.heat_plan.specs.declared.item.Item.{Item}
use Rattle.heat_plan.specs.declared.phase.Act.{Act}
use Rattle.heat_plan.specs.declared.phase.Act.TheVariants.{Create, Delete, Init, Rollback, Update}
use Rattle.heat_plan.specs.declared.phase.Status.TheVariants.{InProgress}
use Rattle.traversal_graph.specs.declared.shape.Node.{Node}
use Rattle.row_table.specs.declared.row.Row.{Row}
use Rattle.step_relation.specs.State.{StateData, stack_at, stack_key}
use Rattle.step_relation.specs.declared.Change.TheVariants.{Enlist, Stop}
use Rattle.step_relation.specs.Commands.{Lays, Sets, settles_at_once, stack_set}
use Rattle.step_relation.specs.Steps.{engines_from, restart_changes}
use Rattle.step_relation.specs.Writes.{mark_complete}
use Rattle.step_relation.specs.Groups.{KeptByCommands, KeptByEngines, KeptByMoves}
use Rattle.step_relation.specs.MailFits.{GraphsStand}
use Rattle.history_laws.proofs.agrees.Laid.{laid_end, laid_state}
use Rattle.history_laws.proofs.policies.Calm.{AreCalm, calm_both, stand_applied}
use Rattle.history_laws.proofs.policies.Moves.{Closes, move_calm}
use Rattle.history_laws.proofs.tables.Rows.{graph_put, stack_here}
use Rattle.history_laws.proofs.tables.Tables.{some_put}

abbrev Any : Row → Type 0
Any r = Unit {0}

any_closes : (s : StateData) → Closes s Any
any_closes s = record {
  old = λ n r at. tt;
  alike = λ o a same any. tt;
  deleted = λ r trav. tt;
  begun = λ e k a is. tt;
}

pub stand_by_moves : KeptByMoves GraphsStand
stand_by_moves judges s e given failed cs es S move tied =
    stand_applied Any cs s (move_calm s Any (any_closes s) e given failed cs es move) S.shape.stand

settled_calm : (nodes : List Node) (s : StateData) (name : List ℕ) (it : Sets)
    → AreCalm Any (settles_at_once nodes s name it)
settled_calm [] s name it = by it.act where
  by : (act : Act) → AreCalm Any (mark_complete (record (stack_set s name it InProgress) { act = act }))
  by Init = (tt, tt)
  by Create = (tt, tt)
  by Update = (tt, tt)
  by Delete = (tt, tt)
  by Rollback = (tt, tt)
settled_calm (node ∷ nodes) s name it = tt

-- what a command lays out is a graph of its stack, which it puts
laid_stand : (s : StateData) (name : List ℕ) (items : List Item) (it : Sets) (k : Lays s name items)
    → GraphsStand s → GraphsStand (laid_state s name items it k)
laid_stand s name items it k old other g at = elim (graph_put _ s.graphs at) [
  | inl (own, _) ↦
      subst (λ (n : List ℕ). IsSome (stack_at (laid_state s name items it k).stacks n)) own
      (subst IsSome (sym (stack_here (stack_set s name it InProgress) s.stacks)) refl)
  | inr (_, was) ↦
      some_put bytes_eq bytes_eq-Decides stack_key (stack_set s name it InProgress) s.stacks other (old other g was)
]

pub stand_by_commands : KeptByCommands GraphsStand
stand_by_commands s name items it k S ordered =
    subst GraphsStand (sym (laid_end s name items it k))
    (stand_applied Any (settles_at_once k.graph.nodes s name it) (laid_state s name items it k)
    (settled_calm k.graph.nodes s name it) (laid_stand s name items it k S.shape.stand))

stops_calm : (es : List ℕ) → AreCalm Any (map Stop es)
stops_calm [] = tt
stops_calm (e ∷ es) = (tt, stops_calm es)

enlists_calm : (es : List ℕ) → AreCalm Any (map Enlist es)
enlists_calm [] = tt
enlists_calm (e ∷ es) = (tt, enlists_calm es)

pub stand_by_engines : KeptByEngines GraphsStand
stand_by_engines = record {
  stop = λ s e S live. S.shape.stand;
  enlist = λ s S. S.shape.stand;
  restart = λ s count S. stand_applied Any (restart_changes s count) s (
    tt,
    calm_both Any (map Stop s.live) (map Enlist (engines_from s.next.engine count)) (stops_calm s.live)
        (enlists_calm (engines_from s.next.engine count)),
  ) S.shape.stand;
}
