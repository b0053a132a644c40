-- A rollback's mark at once changes nothing but its stack.
use Rattle.std.proofs.Common.{◌≡◌, List, [], ◌∷◌, refl}
use Rattle.traversal_graph.specs.declared.shape.Node.{Node}
use Rattle.core_state.specs.Changes.{applied}
use Rattle.core_state.specs.State.{StateData}
use Rattle.core_state.specs.declared.entry.Actor.{Actor}
use Rattle.core_state.specs.declared.stack.Stack.{Stack}
use Rattle.step_relation.specs.Commands.{settles_at_once}
use Rattle.step_relation.specs.Orders.{rollback_sets}

pub record IsSettled (x y : StateData) : Type 0 where
  pub graphs : y.graphs ≡ x.graphs
  pub pasts : y.pasts ≡ x.pasts
  pub rows : y.rows ≡ x.rows
  pub letters : y.letters ≡ x.letters
  pub jobs : y.jobs ≡ x.jobs
  pub live : y.live ≡ x.live

pub settled : (nodes : List Node) (s : StateData) (st : Stack) (actor : Actor) (x : StateData)
    → IsSettled x (applied (settles_at_once nodes s st.name (rollback_sets s st actor)) x)
settled [] s st actor x =
    record { graphs = refl; pasts = refl; rows = refl; letters = refl; jobs = refl; live = refl }
settled (node ∷ nodes) s st actor x =
    record { graphs = refl; pasts = refl; rows = refl; letters = refl; jobs = refl; live = refl }
