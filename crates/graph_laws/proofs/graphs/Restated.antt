-- A graph fits whatever the status of its stack is: `restated`.
use Rattle.std.proofs.Common.{◌⊎◌, inl, inr, ℕ, List}
use Rattle.heat_plan.specs.declared.phase.Status.{Status}
use Rattle.row_table.specs.declared.row.Row.{Row}
use Rattle.sync_points.specs.declared.point.Input.{Input}
use Rattle.core_state.specs.State.{StateData}
use Rattle.core_state.specs.declared.graph.Graph.{Graph}
use Rattle.core_state.specs.declared.stack.Stack.{Stack}
use Rattle.traversal_graph.specs.declared.shape.Node.TheVariants.{C}
use Rattle.step_relation.specs.GraphFits.{Aims, EdgesFit, GraphFits, HasPoint, InputsFit, IsInput, IsNode, Needs, NodesFit}
use Rattle.step_relation.specs.GraphFits.{Stands, TargetFits, TargetsFit, of_c, of_u}

-- the stack with another status
abbrev pub with_status : Status → Stack → Stack
with_status x st = record st { status = x }

module _ (s : StateData) (st : Stack) (g : Graph) (x : Status) where
  point : (i : ℕ) → HasPoint g st i → HasPoint g (with_status x st) i
  point i k = record { point = k.point; there = k.there; stack = k.stack; node = k.node }

  nodes : NodesFit st g → NodesFit (with_status x st) g
  nodes f = record {
    named = f.named;
    acyclic = f.acyclic;
    items = f.items;
    only_items = f.only_items;
    one_update = f.one_update;
    one_cleanup = f.one_cleanup;
    points = λ i node at. point i (f.points i node at);
    ends = f.ends;
  }

  needs : (name need : List ℕ) → Needs st name need → Needs (with_status x st) name need
  needs name need k = record { item = k.item; asked = k.asked; among = k.among }

  needed : (name need : List ℕ) → Needs (with_status x st) name need → Needs st name need
  needed name need k = record { item = k.item; asked = k.asked; among = k.among }

  edges : EdgesFit s st g → EdgesFit s (with_status x st) g
  edges f = record {
    needed = λ i k n m name need at_k at_i of. f.needed i k n m name need at_k at_i (needed name need of);
    needs = λ i k n name at edge. let (need, m, at_i, of) = f.needs i k n name at edge in
        (need, m, at_i, needs name need of);
    behind = f.behind;
  }

  aims : (i : ℕ) (name : List ℕ) (r : Row) → Aims s st g i name r → Aims s (with_status x st) g i name r
  aims i name r k = record { chosen = k.chosen; node = k.node; to = k.to; found = k.found }

  target : (name : List ℕ) (n : ℕ) (r : Row) → TargetFits s st name n r → TargetFits s (with_status x st) name n r
  target name n r f = record { to = f.to; is = f.is; from = f.from; kept = f.kept }

  targets : TargetsFit s st g → TargetsFit s (with_status x st) g
  targets f = record {
    updates = λ i n name at. let (r, fits) = f.updates i n name at in (r, target name n r fits);
    cleanups = f.cleanups;
    rows = λ n r at is. rows n r (f.rows n r at is);
    old = f.old;
  } where
    rows : (n : ℕ) (r : Row) → ((i : ℕ) × Aims s st g i r.name r) ⊎ ((i : ℕ) × IsNode g i (C n))
        → ((i : ℕ) × Aims s (with_status x st) g i r.name r) ⊎ ((i : ℕ) × IsNode g i (C n))
    rows n r (inl (i, k)) = inl (i, aims i r.name r k)
    rows n r (inr there) = inr there

  input : (y : Input) → IsInput s st g y → IsInput s (with_status x st) g y
  input y (of_u name r k called row facts) = of_u name r (aims y.from name r k) called row facts
  input y (of_c n at called row facts) = of_c n at called row facts

  inputs : InputsFit s st g → InputsFit s (with_status x st) g
  inputs f = record {
    ready = f.ready;
    stand = λ i p y at has. let k : Stands s st g i y = f.stand i p y at has in
        record { edge = k.edge; done = k.done; its = input y k.its };
    given = f.given;
    once = f.once;
  }

  pub restated : GraphFits s st g → GraphFits s (with_status x st) g
  restated f = record {
    nodes = nodes f.nodes;
    edges = edges f.edges;
    targets = targets f.targets;
    inputs = inputs f.inputs;
  }
