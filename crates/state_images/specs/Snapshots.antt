-- The changes that make a state of nothing, table by table.
use Rattle.std.specs.Prelude.{List, [], flat_map, map, ◌++◌, ◌∷◌, ◌≡◌}
use Rattle.core_state.specs.Applies.{AllApply}
use Rattle.core_state.specs.Changes.{applied}
use Rattle.core_state.specs.State.{StateData}
use Rattle.core_state.specs.declared.change.Change.{Change}
use Rattle.core_state.specs.declared.change.Change.TheVariants.{Enlist, Numbers, PutGraph, PutJob, PutPast, PutPoint, PutRow, PutStack, Release, Send}
use Rattle.core_state.specs.declared.graph.Graph.{Graph}
use Rattle.step_relation.specs.Images.{AreKeepable, HasKeepableRows}
use Rattle.step_relation.specs.Opening.{bare}

-- a change for each record, each point, each live engine and each released token, and the next numbers
abbrev pub stack_changes : StateData → List Change
stack_changes s = map PutStack s.stacks ++ (map (λ (g : Graph). PutGraph g.stack g.graph) s.graphs
    ++ (flat_map (λ (g : Graph). map PutPoint g.points) s.graphs ++ map PutPast s.pasts))

abbrev pub work_changes : StateData → List Change
work_changes s = map PutRow s.rows ++ (map Send s.letters ++ map PutJob s.jobs)

abbrev pub last_changes : StateData → List Change
last_changes s = map Enlist s.live ++ (map Release s.released ++ Numbers s.next ∷ [])

abbrev pub snapshot : StateData → List Change
snapshot s = stack_changes s ++ (work_changes s ++ last_changes s)

-- the changes may all be made to nothing, and make this state, the order of its lists too
pub record IsSnapshot (s : StateData) (cs : List Change) : Type 0 where
  pub applies : AllApply cs bare
  pub gives : applied cs bare ≡ s
  pub keepable : HasKeepableRows s → AreKeepable cs
