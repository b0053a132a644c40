-- Who claims a row's number.
use Rattle.std.specs.Prelude.{List, flat_map, length, map, ℕ, ◌++◌, ◌≡◌}
use Rattle.std.specs.List.{AllAdjacentBelow}
use Rattle.core_state.specs.declared.Node.{Node}
use Rattle.core_state.specs.declared.Row.{Row}
use Rattle.core_state.specs.declared.Job.{Job}
use Rattle.core_state.specs.State.{StateData}
use Rattle.core_state.specs.declared.graph.Graph.{Graph}
use Rattle.step_relation.specs.Numbered.{row_of}
use Rattle.state_images.specs.Ties.{IsSingleBy}
use Rattle.state_images.specs.declared.claim.Claim.{Claim}
use Rattle.state_images.specs.declared.claim.Claimant.{Claimant}
use Rattle.state_images.specs.declared.claim.Claimant.TheVariants.{Engine, Stack}

abbrev pub claimed : Claim → ℕ
claimed c = c.no

abbrev pub claimant : Claim → Claimant
claimant c = c.by

-- each number is claimed by one
abbrev pub AreSingle : List Claim → Type 0
AreSingle = IsSingleBy claimed claimant

-- two claims of one number are by one
abbrev pub Agree : Claim → Claim → Type 0
Agree a b = claimed a ≡ claimed b → claimant a ≡ claimant b

-- so are neighbours
abbrev pub NeighboursAgree : List Claim → Type 0
NeighboursAgree claims = AllAdjacentBelow Agree claims (length claims)

-- a stack claims the numbers of its rows, of its nodes' rows, and of its jobs' rows
abbrev pub row_claim : Row → Claim
row_claim r = record { no = r.no; by = Stack r.stack }

abbrev pub node_claim : List ℕ → Node → Claim
node_claim stack node = record { no = row_of node; by = Stack stack }

abbrev pub graph_claims : Graph → List Claim
graph_claims g = map (node_claim g.stack) g.graph.nodes

abbrev pub job_claim : Job → Claim
job_claim j = record { no = j.row; by = Stack j.letter.stack }

abbrev pub stack_claims : StateData → List Claim
stack_claims s = map row_claim s.rows ++ (flat_map graph_claims s.graphs ++ map job_claim s.jobs)

-- an engine claims the number of its job's row
abbrev pub holder_claim : Job → Claim
holder_claim j = record { no = j.row; by = Engine j.engine }
