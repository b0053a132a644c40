-- A job at Taken begins at an update node where it still has work there.
use Rattle.std.proofs.Common.{refl, subst, ℕ, ◌≡◌}
use Rattle.std.specs.Prelude.{List, Option, Some}
use Rattle.traversal_graph.specs.declared.shape.Node.{Node}
use Rattle.traversal_graph.specs.declared.shape.Node.TheVariants.{C, U}
use Rattle.row_table.specs.Rows.{row_at}
use Rattle.row_table.specs.declared.row.Row.{Row}
use Rattle.mail_table.specs.declared.mail.Job.{Job}
use Rattle.mail_table.specs.declared.mail.Stage.TheVariants.{Taken}
use Rattle.core_state.specs.State.{StateData}
use Rattle.core_state.specs.declared.graph.Graph.{Graph}
use Rattle.core_state.specs.declared.stack.Stack.{Stack}
use Rattle.step_relation.specs.Freshness.{IsFresh, Names, Serves, updates}
use Rattle.step_relation.specs.Nexts.{Works}
use Rattle.step_reads.specs.Work.{IsFreshOf}
use Rattle.next_laws.proofs.Readings.{names_one}
use Rattle.check_steps.specs.AtUpdate.{AtUpdate, HasPoint}

module _ (s : StateData) (e : ℕ) (points : HasPoint s e) (j : Job) (works : Works s e j Taken) (stack : Stack)
    (graph : Graph) where
  at_serves : (name : List ℕ) (chosen : ℕ) (row : Option Row) → Names s j.letter stack graph (U name chosen)
      → row_at s.rows j.row ≡ row
      → Serves stack (U name chosen) row → AtUpdate s e j
  at_serves name chosen _ names found (updates _ _ item r asked kept) =
      let (point, there) = points j stack graph (U name chosen) works.its names in record {
        stack = stack;
        graph = graph;
        name = name;
        chosen = chosen;
        item = item;
        row = r;
        point = point;
        works = works;
        names = names;
        asked = asked;
        found = found;
        kept = kept;
        its_point = there;
      }

  pub at_update : (node : Node) (row : Option Row) (name : List ℕ) (chosen : ℕ) → node ≡ U name chosen
      → IsFreshOf s j.letter j.row stack graph node row → AtUpdate s e j
  at_update node row name chosen is k =
      at_serves name chosen row (subst (λ (n : Node). Names s j.letter stack graph n) is k.names) k.found
      (subst (λ (n : Node). Serves stack n row) is k.serves)

-- a job that begins at an update node still has work
pub update_fresh : (s : StateData) (e : ℕ) (j : Job) → AtUpdate s e j → IsFresh s j.letter j.row
update_fresh s e j at = record {
  stack = at.stack;
  graph = at.graph;
  node = U at.name at.chosen;
  row = Some at.row;
  names = at.names;
  found = at.found;
  serves = updates at.name at.chosen at.item at.row at.asked at.kept;
}

never_both : (name : List ℕ) (n m : ℕ) → U name n ≡ C m → ⊥
never_both name n m is = cc

-- one at a clean-up node begins no update
pub clean_no_update : (s : StateData) (e : ℕ) (j : Job) (stack : Stack) (graph : Graph) (node : Node) (row : Option Row)
    (n : ℕ) → IsFreshOf s j.letter j.row stack graph node row → node ≡ C n → ¬ AtUpdate s e j
clean_no_update s e j stack graph node row n fresh is at =
    let (_, _, nodes) = names_one s j.letter j.letter refl at.stack stack at.graph graph (U at.name at.chosen) node
    at.names fresh.names in
    never_both at.name at.chosen n (subst (λ (x : Node). U at.name at.chosen ≡ x) is nodes)
