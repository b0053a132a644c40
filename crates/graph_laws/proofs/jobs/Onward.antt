-- Jobs fit where each either stood before, with its row as it was, or fits by itself: `jobs_fit`.
use Rattle.std.proofs.Common.{◌≡◌, ◌≤◌, ℕ, List, Some, sym, ap, ◌∙◌, subst, arith}
use Rattle.std.specs.Prelude.{slice_get}
use Rattle.heat_plan.specs.declared.phase.Status.{Status}
use Rattle.traversal_graph.specs.declared.shape.Node.{Node}
use Rattle.traversal_graph.specs.declared.shape.Node.TheVariants.{C, U}
use Rattle.row_table.specs.Chains.{IsCurrent}
use Rattle.row_table.specs.Rows.{row_at}
use Rattle.row_table.specs.declared.row.Row.{Row}
use Rattle.mail_table.specs.Mails.{job_at}
use Rattle.mail_table.specs.declared.mail.Job.{Job}
use Rattle.core_state.specs.Reads.{IsDone, IsReady}
use Rattle.core_state.specs.State.{StateData, graph_at, stack_at}
use Rattle.core_state.specs.declared.graph.Graph.{Graph}
use Rattle.core_state.specs.declared.stack.Stack.{Stack}
use Rattle.step_relation.specs.Targets.{IsTarget, of_c}
use Rattle.step_relation.specs.GraphFits.{GraphFits, IsNode, graph_of, graph_or}
use Rattle.step_relation.specs.Linked.{OneCurrent}
use Rattle.step_relation.specs.MailFits.{HasMade, HasUnderWay, IsNewest, IsUnderWay, JobStands, JobsFit}
use Rattle.step_relation.specs.RowsFit.{IsWanted}
use Rattle.step_relation.specs.Sound.{Standing}
use Rattle.history_laws.proofs.tables.Rows.{stack-key}
use Rattle.history_laws.proofs.tables.Targets.{cleanup_target, target_once}
use Rattle.graph_laws.specs.graphs.Laws.{GraphsFit}
use Rattle.graph_laws.proofs.graphs.Restated.{with_status}

-- what the rows of a state and its graphs are after the step
pub record Grounds (t : StateData) : Type 0 where
  pub current : OneCurrent t.rows
  pub graphs : GraphsFit t

-- the graph of a name, where one stands
pub graph_there : (t : StateData) (name : List ℕ) (g : Graph) → graph_at t.graphs name ≡ Some g → graph_of t name ≡ g
graph_there t name g at = ap (graph_or name) at

-- a current row of an update node's name is the node's target
pub target_in : (t : StateData) → Grounds t → (name : List ℕ) (st : Stack) → stack_at t.stacks name ≡ Some st
    → (g : Graph)
    → graph_at t.graphs name ≡ Some g → (i n m : ℕ) (word : List ℕ) → IsNode g i (U word n) → (q : Row)
    → row_at t.rows m ≡ Some q
    → q.stack ≡ st.name → q.name ≡ word → IsCurrent q → IsTarget t.rows st.name (U word n) m
target_in t b name st at_st g at_g i n m word at q at_q of called current =
    let fits : GraphFits t st g = subst (GraphFits t st) (graph_there t name g at_g) (b.graphs name st at_st) in
    let (a, f) = fits.targets.updates i n word at in
    let up : m ≤ a.no = b.current.newest a.no m a q f.is.found at_q (f.is.stack_is ∙ sym of)
    (f.is.name_is ∙ sym called) f.is.current in
    let down : a.no ≤ m = b.current.newest m a.no q a at_q f.is.found (of ∙ sym f.is.stack_is)
    (called ∙ sym f.is.name_is) current in
    subst (λ (x : ℕ). IsTarget t.rows st.name (U word n) x) (equal a.no m down up) f.to where
      equal : (x y : ℕ) → x ≤ y → y ≤ x → x ≡ y
      equal x y a b = omega arith

-- a graph is found with the same nodes; no fewer are ready, and this one isn't done if it wasn't
pub record Grown (t : StateData) (name : List ℕ) (g : Graph) (i : ℕ) : Type 0 where
  pub graph : Graph
  pub found : graph_at t.graphs name ≡ Some graph
  pub nodes : (k : ℕ) (node : Node) → slice_get g.graph.nodes k ≡ Some node → slice_get graph.graph.nodes k ≡ Some node
  pub ready : (k : ℕ) → IsReady g k → IsReady graph k
  pub undone : ¬ IsDone g i → ¬ IsDone graph i

pub grown_same : (s t : StateData) → t.graphs ≡ s.graphs → (name : List ℕ) (g : Graph) (i : ℕ)
    → graph_at s.graphs name ≡ Some g → Grown t name g i
grown_same s t same name g i at = record {
  graph = g;
  found = subst (λ (gs : List Graph). graph_at gs name ≡ Some g) (sym same) at;
  nodes = λ k node h. h;
  ready = λ k h. h;
  undone = λ h. h;
}

-- a job of the newest traversal was so, with at most its stack's status another
pub record Was (s t : StateData) (j : Job) (st : Stack) : Type 0 where
  pub stack : Stack
  pub status : Status
  pub is : with_status status stack ≡ st
  pub newest : IsNewest s j.letter stack
  pub grown : (g : Graph) → graph_at s.graphs j.letter.stack ≡ Some g → Grown t j.letter.stack g j.letter.node

-- what becomes of a job
pub data Goes (s t : StateData) (e : ℕ) (j : Job) : Type 0 where
  stays : job_at s.jobs e ≡ Some j → row_at t.rows j.row ≡ row_at s.rows j.row
      → ((st : Stack) → IsNewest t j.letter st → Was s t j st) → Goes s t e j
  fits : (IsUnderWay j.stage → HasUnderWay t j) → ((st : Stack) → IsNewest t j.letter st → JobStands t j st)
      → Goes s t e j

module _ (s t : StateData) (h : Standing s) (b : Grounds t) where
  module _ (e : ℕ) (j : Job) (its : job_at s.jobs e ≡ Some j) (same : row_at t.rows j.row ≡ row_at s.rows j.row) where
    under_way : IsUnderWay j.stage → HasUnderWay t j
    under_way under = let k = h.shape.jobs.under_way e j its under in
        record { row = k.row; found = same ∙ k.found; status = k.status; newest = k.newest }

    module _ (o : Stack) (x : Status) (newest : IsNewest t j.letter (with_status x o)) (was : IsNewest s j.letter o)
        (grown : (g : Graph) → graph_at s.graphs j.letter.stack ≡ Some g → Grown t j.letter.stack g j.letter.node) where
      stood : JobStands s j o
      stood = h.shape.jobs.newest e j o its was

      more : Grown t j.letter.stack stood.graph j.letter.node
      more = grown stood.graph stood.names.its_graph

      called : o.name ≡ j.letter.stack
      called = stack-key s.stacks j.letter.stack o was.in_table

      old_fits : GraphFits s o stood.graph
      old_fits = subst (GraphFits s o) (graph_there s j.letter.stack stood.graph stood.names.its_graph)
          (h.shape.graphs j.letter.stack o was.in_table)

      target : (node : Node) → IsNode stood.graph j.letter.node node → IsTarget s.rows o.name node j.row
          → IsTarget t.rows o.name node j.row
      target (C n) at to = subst (λ (m : ℕ). IsTarget t.rows o.name (C n) m)
          (cleanup_target s.rows o.name n j.row to) (of_c n)
      target (U word n) at to =
          let (q, f) = old_fits.targets.updates j.letter.node n word at in
          let number : q.no ≡ j.row = target_once s.rows o.name (U word n) q.no j.row f.to to in
          let at_q : row_at s.rows j.row ≡ Some q = subst (λ (m : ℕ). row_at s.rows m ≡ Some q) number f.is.found in
          target_in t b j.letter.stack
          (with_status x o) newest.in_table more.graph more.found j.letter.node n j.row word
          (more.nodes j.letter.node (U word n) at) q (same ∙ at_q) f.is.stack_is f.is.name_is f.is.current

      stands : JobStands t j (with_status x o)
      stands = record {
        graph = more.graph;
        node = stood.node;
        names = record {
          in_table = newest.in_table;
          newest = newest.newest;
          its_graph = more.found;
          its_node = more.nodes j.letter.node stood.node stood.names.its_node;
        };
        fits = let f = stood.fits in record {
          ready = more.ready j.letter.node f.ready;
          undone = more.undone f.undone;
          target = target stood.node stood.names.its_node f.target;
          suits = λ r under at. f.suits r under (sym same ∙ at);
          ends_update = λ word n is stage. let k : HasMade s j = f.ends_update word n is stage in
              record { row = k.row; found = same ∙ k.found; status = k.status; begun = k.begun; newest = k.newest };
          ends_cleanup = λ n r is stage at. let k : IsWanted o r = f.ends_cleanup n r is stage (sym same ∙ at) in
              record { current = k.current; planned = k.planned };
        };
      }

  pub jobs_fit : ((e : ℕ) (j : Job) → job_at t.jobs e ≡ Some j → Goes s t e j) → JobsFit t
  jobs_fit goes = record {
    under_way = λ e j at. way e j (goes e j at);
    newest = λ e j st at k. stand e j st k (goes e j at);
  } where
    way : (e : ℕ) (j : Job) → Goes s t e j → IsUnderWay j.stage → HasUnderWay t j
    way e j (stays its same was) = under_way e j its same
    way e j (fits under newest) = under

    stand : (e : ℕ) (j : Job) (st : Stack) → IsNewest t j.letter st → Goes s t e j → JobStands t j st
    stand e j st k (stays its same was) =
        let w = was st k in
        subst (JobStands t j) w.is
        (stands e j its same w.stack w.status (subst (IsNewest t j.letter) (sym w.is) k) w.newest w.grown)
    stand e j st k (fits under newest) = newest st k
