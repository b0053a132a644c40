-- Where a job that isn't stale stands: at a ready node of its stack's graph, not done, whose target is the job's row.
use Rattle.std.proofs.Common.{◌≡◌, ℕ, List, Some, sym, ap, ◌∙◌, subst}
use Rattle.std.specs.Prelude.{slice_get}
use Rattle.std.specs.Str.{bytes_eq}
use Rattle.std.proofs.lemmas.Slice.Eq.{bytes_eq-Decides}
use Rattle.heat_plan.specs.declared.item.Item.{Item}
use Rattle.traversal_graph.specs.declared.shape.Node.{Node}
use Rattle.traversal_graph.specs.declared.shape.Node.TheVariants.{U}
use Rattle.mail_table.specs.Mails.{job_at}
use Rattle.mail_table.specs.declared.mail.Job.{Job}
use Rattle.core_state.specs.Reads.{IsDone, IsReady, item_at}
use Rattle.core_state.specs.State.{StateData}
use Rattle.core_state.specs.declared.graph.Graph.{Graph}
use Rattle.core_state.specs.declared.stack.Stack.{Stack}
use Rattle.step_relation.specs.Begins.{Begins}
use Rattle.step_relation.specs.Freshness.{Names, plan_of}
use Rattle.step_relation.specs.Targets.{IsTarget}
use Rattle.step_relation.specs.GraphFits.{Aims, GraphFits, IsNode, TargetFits, graph_of, graph_or}
use Rattle.step_relation.specs.MailFits.{JobStands}
use Rattle.step_relation.specs.Sound.{Standing}
use Rattle.history_laws.proofs.tables.Rows.{row-key, row_self, same_some}
use Rattle.history_laws.proofs.tables.Tables.{at-key}
use Rattle.graph_laws.proofs.graphs.Carried.{aims_fits}

-- the item found by a name has it
pub item_named : (items : List Item) (name : List ℕ) (item : Item) → item_at items name ≡ Some item → item.name ≡ name
item_named items name item at = at-key bytes_eq bytes_eq-Decides (λ (i : Item). i.name) items name item at

-- a job of its stack's newest traversal
module _ (s : StateData) (h : Standing s) (e : ℕ) (j : Job) (its : job_at s.jobs e ≡ Some j) (st : Stack) (gr : Graph)
    (node : Node)
    (names : Names s j.letter st gr node) where
  pub job_graph : graph_of s j.letter.stack ≡ gr
  job_graph = ap (graph_or j.letter.stack) names.its_graph

  pub job_node : IsNode (graph_of s j.letter.stack) j.letter.node node
  job_node = subst (λ (x : Graph). IsNode x j.letter.node node) (sym job_graph) names.its_node

  stands : JobStands s j st
  stands = h.shape.jobs.newest e j st its (record { in_table = names.in_table; newest = names.newest })

  its_graph : stands.graph ≡ graph_of s j.letter.stack
  its_graph = same_some stands.graph gr stands.names.its_graph names.its_graph ∙ sym job_graph

  node_is : stands.node ≡ node
  node_is = same_some stands.node node
      (subst (λ (x : Graph). slice_get x.graph.nodes j.letter.node ≡ Some stands.node) its_graph stands.names.its_node)
      job_node

  pub job_ready : IsReady (graph_of s j.letter.stack) j.letter.node
  job_ready = subst (λ (x : Graph). IsReady x j.letter.node) its_graph stands.fits.ready

  pub job_undone : ¬ IsDone (graph_of s j.letter.stack) j.letter.node
  job_undone = subst (λ (x : Graph). ¬ IsDone x j.letter.node) its_graph stands.fits.undone

  pub job_target : IsTarget s.rows st.name node j.row
  job_target = subst (λ (x : Node). IsTarget s.rows st.name x j.row) node_is stands.fits.target

-- the job of a begin
module _ (s : StateData) (h : Standing s) (e : ℕ) (k : Begins s e) where
  abbrev own : List ℕ
  own = k.job.letter.stack

  abbrev pub g : Graph
  g = graph_of s own

  pub graph_is : g ≡ k.graph
  graph_is = job_graph s h e k.job k.works.its k.stack k.graph (U k.name k.chosen) k.names

  pub its_node : IsNode g k.job.letter.node (U k.name k.chosen)
  its_node = job_node s h e k.job k.works.its k.stack k.graph (U k.name k.chosen) k.names

  pub ready : IsReady g k.job.letter.node
  ready = job_ready s h e k.job k.works.its k.stack k.graph (U k.name k.chosen) k.names

  pub undone : ¬ IsDone g k.job.letter.node
  undone = job_undone s h e k.job k.works.its k.stack k.graph (U k.name k.chosen) k.names

  number : k.row.no ≡ k.job.row
  number = row-key s.rows k.job.row k.row k.found

  pub its_graph_fits : GraphFits s k.stack g
  its_graph_fits = h.shape.graphs own k.stack k.names.in_table

  pub its_aim : Aims s k.stack g k.job.letter.node k.name k.row
  its_aim = record {
    chosen = k.chosen;
    node = its_node;
    to = subst (λ (x : ℕ). IsTarget s.rows k.stack.name (U k.name k.chosen) x) (sym number)
        (job_target s h e k.job k.works.its k.stack k.graph (U k.name k.chosen) k.names);
    found = row_self s.rows k.job.row k.row k.found;
  }

  pub its_target : TargetFits s k.stack k.name k.chosen k.row
  unfolding its_aim
  its_target = aims_fits s k.stack g its_graph_fits.targets k.job.letter.node k.name k.row its_aim

  pub its_item : k.item.name ≡ k.name
  its_item = item_named (plan_of k.stack.plan).items k.name k.item k.asked
