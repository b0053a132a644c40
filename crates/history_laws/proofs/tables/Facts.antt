-- What a standing state says of a letter, a job and a node's target.
use Rattle.std.proofs.Common.{◌≡◌, ◌<◌, ℕ, List, Some, refl, ap, ◌∙◌, subst, arith}
use Rattle.std.specs.Prelude.{slice_get}
use Rattle.traversal_graph.specs.declared.shape.Node.{Node}
use Rattle.traversal_graph.specs.declared.shape.Node.TheVariants.{U}
use Rattle.row_table.specs.Chains.{Leads, ends, goes}
use Rattle.row_table.specs.Rows.{row_at}
use Rattle.row_table.specs.declared.row.Row.{Row}
use Rattle.mail_table.specs.Mails.{job_at}
use Rattle.mail_table.specs.declared.mail.Job.{Job}
use Rattle.mail_table.specs.declared.mail.Letter.{Letter}
use Rattle.step_relation.specs.State.{StateData, graph_at}
use Rattle.step_relation.specs.declared.Graph.{Graph}
use Rattle.step_relation.specs.declared.Stack.{Stack}
use Rattle.step_relation.specs.Freshness.{Names}
use Rattle.step_relation.specs.Targets.{IsTarget, of_c, of_u, renewed}
use Rattle.step_relation.specs.GraphFits.{GraphFits, IsNode, TargetFits, TargetsFit, graph_of, graph_or}
use Rattle.step_relation.specs.Linked.{IsOf, Links, by_job, by_node, by_row}
use Rattle.step_relation.specs.MailFits.{JobFits}
use Rattle.step_relation.specs.MarkFits.{MarkFits}
use Rattle.step_relation.specs.Numbered.{Numbered, row_of}
use Rattle.step_relation.specs.RowsFit.{RowsFit}
use Rattle.step_relation.specs.Sound.{Standing}
use Rattle.history_laws.proofs.tables.Rows.{row-key, same_some, stack-key}
use Rattle.history_laws.proofs.tables.Targets.{leads_stands, target_once}

-- a number that is a stack's was drawn
pub drawn : (s : StateData) (n : ℕ) (name : List ℕ) → Numbered s → IsOf s.rows s.graphs s.jobs n name → n < s.next.row
drawn s n name h (by_row r at is) = let k = row-key s.rows n r at in let b = (h.rows n r at).no_ in omega arith
drawn s n name h (by_node g i node at at_i is) = let b = (h.graphs name g at).nodes i node at_i in omega arith
drawn s n name h (by_job e j at on is) = let b = (h.jobs e j at).its_row in omega arith

-- what a letter names it names once
pub names_stack : (s : StateData) (l : Letter) (st st' : Stack) (g g' : Graph) (node node' : Node) → Names s l st g node
    → Names s l st' g' node' → st ≡ st'
names_stack s l st st' g g' node node' k k' = same_some st st' k.in_table k'.in_table

pub names_graph : (s : StateData) (l : Letter) (st st' : Stack) (g g' : Graph) (node node' : Node) → Names s l st g node
    → Names s l st' g' node' → g ≡ g'
names_graph s l st st' g g' node node' k k' = same_some g g' k.its_graph k'.its_graph

pub names_node : (s : StateData) (l : Letter) (st st' : Stack) (g g' : Graph) (node node' : Node) → Names s l st g node
    → Names s l st' g' node' → node ≡ node'
names_node s l st st' g g' node node' k k' =
    let is : g ≡ g' = names_graph s l st st' g g' node node' k k' in
    same_some node node' (subst (λ (x : Graph). slice_get x.graph.nodes l.node ≡ Some node) is k.its_node) k'.its_node

pub graph_here : (s : StateData) (name : List ℕ) (g : Graph) → graph_at s.graphs name ≡ Some g → graph_of s name ≡ g
graph_here s name g at = ap (graph_or name) at

-- numbers on a chain are one stack's
module _ (s : StateData) (h : Links s) (name : List ℕ) where
  pub leads_owned : (n m : ℕ) → IsOf s.rows s.graphs s.jobs n name → Leads s.rows n m
      → IsOf s.rows s.graphs s.jobs m name
  leads_owned n m has (ends _ r at last) = has
  leads_owned n m has (goes _ k _ r at by up on) =
      let (q, at_q) = leads_stands s.rows k m on in
      leads_owned k m (by_row q at_q
      ((h.chained.forth n k r q at by at_q).stack ∙ h.owned.one n r.stack name (by_row r at refl) has)) on

  pub target_owned : (node : Node) (m : ℕ) → IsOf s.rows s.graphs s.jobs (row_of node) name
      → IsTarget s.rows name node m
      → IsOf s.rows s.graphs s.jobs m name
  target_owned node m has (of_c _) = has
  target_owned node m has (of_u word n _ on) = leads_owned n m has on
  target_owned node m has (renewed word n r none is) = by_row r is.found is.stack_is

-- the stack of a job's row
pub job_row_stack : (s : StateData) (h : Links s) (e : ℕ) (j : Job) (r : Row) → job_at s.jobs e ≡ Some j
    → row_at s.rows j.row ≡ Some r
    → r.stack ≡ j.letter.stack
job_row_stack s h e j r its at = h.owned.one j.row r.stack j.letter.stack (by_row r at refl) (by_job e j its refl refl)

module _ (s : StateData) (S : Standing s) (l : Letter) (st : Stack) (g : Graph) (node : Node)
    (k : Names s l st g node) where
  pub named_stack : st.name ≡ l.stack
  named_stack = stack-key s.stacks l.stack st k.in_table

  pub named_owned : IsOf s.rows s.graphs s.jobs (row_of node) l.stack
  named_owned = by_node g l.node node k.its_graph k.its_node refl

  pub named_fits : GraphFits s st g
  named_fits = subst (GraphFits s st) (graph_here s l.stack g k.its_graph) (S.shape.graphs l.stack st k.in_table)

  pub named_rows : RowsFit s st g
  named_rows = subst (RowsFit s st) (graph_here s l.stack g k.its_graph) (S.shape.rows l.stack st k.in_table)

  pub named_marks : MarkFits s st g
  named_marks = subst (MarkFits s st) (graph_here s l.stack g k.its_graph) (S.marks.each l.stack st k.in_table)

-- the target of an update node is what fits
pub update_target : (s : StateData) (st : Stack) (g : Graph) → TargetsFit s st g → (i n t : ℕ) (word : List ℕ) (r : Row)
    → IsNode g i (U word n)
    → IsTarget s.rows st.name (U word n) t → row_at s.rows t ≡ Some r → TargetFits s st word n r
update_target s st g fits i n t word r at to found =
    let (q, is) = fits.updates i n word at in
    let number : t ≡ q.no = target_once s.rows st.name (U word n) t q.no to is.to in
    let same : q ≡ r = same_some q r is.is.found (subst (λ (x : ℕ). row_at s.rows x ≡ Some r) number found) in
    subst (TargetFits s st word n) same is

-- a job of its stack's newest traversal fits its node
pub job_fits : (s : StateData) → Standing s → (e : ℕ) (j : Job) (st : Stack) (g : Graph) (node : Node)
    → job_at s.jobs e ≡ Some j
    → Names s j.letter st g node → JobFits s j st g node
job_fits s S e j st g node its names =
    let k = S.shape.jobs.newest e j st its (record { in_table = names.in_table; newest = names.newest }) in
    let is_g : k.graph ≡ g = names_graph s j.letter st st k.graph g k.node node k.names names in
    let is_node : k.node ≡ node = names_node s j.letter st st k.graph g k.node node k.names names in
    subst (JobFits s j st g) is_node (subst (λ (x : Graph). JobFits s j st x k.node) is_g k.fits)

-- the row of such a job at an update node is its name's current row
pub job_target : (s : StateData) → Standing s
    → (e : ℕ) (j : Job) (st : Stack) (g : Graph) (word : List ℕ) (n : ℕ) (r : Row) → job_at s.jobs e ≡ Some j
    → Names s j.letter st g (U word n) → row_at s.rows j.row ≡ Some r → TargetFits s st word n r
job_target s S e j st g word n r its names found =
    update_target s st g (named_fits s S j.letter st g (U word n) names).targets j.letter.node n j.row word r
    names.its_node
    (job_fits s S e j st g (U word n) its names).target found
