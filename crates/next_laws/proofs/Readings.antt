-- What a step reads of a state is one: a letter, a job, what either names, its row, its holder, and whom a release
-- tells.
use Rattle.std.proofs.Common.{◌≡◌, ℕ, List, Option, Some, refl, sym, ap, subst, ◌∙◌, arith}
use Rattle.std.specs.Prelude.{slice_get}
use Rattle.dep_graph.specs.Lists.{IsLeast}
use Rattle.traversal_graph.specs.declared.shape.Node.{Node}
use Rattle.row_table.specs.Rows.{row_at}
use Rattle.row_table.specs.declared.row.Row.{Row}
use Rattle.mail_table.specs.Mails.{job_at, letter_at}
use Rattle.mail_table.specs.declared.mail.Job.{Job}
use Rattle.mail_table.specs.declared.mail.Letter.{Letter}
use Rattle.mail_table.specs.declared.mail.Stage.{Stage}
use Rattle.core_state.specs.State.{StateData, graph_at, stack_at}
use Rattle.core_state.specs.declared.graph.Graph.{Graph}
use Rattle.core_state.specs.declared.stack.Stack.{Stack}
use Rattle.history_laws.specs.Freshness.{IsFresh, IsMeant, Names}
use Rattle.history_laws.specs.Nexts.{IsLowest, TakesOver, Works}
use Rattle.history_laws.specs.Resends.{AwaitsCleanup, AwaitsUpdate, HasGraph, Resends, cleanup, nobody, update}
use Rattle.history_laws.specs.Takes.{IsHolder}
use Rattle.history_laws.specs.Targets.{IsTarget}
use Rattle.history_laws.proofs.tables.Rows.{same_some}
use Rattle.history_laws.proofs.tables.Targets.{target_once}
use Rattle.next_laws.proofs.Listings.{least_one}

pub lowest_one : (letters : List Letter) (l m : Letter) → IsLowest letters l → IsLowest letters m → l ≡ m
lowest_one letters l m h i =
    let same : l.no ≡ m.no = omega (arith, h.lowest m.no m i.waits, i.lowest l.no l h.waits) in
    same_some l m h.waits (subst (λ (n : ℕ). letter_at letters n ≡ Some m) (sym same) i.waits)

pub works_one : (s : StateData) (e : ℕ) (a b : Stage) (j i : Job) → Works s e j a → Works s e i b → j ≡ i
works_one s e a b j i w v = same_some j i w.its v.its

-- what a letter names
pub names_one : (s : StateData) (l m : Letter) → l ≡ m → (a b : Stack) (g h : Graph) (x y : Node) → Names s l a g x
    → Names s m b h y
    → (a ≡ b) × (g ≡ h) × (x ≡ y)
names_one s l m e a b g h x y n k =
    let stacks : a ≡ b = same_some a b n.in_table
    (subst (λ (z : Letter). stack_at s.stacks z.stack ≡ Some b) (sym e) k.in_table) in
    let graphs : g ≡ h = same_some g h n.its_graph
    (subst (λ (z : Letter). graph_at s.graphs z.stack ≡ Some h) (sym e) k.its_graph) in
    let node : slice_get g.graph.nodes l.node ≡ Some y = subst (λ (z : Graph). slice_get z.graph.nodes l.node ≡ Some y)
    (sym graphs)
    (subst (λ (z : Letter). slice_get h.graph.nodes z.node ≡ Some y) (sym e) k.its_node) in
    (stacks, graphs, same_some x y n.its_node node)

-- what a letter with work names, and its row
pub record AreAlike (a_stack b_stack : Stack) (a_graph b_graph : Graph) (a_node b_node : Node)
    (a_row b_row : Option Row) : Type 0 where
  pub stacks : a_stack ≡ b_stack
  pub graphs : a_graph ≡ b_graph
  pub nodes : a_node ≡ b_node
  pub rows : a_row ≡ b_row

pub fresh_one : (s : StateData) (l m : Letter) (n k : ℕ) → l ≡ m → n ≡ k → (a : IsFresh s l n) (b : IsFresh s m k)
    → AreAlike a.stack b.stack a.graph b.graph a.node b.node a.row b.row
fresh_one s l m n k e d a b =
    let (stacks, graphs, nodes) = names_one s l m e a.stack b.stack a.graph b.graph a.node b.node a.names b.names in
    record {
      stacks = stacks;
      graphs = graphs;
      nodes = nodes;
      rows = sym a.found ∙ (ap (row_at s.rows) d ∙ b.found);
    }

pub meant_one : (s : StateData) (l m : Letter) → l ≡ m → (a : IsMeant s l) (b : IsMeant s m) → a.target ≡ b.target
meant_one s l m e a b =
    let (_, _, nodes) = names_one s l m e a.fresh.stack b.fresh.stack a.fresh.graph b.fresh.graph a.fresh.node
    b.fresh.node
    a.fresh.names b.fresh.names in
    target_once s.rows l.stack a.fresh.node a.target b.target a.to
    (subst (λ (z : Node). IsTarget s.rows l.stack z b.target) (sym nodes)
    (subst (λ (z : Letter). IsTarget s.rows z.stack b.fresh.node b.target) (sym e) b.to))

pub holder_one : (jobs : List Job) (n m f g : ℕ) (j i : Job) → n ≡ m → IsHolder jobs n f j → IsHolder jobs m g i → f ≡ g
holder_one jobs n m f g j i e h k =
    let a = h.lowest g i k.its (k.has ∙ sym e) in let b = k.lowest f j h.its (h.has ∙ e) in omega (arith, a, b)

pub left_one : (s : StateData) (e f g : ℕ) (j i : Job) → TakesOver s e f j → TakesOver s e g i → (f ≡ g) × (j ≡ i)
left_one s e f g j i h k =
    let a = h.lowest g i k.left in let b = k.lowest f j h.left in let same : f ≡ g = omega (arith, a, b) in
    (same, same_some j i h.left.its (subst (λ (n : ℕ). job_at s.jobs n ≡ Some i) (sym same) k.left.its))

-- whom a release tells
stack_graph_one : (s : StateData) (name : List ℕ) (a b : Stack) (g h : Graph) → HasGraph s name a g
    → HasGraph s name b h → (a ≡ b) × (g ≡ h)
stack_graph_one s name a b g h n k = (same_some a b n.in_table k.in_table, same_some g h n.its_graph k.its_graph)

module _ (s : StateData) (name : List ℕ) (number : ℕ) (a b : Stack) (g h : Graph) (n : HasGraph s name a g)
    (k : HasGraph s name b h) where
  stacks : a ≡ b
  stacks = (stack_graph_one s name a b g h n k).0

  graphs : g ≡ h
  graphs = (stack_graph_one s name a b g h n k).1

  awaits_here : (i : ℕ) → AwaitsUpdate s b h number i → AwaitsUpdate s a g number i
  awaits_here i w = subst (λ (z : Graph). AwaitsUpdate s a z number i) (sym graphs)
      (subst (λ (z : Stack). AwaitsUpdate s z h number i) (sym stacks) w)

  updates_one : (i j : ℕ) → IsLeast (AwaitsUpdate s a g number) i → IsLeast (AwaitsUpdate s b h number) j → i ≡ j
  updates_one i j x y = least_one (AwaitsUpdate s a g number) i j x
      (subst (λ (z : Graph). IsLeast (AwaitsUpdate s a z number) j) (sym graphs)
      (subst (λ (z : Stack). IsLeast (AwaitsUpdate s z h number) j) (sym stacks) y))

  cleanups_one : (i j : ℕ) → IsLeast (AwaitsCleanup g number) i → IsLeast (AwaitsCleanup h number) j → i ≡ j
  cleanups_one i j x y = least_one (AwaitsCleanup g number) i j x
      (subst (λ (z : Graph). IsLeast (AwaitsCleanup z number) j) (sym graphs) y)

pub resends_one : (s : StateData) (name : List ℕ) (number : ℕ) (ls ms : List Letter) → Resends s name number ls
    → Resends s name number ms
    → ls ≡ ms
resends_one s name number ls ms (update a g i n x) (update b h j k y) =
    let e : i ≡ j = updates_one s name number a b g h n k i j x y in
    let d : a ≡ b = stacks s name number a b g h n k in cc
resends_one s name number ls ms (update a g i n x) (cleanup b h j k none y) =
    absurd (none i (awaits_here s name number b a h g k n i x.is))
resends_one s name number ls ms (update a g i n x) (nobody none none') = absurd (none a g i n x.is)
resends_one s name number ls ms (cleanup a g i n none x) (update b h j k y) =
    absurd (none j (awaits_here s name number a b g h n k j y.is))
resends_one s name number ls ms (cleanup a g i n none x) (cleanup b h j k none' y) =
    let e : i ≡ j = cleanups_one s name number a b g h n k i j x y in
    let d : a ≡ b = stacks s name number a b g h n k in cc
resends_one s name number ls ms (cleanup a g i n none x) (nobody none' none'') = absurd (none'' a g i n x.is)
resends_one s name number ls ms (nobody none none') (update b h j k y) = absurd (none b h j k y.is)
resends_one s name number ls ms (nobody none none') (cleanup b h j k none'' y) = absurd (none' b h j k y.is)
resends_one s name number ls ms (nobody none none') (nobody none'' none''') = refl
