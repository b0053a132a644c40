-- Whether a letter or a job has work, and who holds a row, can be told.
use Rattle.std.proofs.Common.{◌≡◌, ◌≢◌, ◌⊎◌, inl, inr, ℕ, List, Option, Some, None, refl, sym, ap, subst, ◌∙◌}
use Rattle.std.specs.Prelude.{Contains, slice_get}
use Rattle.heat_plan.specs.declared.item.Item.{Item}
use Rattle.heat_plan.specs.declared.phase.Act.TheVariants.{Delete}
use Rattle.traversal_graph.specs.declared.shape.Node.{Node}
use Rattle.traversal_graph.specs.declared.shape.Node.TheVariants.{C, U}
use Rattle.row_table.specs.Rows.{row_at}
use Rattle.row_table.specs.declared.row.Row.{Row}
use Rattle.sync_points.specs.declared.point.Input.{Input}
use Rattle.sync_points.specs.declared.point.Point.{Point}
use Rattle.mail_table.specs.Mails.{job_at, job_key}
use Rattle.mail_table.specs.declared.mail.Job.{Job}
use Rattle.mail_table.specs.declared.mail.Letter.{Letter}
use Rattle.core_state.specs.Reads.{HasInput, IsDone, IsReady, item_at}
use Rattle.core_state.specs.State.{StateData, graph_at, stack_at}
use Rattle.core_state.specs.declared.graph.Graph.{Graph}
use Rattle.core_state.specs.declared.stack.Stack.{Stack}
use Rattle.history_laws.specs.Freshness.{IsFresh, IsMeant, Names, Serves, cleans, plan_of, updates}
use Rattle.history_laws.specs.Resends.{IsOpen}
use Rattle.history_laws.specs.Takes.{HasNoHolder, IsHolder}
use Rattle.history_laws.specs.Targets.{IsTarget}
use Rattle.history_laws.proofs.tables.Rows.{same_or_not, same_some}
use Rattle.history_laws.proofs.tables.Targets.{target_once}
use Rattle.next_laws.proofs.Readings.{names_one}
use Rattle.next_laws.proofs.Decide.{Decided, both_or_not, bound_at, each_or_one, exchanged, flag_or_not, implied_or_not}
use Rattle.next_laws.proofs.Decide.{least_or_none, not_or, some_or_none}
use Rattle.next_laws.proofs.Targets.{delete_or_not, target_or_none}

-- what a letter names
pub record Named (s : StateData) (l : Letter) : Type 0 where
  pub stack : Stack
  pub graph : Graph
  pub node : Node
  pub names : Names s l stack graph node

pub named_or_not : (s : StateData) (l : Letter) → Decided (Named s l)
named_or_not s l = by_stack (stack_at s.stacks l.stack) refl where
  by_node : (st : Stack) (g : Graph) → stack_at s.stacks l.stack ≡ Some st → st.trav ≡ l.trav
      → graph_at s.graphs l.stack ≡ Some g
      → (o : Option Node) → slice_get g.graph.nodes l.node ≡ o → Decided (Named s l)
  by_node st g at newest at_g None none = inr (λ k.
      let same : k.graph ≡ g = same_some k.graph g k.names.its_graph at_g in
      let there : slice_get g.graph.nodes l.node ≡ Some
      k.node = subst (λ (z : Graph). slice_get z.graph.nodes l.node ≡ Some k.node) same k.names.its_node in cc)
  by_node st g at newest at_g (Some node) found = inl (record {
    stack = st;
    graph = g;
    node = node;
    names = record { in_table = at; newest = newest; its_graph = at_g; its_node = found };
  })

  by_graph : (st : Stack) → stack_at s.stacks l.stack ≡ Some st → st.trav ≡ l.trav → (o : Option Graph)
      → graph_at s.graphs l.stack ≡ o → Decided (Named s l)
  by_graph st at newest None none = inr (λ k. let there = k.names.its_graph in cc)
  by_graph st at newest (Some g) found = by_node st g at newest found (slice_get g.graph.nodes l.node) refl

  by_stack : (o : Option Stack) → stack_at s.stacks l.stack ≡ o → Decided (Named s l)
  by_stack None none = inr (λ k. let there = k.names.in_table in cc)
  by_stack (Some st) at = elim (same_or_not st.trav l.trav) [
    | inl newest ↦ by_graph st at newest (graph_at s.graphs l.stack) refl
    | inr not ↦ inr (λ k. let same : k.stack ≡ st = same_some k.stack st k.names.in_table at in
        not (ap (λ (z : Stack). z.trav) (sym same) ∙ k.names.newest))
  ]

needs_row : (st : Stack) (name : List ℕ) (n : ℕ) → Serves st (U name n) None → ⊥
needs_row st name n x = elim x [ ]

needs_item : (st : Stack) (name : List ℕ) (n : ℕ) (r : Row) → item_at (plan_of st.plan).items name ≡ None
    → Serves st (U name n) (Some r) → ⊥
needs_item st name n r none (updates _ _ item _ asked kept) = cc

needs_kept : (st : Stack) (name : List ℕ) (n : ℕ) (r : Row) → r.act ≡ Delete → Serves st (U name n) (Some r) → ⊥
needs_kept st name n r gone (updates _ _ item _ asked kept) = kept gone

pub serves_or_not : (st : Stack) (node : Node) (row : Option Row) → Decided (Serves st node row)
serves_or_not st (C n) row = inl (cleans n row)
serves_or_not st (U name n) None = inr (needs_row st name n)
serves_or_not st (U name n) (Some r) = elim (delete_or_not r.act) [
  | inl gone ↦ inr (needs_kept st name n r gone)
  | inr kept ↦ by kept (item_at (plan_of st.plan).items name) refl
] where
  by : r.act ≢ Delete → (o : Option Item) → item_at (plan_of st.plan).items name ≡ o
      → Decided (Serves st (U name n) (Some r))
  by kept None none = inr (needs_item st name n r none)
  by kept (Some item) asked = inl (updates name n item r asked kept)

pub fresh_or_not : (s : StateData) (l : Letter) (n : ℕ) → Decided (IsFresh s l n)
fresh_or_not s l n = elim (named_or_not s l) [
  | inr not ↦ inr (λ k. not (record { stack = k.stack; graph = k.graph; node = k.node; names = k.names }))
  | inl named ↦ elim (serves_or_not named.stack named.node (row_at s.rows n)) [
    | inl serves ↦ inl (record {
      stack = named.stack;
      graph = named.graph;
      node = named.node;
      row = row_at s.rows n;
      names = named.names;
      found = refl;
      serves = serves;
    })
    | inr not ↦ inr (λ k.
        let (stacks, _, nodes) = names_one s l l refl k.stack named.stack k.graph named.graph k.node named.node k.names
        named.names in
        not (subst (λ (x : Stack). Serves x named.node (row_at s.rows n)) stacks
        (subst (λ (x : Node). Serves k.stack x (row_at s.rows n)) nodes
        (subst (λ (x : Option Row). Serves k.stack k.node x) (sym k.found) k.serves))))
  ]
]

pub meant_or_not : (s : StateData) (l : Letter) → Decided (IsMeant s l)
meant_or_not s l = elim (named_or_not s l) [
  | inr not ↦ inr
      (λ k. not (record { stack = k.fresh.stack; graph = k.fresh.graph; node = k.fresh.node; names = k.fresh.names }))
  | inl named ↦ elim (target_or_none s.rows l.stack named.node) [
    | inr none ↦ inr (λ k. none k.target (moved named k))
    | inl found ↦ let (t, to) = found in elim (fresh_or_not s l t) [
      | inl fresh ↦ inl (record { target = t; fresh = fresh; to = at_node named t fresh t to })
      | inr not ↦ inr
          (λ k. not (subst (IsFresh s l) (target_once s.rows l.stack named.node k.target t (moved named k) to) k.fresh))
    ]
  ]
] where
  moved : (named : Named s l) (k : IsMeant s l) → IsTarget s.rows l.stack named.node k.target
  moved named k =
      let (_, _, nodes) = names_one s l l refl k.fresh.stack named.stack k.fresh.graph named.graph k.fresh.node
      named.node k.fresh.names named.names in
      subst (λ (x : Node). IsTarget s.rows l.stack x k.target) nodes k.to

  at_node : (named : Named s l) (n : ℕ) (k : IsFresh s l n) (t : ℕ) → IsTarget s.rows l.stack named.node t
      → IsTarget s.rows l.stack k.node t
  at_node named n k t to =
      let (_, _, nodes) = names_one s l l refl k.stack named.stack k.graph named.graph k.node named.node k.names
      named.names in
      subst (λ (x : Node). IsTarget s.rows l.stack x t) (sym nodes) to

-- the lowest engine that has a row
module _ (jobs : List Job) (n : ℕ) where
  record HasRow (f : ℕ) : Type 0 where
    pub job : Job
    pub its : job_at jobs f ≡ Some job
    pub has : job.row ≡ n

  has_or_not : (f : ℕ) → Decided (HasRow f)
  has_or_not f = by (job_at jobs f) refl where
    by : (o : Option Job) → job_at jobs f ≡ o → Decided (HasRow f)
    by None none = inr (λ k. let its = k.its in cc)
    by (Some j) at = elim (same_or_not j.row n) [
      | inl has ↦ inl (record { job = j; its = at; has = has })
      | inr not ↦ inr (λ k. let same = same_some k.job j k.its at in not (ap (λ (x : Job). x.row) (sym same) ∙ k.has))
    ]

  pub holder_or_none : ((f : ℕ) × (j : Job) × IsHolder jobs n f j) ⊎ HasNoHolder jobs n
  holder_or_none = let (b, within) = bound_at job_key jobs in elim (least_or_none HasRow has_or_not b) [
    | inl found ↦ let (f, l) = found in inl (
      f,
      l.is.job,
      record {
        its = l.is.its;
        has = l.is.has;
        lowest = λ g k at on. l.least g (record { job = k; its = at; has = on });
      },
    )
    | inr none ↦ inr (λ f j at on. none f (within f j at) (record { job = j; its = at; has = on }))
  ]

-- the state of a node
pub done_or_not : (g : Graph) (i : ℕ) → Decided (IsDone g i)
done_or_not g i = by (slice_get g.points i) refl where
  by : (o : Option Point) → slice_get g.points i ≡ o → Decided (IsDone g i)
  by None none = inr (λ k. let there = k.there in cc)
  by (Some p) at = elim (flag_or_not p.done) [
    | inl done ↦ inl (record { point = p; there = at; done = done })
    | inr not ↦ inr (λ k. let same = same_some k.point p k.there at in
        not (ap (λ (x : Point). x.done) (sym same) ∙ k.done))
  ]

pub input_or_not : (g : Graph) (i a : ℕ) → Decided (HasInput g i a)
input_or_not g i a = by (slice_get g.points i) refl where
  by : (o : Option Point) → slice_get g.points i ≡ o → Decided (HasInput g i a)
  by None none = inr (λ k. let there = k.there in cc)
  by (Some p) at = elim (some_or_none (λ (x : Input). x.from ≡ a) (λ x. same_or_not x.from a) p.inputs) [
    | inl found ↦ let (x, among, from) = found in
        inl (record { point = p; input = x; there = at; among = among; from = from })
    | inr none ↦ inr (λ k. let same = same_some k.point p k.there at in
        none k.input (subst (λ (z : Point). Contains z.inputs k.input) same k.among) k.from)
  ]

pub ready_or_not : (g : Graph) (i : ℕ) → Decided (IsReady g i)
ready_or_not g i = elim (each_or_one (λ (x : ℕ × ℕ). x.1 ≡ i → HasInput g i x.0)
    (λ x. implied_or_not (same_or_not x.1 i) (input_or_not g i x.0)) g.graph.edges) [
      | inl all ↦ inl (λ a c. all (a, i) c refl)
      | inr one ↦ let (x, among, not) = one in
          inr (λ ready. not (λ is. ready x.0 (subst (Contains g.graph.edges) (pair_to x i is) among)))
    ] where
      pair_to : (x : ℕ × ℕ) (k : ℕ) → x.1 ≡ k → x ≡ (x.0, k)
      pair_to x k is = let e : (x.0, x.1) ≡ (x.0, k) = ap (λ (b : ℕ). (x.0, b)) is in e

pub open_or_not : (g : Graph) (i : ℕ) → Decided (IsOpen g i)
open_or_not g i = exchanged (λ p. record { ready = p.0; undone = p.1 }) (λ k. (k.ready, k.undone))
    (both_or_not (ready_or_not g i) (not_or (done_or_not g i)))
