-- What keeps `Owned`.
use Rattle.std.proofs.Common.{◌≡◌, ◌⊎◌, inl, inr, ℕ, List, Some, refl, sym, ap, ◌∙◌, subst}
use Rattle.std.specs.Prelude.{slice_get}
use Rattle.traversal_graph.specs.declared.shape.Node.{Node}
use Rattle.traversal_graph.specs.declared.shape.TravGraph.{TravGraph}
use Rattle.row_table.specs.Rows.{cut_row, put_row, row_at}
use Rattle.row_table.specs.declared.row.Row.{Row}
use Rattle.sync_points.specs.declared.point.Point.{Point}
use Rattle.mail_table.specs.Mails.{cut_job, put_job}
use Rattle.mail_table.specs.declared.mail.Job.{Job}
use Rattle.step_relation.specs.Changes.{fresh_graph, put_point, with_point}
use Rattle.step_relation.specs.State.{cut_graph, graph_at, put_graph}
use Rattle.step_relation.specs.declared.Graph.{Graph}
use Rattle.step_relation.specs.Linked.{IsOf, Owned, by_job, by_node, by_row}
use Rattle.step_relation.specs.Numbered.{row_of}
use Rattle.history_laws.proofs.tables.Points.{point_found}
use Rattle.history_laws.proofs.tables.Rows.{graph_cut, graph_put, job_cut, job_put, row_cut, row_put}

pub IsOf-put_row : (q : Row) (rows : List Row) (gs : List Graph) (js : List Job) (n : ℕ) (a : List ℕ) → IsOf
    (put_row q rows) gs js n a
    → IsOf rows gs js n a ⊎ ((q.no ≡ n) × (q.stack ≡ a))
IsOf-put_row q rows gs js n a (by_row r at s) = elim (row_put q rows at) [
  | inl new ↦ inr (new.0, ap (λ (x : Row). x.stack) new.1 ∙ s)
  | inr was ↦ inl (by_row r was.1 s)
]
IsOf-put_row q rows gs js n a (by_node g i node at at_i is) = inl (by_node g i node at at_i is)
IsOf-put_row q rows gs js n a (by_job e j at on s) = inl (by_job e j at on s)

pub IsOf-cut_row : (c : ℕ) (rows : List Row) (gs : List Graph) (js : List Job) (n : ℕ) (a : List ℕ) → IsOf
    (cut_row c rows) gs js n a → IsOf rows gs js n a
IsOf-cut_row c rows gs js n a (by_row r at s) = by_row r (row_cut c rows at).1 s
IsOf-cut_row c rows gs js n a (by_node g i node at at_i is) = by_node g i node at at_i is
IsOf-cut_row c rows gs js n a (by_job e j at on s) = by_job e j at on s

pub IsOf-put_job : (q : Job) (rows : List Row) (gs : List Graph) (js : List Job) (n : ℕ) (a : List ℕ)
    → IsOf rows gs (put_job q js) n a
    → IsOf rows gs js n a ⊎ ((q.row ≡ n) × (q.letter.stack ≡ a))
IsOf-put_job q rows gs js n a (by_row r at s) = inl (by_row r at s)
IsOf-put_job q rows gs js n a (by_node g i node at at_i is) = inl (by_node g i node at at_i is)
IsOf-put_job q rows gs js n a (by_job e j at on s) = elim (job_put q js at) [
  | inl new ↦ inr (ap (λ (x : Job). x.row) new.1 ∙ on, ap (λ (x : Job). x.letter.stack) new.1 ∙ s)
  | inr was ↦ inl (by_job e j was.1 on s)
]

pub IsOf-cut_job : (c : ℕ) (rows : List Row) (gs : List Graph) (js : List Job) (n : ℕ) (a : List ℕ) → IsOf rows gs
    (cut_job c js) n a → IsOf rows gs js n a
IsOf-cut_job c rows gs js n a (by_row r at s) = by_row r at s
IsOf-cut_job c rows gs js n a (by_node g i node at at_i is) = by_node g i node at at_i is
IsOf-cut_job c rows gs js n a (by_job e j at on s) = by_job e j (job_cut c js at).1 on s

pub IsOf-cut_graph : (c : List ℕ) (rows : List Row) (gs : List Graph) (js : List Job) (n : ℕ) (a : List ℕ)
    → IsOf rows (cut_graph c gs) js n a → IsOf rows gs js n a
IsOf-cut_graph c rows gs js n a (by_row r at s) = by_row r at s
IsOf-cut_graph c rows gs js n a (by_node g i node at at_i is) = by_node g i node (graph_cut c gs at).1 at_i is
IsOf-cut_graph c rows gs js n a (by_job e j at on s) = by_job e j at on s

pub IsOf-point : (p : Point) (rows : List Row) (gs : List Graph) (js : List Job) (n : ℕ) (a : List ℕ) → IsOf rows
    (put_point p gs) js n a → IsOf rows gs js n a
IsOf-point p rows gs js n a (by_row r at s) = by_row r at s
IsOf-point p rows gs js n a (by_node g i node at at_i is) =
    let (o, at_o, same) = point_found p gs a g at in again o at_o same where
      again : (o : Graph) → graph_at gs a ≡ Some o → (g ≡ with_point p o) ⊎ (g ≡ o) → IsOf rows gs js n a
      again o at_o (inl same) = by_node o i node at_o (subst
          (λ (x : Graph). slice_get x.graph.nodes i ≡ Some node) same at_i) is
      again o at_o (inr same) = by_node o i node at_o (subst
          (λ (x : Graph). slice_get x.graph.nodes i ≡ Some node) same at_i) is
IsOf-point p rows gs js n a (by_job e j at on s) = by_job e j at on s

-- a node of the graph has this row
pub record IsNodeOf (g : TravGraph) (n : ℕ) : Type 0 where
  pub i : ℕ
  pub node : Node
  pub there : slice_get g.nodes i ≡ Some node
  pub its : row_of node ≡ n

pub IsOf-put_graph : (name : List ℕ) (g : TravGraph) (rows : List Row) (gs : List Graph) (js : List Job) (n : ℕ)
    (a : List ℕ)
    → IsOf rows (put_graph (fresh_graph name g) gs) js n a → IsOf rows gs js n a ⊎ (IsNodeOf g n × (name ≡ a))
IsOf-put_graph name g rows gs js n a (by_row r at s) = inl (by_row r at s)
IsOf-put_graph name g rows gs js n a (by_node x i node at at_i is) = elim (graph_put (fresh_graph name g) gs at) [
  | inl new ↦ inr (
    record {
      i = i;
      node = node;
      there = subst
          (λ (y : Graph). slice_get y.graph.nodes i ≡ Some node) (sym new.1) at_i;
      its = is;
    },
    new.0,
  )
  | inr was ↦ inl (by_node x i node was.1 at_i is)
]
IsOf-put_graph name g rows gs js n a (by_job e j at on s) = inl (by_job e j at on s)

pub Owned-put_row : (q : Row) (rows : List Row) (gs : List Graph) (js : List Job) →
    ((a : List ℕ) → IsOf rows gs js q.no a → q.stack ≡ a)
    → Owned rows gs js → Owned (put_row q rows) gs js
Owned-put_row q rows gs js its old = record {
  one = λ n a b x y. elim (IsOf-put_row q rows gs js n a x) [
    | inl u ↦ elim (IsOf-put_row q rows gs js n b y) [
      | inl v ↦ old.one n a b u v
      | inr v ↦ sym (its a (rw v.0 u)) ∙ v.1
    ]
    | inr u ↦ elim (IsOf-put_row q rows gs js n b y) [
      | inl v ↦ sym u.1 ∙ its b (rw u.0 v)
      | inr v ↦ sym u.1 ∙ v.1
    ]
  ];
}

pub Owned-put_job : (q : Job) (rows : List Row) (gs : List Graph) (js : List Job) →
    ((a : List ℕ) → IsOf rows gs js q.row a → q.letter.stack ≡ a)
    → Owned rows gs js → Owned rows gs (put_job q js)
Owned-put_job q rows gs js its old = record {
  one = λ n a b x y. elim (IsOf-put_job q rows gs js n a x) [
    | inl u ↦ elim (IsOf-put_job q rows gs js n b y) [
      | inl v ↦ old.one n a b u v
      | inr v ↦ sym (its a (rw v.0 u)) ∙ v.1
    ]
    | inr u ↦ elim (IsOf-put_job q rows gs js n b y) [
      | inl v ↦ sym u.1 ∙ its b (rw u.0 v)
      | inr v ↦ sym u.1 ∙ v.1
    ]
  ];
}

pub Owned-put_graph : (name : List ℕ) (g : TravGraph) (rows : List Row) (gs : List Graph) (js : List Job)
    → ((n : ℕ) (a : List ℕ) → IsNodeOf g n → IsOf rows gs js n a → name ≡ a) → Owned rows gs js → Owned rows
    (put_graph (fresh_graph name g) gs) js
Owned-put_graph name g rows gs js its old = record {
  one = λ n a b x y. elim (IsOf-put_graph name g rows gs js n a x) [
    | inl u ↦ elim (IsOf-put_graph name g rows gs js n b y) [
      | inl v ↦ old.one n a b u v
      | inr v ↦ sym (its n a v.0 u) ∙ v.1
    ]
    | inr u ↦ elim (IsOf-put_graph name g rows gs js n b y) [
      | inl v ↦ sym u.1 ∙ its n b u.0 v
      | inr v ↦ sym u.1 ∙ v.1
    ]
  ];
}

pub Owned-less : (rows rows' : List Row) (gs gs' : List Graph) (js js' : List Job) →
    ((n : ℕ) (a : List ℕ) → IsOf rows' gs' js' n a → IsOf rows gs js n a)
    → Owned rows gs js → Owned rows' gs' js'
Owned-less rows rows' gs gs' js js' less old = record { one = λ n a b x y. old.one n a b (less n a x) (less n b y) }

-- a row is written under its number and stack
pub Owned-row : (r q : Row) (rows : List Row) (gs : List Graph) (js : List Job) → row_at rows q.no ≡ Some r
    → q.stack ≡ r.stack → Owned rows gs js
    → Owned (put_row q rows) gs js
Owned-row r q rows gs js at same old = Owned-put_row q rows gs js
    (λ a x. same ∙ old.one q.no r.stack a (by_row r at refl) x) old
